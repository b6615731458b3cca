use Rattle.cn_pack.proofs.Fullest.{computed, one_packed}
use Rattle.cn_pack.proofs.Same.{wants_is_equal}
use Rattle.cn_pack.proofs.laws.packing_rule.Goals as goal

pub returns-clause-computed : goal.returns-clause-computed
returns-clause-computed c = computed

pub returns-clause-one : goal.returns-clause-one
returns-clause-one c = one_packed

pub returns-clause-equal : goal.returns-clause-equal
returns-clause-equal c = wants_is_equal
