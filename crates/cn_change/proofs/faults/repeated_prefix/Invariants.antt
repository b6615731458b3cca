use Rattle.std.proofs.Common.{map}
use Rattle.cn_base.specs.Cidr.{same_prefix}
use Rattle.cn_change.proofs.Twice.{IsSearched}
use Rattle.cn_change.proofs.faults.repeated_prefix.Given as goal

abbrev pub invariant-loop-one : goal.invariant-loop-one
invariant-loop-one l = IsSearched same_prefix (map (λ o. o.prefix) l.own) l.one-index l.before.keys
