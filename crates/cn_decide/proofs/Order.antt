-- Other crates may cite this: what has a rank is ordered by it.
use Rattle.std.specs.Cmp.{IsStrictWeakOrder}
use Rattle.cn_base.proofs.RankOrder.{rank_cmp_total}
use Rattle.std.proofs.lemmas.List.MinMax.{ranks_by}
use Rattle.cn_base.specs.declared.rank.Rank.{Rank}
use Rattle.cn_decide.specs.Decide.{outranks_by}

-- nothing outranks itself, and so on
pub outranks_by_order : {A : Type 0} (rank : A → Rank) → IsStrictWeakOrder (outranks_by rank)
unfolding outranks_by
outranks_by_order rank = ranks_by rank_cmp_total rank
