-- The order of ranks is total.
use Rattle.std.specs.Cmp.{IsTotalOrder, bool_cmp_total}
use Rattle.std.proofs.lemmas.Cmp.{then_total, on_total, nat_cmp_total}
use Rattle.cn_base.specs.Rank.{rank_cmp, origin_code}
use Rattle.cn_base.specs.declared.rank.Rank.{Rank}

pub rank_cmp_total : IsTotalOrder rank_cmp
rank_cmp_total =
    then_total (on_total (λ (r : Rank). r.learnt) bool_cmp_total)
    (then_total (on_total (λ (r : Rank). r.length) nat_cmp_total)
    (then_total (on_total (λ (r : Rank). origin_code r.origin) nat_cmp_total)
    (on_total (λ (r : Rank). r.sender.0) nat_cmp_total)))
