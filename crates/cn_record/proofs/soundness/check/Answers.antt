use Rattle.cn_record.proofs.soundness.check.Goals as goal

-- no prefix is originated in two islands, since each island has its certificate
pub island_prefixes-requires : goal.island_prefixes-requires
island_prefixes-requires c =
    rw (c.net.ensures, c.labels.ensures) (λ i. (c.valid.ensures.certified.island i).origins)
