use Rattle.std.proofs.Common.{rules}
use Rattle.cn_record.proofs.places.of_prefix.Goals as goal

pub returns : goal.returns
returns c = c.part_at.ensures (λ x. x.prefix) (λ x k called. search rules) c.requires
