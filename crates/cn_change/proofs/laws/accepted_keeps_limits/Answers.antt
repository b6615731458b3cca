use Rattle.cn_change.proofs.Accepted.{accepted_within}
use Rattle.cn_change.proofs.laws.accepted_keeps_limits.Goals as goal

pub returns : goal.returns
returns c = accepted_within
