use Rattle.cn_change.proofs.Accepted.{accepted_possible}
use Rattle.cn_change.proofs.laws.accepted_can_be_made.Goals as goal

pub returns : goal.returns
returns c = accepted_possible
