use Rattle.cn_change.proofs.Accepted.{accepted_inside}
use Rattle.cn_change.proofs.laws.accepted_is_inside.Goals as goal

pub returns : goal.returns
returns c = accepted_inside
