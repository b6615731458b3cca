use Rattle.cn_change.proofs.Accepted.{accepted_valid}
use Rattle.cn_change.proofs.laws.accepted_is_valid.Goals as goal

pub returns : goal.returns
returns c = accepted_valid
