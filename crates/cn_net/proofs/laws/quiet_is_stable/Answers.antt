use Rattle.cn_net.proofs.Quiet.{quiet_agrees}
use Rattle.cn_net.proofs.laws.quiet_is_stable.Goals as goal

pub returns : goal.returns
returns c = quiet_agrees
