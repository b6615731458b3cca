use Rattle.cn_core.proofs.Quiet.{quiet_holds}
use Rattle.cn_core.proofs.laws.quiet_law.Goals as goal

pub returns : goal.returns
returns c = quiet_holds
