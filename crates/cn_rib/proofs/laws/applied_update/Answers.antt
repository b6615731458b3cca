use Rattle.cn_rib.proofs.Updates.{applied_elsewhere}
use Rattle.cn_rib.proofs.laws.applied_update.Goals as goal

pub returns : goal.returns
returns c = applied_elsewhere
