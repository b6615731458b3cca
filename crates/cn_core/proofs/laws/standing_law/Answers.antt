use Rattle.cn_core.proofs.Stands.{standing_holds}
use Rattle.cn_core.proofs.laws.standing_law.Goals as goal

pub returns : goal.returns
returns c = standing_holds
