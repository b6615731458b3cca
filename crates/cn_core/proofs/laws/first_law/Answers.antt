use Rattle.cn_core.proofs.First.{first_holds}
use Rattle.cn_core.proofs.laws.first_law.Goals as goal

pub returns : goal.returns
returns c = first_holds
