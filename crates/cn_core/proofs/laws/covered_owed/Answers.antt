use Rattle.cn_core.proofs.Owes.{covered_owed_holds}
use Rattle.cn_core.proofs.laws.covered_owed.Goals as goal

pub returns : goal.returns
returns c = covered_owed_holds
