use Rattle.cn_core.proofs.Owes.{empty_owed_holds}
use Rattle.cn_core.proofs.laws.empty_owed.Goals as goal

pub returns : goal.returns
returns c = empty_owed_holds
