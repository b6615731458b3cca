use Rattle.cn_core.proofs.Owes.{decided_owed_holds}
use Rattle.cn_core.proofs.laws.decided_owed.Goals as goal

pub returns : goal.returns
returns c = decided_owed_holds
