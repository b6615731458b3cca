use Rattle.cn_core.proofs.Owes.{get_owed_holds}
use Rattle.cn_core.proofs.laws.get_owed.Goals as goal

pub returns : goal.returns
returns c = get_owed_holds
