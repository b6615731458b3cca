use Rattle.cn_core.proofs.Kept.{run_holds}
use Rattle.cn_core.proofs.laws.run_law.Goals as goal

pub returns : goal.returns
returns c = run_holds
