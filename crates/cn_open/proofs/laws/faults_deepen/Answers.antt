use Rattle.cn_open.proofs.OneOpening.{fault_deepens}
use Rattle.cn_open.proofs.laws.faults_deepen.Goals as goal

pub returns : goal.returns
returns c = λ bytes f h. fault_deepens bytes f h
