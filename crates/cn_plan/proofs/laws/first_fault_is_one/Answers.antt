use Rattle.cn_plan.proofs.OneFault.{first_fault_one}
use Rattle.cn_plan.proofs.laws.first_fault_is_one.Goals as goal

pub returns : goal.returns
returns c = λ net outside rows f g h k. first_fault_one net outside rows f g h k
