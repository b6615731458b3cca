use Rattle.cn_plan.proofs.Boundaries.{fault_unsafe, safe_not_unsafe}
use Rattle.cn_plan.proofs.laws.safe_or_unsafe.Goals as goal

pub returns-clause-one : goal.returns-clause-one
returns-clause-one c = λ net outside rows safe unsafe. safe_not_unsafe net outside rows safe unsafe

pub returns-clause-fault : goal.returns-clause-fault
returns-clause-fault c = λ net outside rows fault first. fault_unsafe net outside rows fault first
