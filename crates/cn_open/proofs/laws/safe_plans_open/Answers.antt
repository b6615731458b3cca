use Rattle.cn_open.proofs.OneOpening.{safe_faultless, unsafe_refused, unsafe_unopened}
use Rattle.cn_open.proofs.laws.safe_plans_open.Goals as goal

pub returns-clause-safe : goal.returns-clause-safe
returns-clause-safe c = λ bytes f h k. safe_faultless bytes f h k

pub returns-clause-unopened : goal.returns-clause-unopened
returns-clause-unopened c = λ bytes r h k. unsafe_unopened bytes r h k

pub returns-clause-boundary : goal.returns-clause-boundary
returns-clause-boundary c = λ bytes f h k. unsafe_refused bytes f h k
