-- What the stages answer. These are words of private functions.
use Rattle.std.specs.Prelude.{◌≡◌, ℕ, List, None, Option, Some, Result, MatchResult}
use Rattle.cn_net.specs.declared.draft.Draft.{Draft}
use Rattle.cn_plan.specs.declared.answer.PlanAnswer.{PlanAnswer}
use Rattle.cn_plan.specs.declared.answer.PlanAnswer.TheVariants as plan
use Rattle.cn_readnet.specs.declared.plan.NetText.{NetText}
use Rattle.cn_open.specs.Depth.{named}
use Rattle.cn_open.specs.Faults.{IsPlanFault}
use Rattle.cn_open.specs.declared.fault.NameAnswer.{NameAnswer}
use Rattle.cn_open.specs.declared.fault.NameAnswer.TheVariants as name
use Rattle.cn_open.specs.declared.fault.OpenAnswer.{OpenAnswer}
use Rattle.cn_open.specs.declared.fault.OpenAnswer.TheVariants as answer
use Rattle.cn_open.specs.declared.fault.OpenFault.TheVariants as open_fault
use Rattle.cn_open.specs.declared.fault.PlanFault.TheVariants as fault
use Rattle.cn_open.specs.declared.fault.StageAnswer.{StageAnswer}
use Rattle.cn_open.specs.declared.fault.StageAnswer.TheVariants as stage

-- an unknown name in an answer is the first; want of memory tells nothing of it
abbrev pub IsFirstUnknown : Option (List ℕ) → NameAnswer → Type 0
IsFirstUnknown first (name.Unknown unknown) = first ≡ Some unknown
IsFirstUnknown first name.Memory = Unit {0}

-- what is answered tells of the first unknown name: Ok that there is none, an unknown name that it
-- is the first
abbrev pub TellsUnknown : {T : Type 0} → Option (List ℕ) → Result T NameAnswer → Type 0
TellsUnknown first answer = MatchResult answer (λ _. first ≡ None) (IsFirstUnknown first)

-- a fault in an answer is the plan's; want of memory tells nothing of it
abbrev pub StopsAt : NetText → StageAnswer → Type 0
StopsAt text (stage.Fault fault) = IsPlanFault named text fault
StopsAt text stage.Memory = Unit {0}

-- what is answered to a plan with this draft, in place of what the plan of its names is
abbrev pub unopened_answer : Draft → PlanAnswer → OpenAnswer
unopened_answer draft (plan.TooMany what count) =
    answer.Fault (open_fault.Net draft (fault.TooMany what count))
unopened_answer draft (plan.Refused net refusal) = answer.Fault (open_fault.Refused net refusal)
unopened_answer draft (plan.Unsound net d p held wanted) =
    answer.Fault (open_fault.Unsound net d p held wanted)
unopened_answer draft plan.Memory = answer.Memory
