-- A network, a selection and rows with a plan have no other answer than want of memory.
use Rattle.std.proofs.Common.{◌≡◌, ◌∙◌, ℕ, List, refl, sym, subst, arith}
use Rattle.cn_base.specs.declared.ids.DeviceId.{DeviceId}
use Rattle.cn_grow.specs.Growth.{IsGrown}
use Rattle.cn_net.specs.Islands.{IsAscending, outside_of}
use Rattle.cn_net.specs.Limits.{IsWithinLimits, PassesLimit}
use Rattle.cn_net.specs.Network.{Network}
use Rattle.cn_net.specs.declared.fault.What.{What}
use Rattle.cn_net.specs.declared.fault.What.TheVariants as what
use Rattle.cn_net.proofs.OneSet.{same_sets}
use Rattle.cn_record.specs.Recorded.{RecordedOpening}
use Rattle.cn_record.specs.declared.saved.Row.{Row}
use Rattle.cn_plan.specs.Boundary.{BoundaryFault, IsFirstFault, of_certificate, of_record}
use Rattle.cn_plan.specs.Planned.{AnswersPlan, IsPlan}
use Rattle.cn_plan.specs.Selected.{IsSelected}
use Rattle.cn_plan.specs.declared.answer.PlanAnswer.{PlanAnswer}
use Rattle.cn_plan.specs.declared.answer.PlanAnswer.TheVariants.{Memory, Refused, TooMany, Unsound}
use Rattle.cn_plan.specs.declared.selection.Selection.{Selection}
use Rattle.cn_plan.specs.declared.selection.Selection.TheVariants.{Emulate, Must}
use Rattle.cn_plan.proofs.Boundaries.{fault_unsafe, safe_not_unsafe, safe_of}

-- the set that is grown is one
one_grown : (net : Network) (must x y : List DeviceId) → IsGrown net must x → IsAscending x
    → IsGrown net must y → IsAscending y → x ≡ y
one_grown net must x y grown up grown' up' =
    same_sets x y up up' (grown.least y grown'.given grown'.closed)
    (grown'.least x grown.given grown.closed)

-- the devices that are selected are one set
one_selected : (net : Network) (selection : Selection) (x y : List DeviceId)
    → IsSelected net selection x → IsSelected net selection y → x ≡ y
one_selected net (Must must) x y (grown, up) (grown', up') =
    one_grown net must x y grown up grown' up'
one_selected net (Emulate emulated) x y is is' = is ∙ sym is'

-- a set within the limits passes none
pub within_passes_none : (net : Network) (set : List DeviceId) (w : What) (count : ℕ)
    → IsWithinLimits net set → PassesLimit net set w count → ⊥
within_passes_none net set what.Emulated count limits (is, above) =
    omega (arith, limits.few_emulated)
within_passes_none net set what.Rows count limits (few, is, above) = omega (arith, limits.few_rows)
within_passes_none net set what.Devices count limits h = h
within_passes_none net set what.Links count limits h = h
within_passes_none net set what.Prefixes count limits h = h

module _ (net : Network) (selection : Selection) (rows : List Row) (r : RecordedOpening)
    (plan : IsPlan net selection rows r) where
  -- the boundary of the selected devices has no fault
  no_fault : (set : List DeviceId) (fault : BoundaryFault) → IsSelected net selection set
      → IsFirstFault net (outside_of set) rows fault → ⊥
  no_fault set fault selected first =
      let same = one_selected net selection set r.opening.emulated selected plan.selected in
      let here = subst (λ s. IsFirstFault net (outside_of s) rows fault) same first in
      let outside = outside_of r.opening.emulated in
      safe_not_unsafe net outside rows
      (safe_of net outside rows r.opening plan.plan.safe)
      (fault_unsafe net outside rows fault here)

  pub plan_not_answer : (answer : PlanAnswer) → AnswersPlan net selection rows answer
      → answer ≡ Memory
  plan_not_answer (TooMany w count) (set, selected, passes) =
      let same = one_selected net selection set r.opening.emulated selected plan.selected in
      absurd (within_passes_none net r.opening.emulated w count plan.limits
      (subst (λ s. PassesLimit net s w count) same passes))
  plan_not_answer (Refused kept refusal) h =
      absurd (no_fault h.set (of_certificate refusal) h.selected h.fault.1)
  plan_not_answer (Unsound kept d p held wanted) h =
      absurd (no_fault h.set (of_record d p held wanted) h.selected h.fault.1)
  plan_not_answer Memory h = refl
