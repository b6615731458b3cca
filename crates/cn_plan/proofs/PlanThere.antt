-- A valid network, a selection of its devices and rows have a plan, or an answer in its place: that
-- neither is there is refuted. Other crates may cite this module.
use Rattle.std.proofs.Common.{◌≡◌, ◌⊎◌, inl, inr, ℕ, List, length, All, refl, sym, ap, ◌∙◌}
use Rattle.std.proofs.lemmas.Bool.{cases_lt}
use Rattle.cn_lists.specs.Classical.{Classically}
use Rattle.cn_lists.proofs.Classical.{and_then, given, with_found}
use Rattle.cn_base.specs.declared.ids.DeviceId.{DeviceId}
use Rattle.cn_grow.proofs.There.{grown_there}
use Rattle.cn_net.specs.Islands.{IsAscending, holds_device, outside_of}
use Rattle.cn_net.specs.Limits.{IsWithinLimits, PassesLimit, most_emulated, most_rows, row_count}
use Rattle.cn_net.specs.Network.{Network, IsDevice}
use Rattle.cn_net.specs.Opening.{Opening}
use Rattle.cn_net.specs.Valid.{IsValid}
use Rattle.cn_net.specs.declared.fault.What.{What}
use Rattle.cn_net.specs.declared.fault.What.TheVariants.{Emulated, Rows}
use Rattle.cn_net.proofs.OneSet.{same_sets}
use Rattle.cn_record.specs.Recorded.{IsRecorded, RecordedOpening}
use Rattle.cn_record.specs.Rows.{AscendsByPair}
use Rattle.cn_record.specs.declared.saved.Row.{Row}
use Rattle.cn_plan.specs.Boundary.{BoundaryFault, IsFirstFault, IsSafeOpening, of_certificate, of_record}
use Rattle.cn_plan.specs.Planned.{AnswersPlan, IsPlan, IsPlanWith}
use Rattle.cn_plan.specs.Selected.{IsSelected, named}
use Rattle.cn_plan.specs.declared.answer.PlanAnswer.{PlanAnswer}
use Rattle.cn_plan.specs.declared.answer.PlanAnswer.TheVariants.{Memory, Refused, TooMany, Unsound}
use Rattle.cn_plan.specs.declared.selection.Selection.{Selection}
use Rattle.cn_plan.specs.declared.selection.Selection.TheVariants.{Emulate, Must}
use Rattle.cn_plan.proofs.OneFault.{not_alike}
use Rattle.cn_plan.proofs.Steps.{answers_selected, plan_selected}
use Rattle.cn_plan.proofs.There.{boundary_there}

-- ---- the emulated devices

-- they are selected, devices of the network, and in ascending order
record IsChosen (net : Network) (s : Selection) (set : List DeviceId) : Type 0 where
  selected : IsSelected net s set
  devices : All (IsDevice net) set
  ascending : IsAscending set

chosen_there : (net : Network) (s : Selection) → IsValid net → All (IsDevice net) (named s)
    → IsAscending (named s) → Classically ((set : List DeviceId) × IsChosen net s set)
chosen_there net (Must must) valid all up =
    with_found (grown_there net must valid all) (λ (set, grown, up, all). (
      set,
      record { selected = (grown, up); devices = all; ascending = up },
    ))
chosen_there net (Emulate set) valid all up =
    given (set, record { selected = refl; devices = all; ascending = up })

-- they pass a limit, or are within both
limit_or_none : (net : Network) (set : List DeviceId)
    → ((what : What) × (count : ℕ) × PassesLimit net set what count) ⊎ IsWithinLimits net set
limit_or_none net set =
    elim (cases_lt most_emulated (length set)) [
      | inl many ↦ inl (Emulated, length set, (refl, many))
      | inr few ↦ elim (cases_lt most_rows (row_count net set)) [
        | inl many ↦ inl (Rows, row_count net set, (few, refl, many))
        | inr few' ↦ inr (record { few_emulated = few; few_rows = few' })
      ]
    ]

-- ---- the plan, or what is answered

-- what is answered in its place, not want of memory
abbrev IsAnswered : Network → Selection → List Row → PlanAnswer → Type 0
IsAnswered net s rows answer = AnswersPlan net s rows answer × (answer ≡ Memory → ⊥)

module _ (net : Network) (s : Selection) (rows : List Row) (set : List DeviceId)
    (chosen : IsChosen net s set) (limits : IsWithinLimits net set) where
  same_emulated : (o : Opening) → IsSafeOpening net (outside_of set) rows o → o.emulated ≡ set
  same_emulated o safe =
      let c = safe.certified in
      same_sets o.emulated set c.opening.ascending chosen.ascending
      (λ d t. not_alike (holds_device o.emulated d) (holds_device set d) (c.emulated d) t)
      (λ d t. not_alike (holds_device set d) (holds_device o.emulated d) (sym (c.emulated d)) t)

  -- a safe boundary makes a plan
  safe_plans : (o : Opening) → AscendsByPair rows → IsSafeOpening net (outside_of set) rows o
      → length o.labels ≡ length net.devices
      → (r : RecordedOpening) × IsPlan net s rows r × IsRecorded r
  safe_plans o up safe labelled =
      let r : RecordedOpening = record { opening = o; rows = rows } in
      let plan : IsPlanWith net set rows r = record {
        emulated = same_emulated o safe;
        safe = safe;
        labelled =
            labelled ∙ sym (ap (λ (n : Network). length n.devices) safe.certified.network);
        rows_are = refl;
      } in (
        r,
        plan_selected net s rows set chosen.selected limits r plan,
        record { opening = safe.certified.opening; ascending = up; sound = safe.sound },
      )

  -- a fault of the boundary is answered
  fault_answered : (fault : BoundaryFault) → IsFirstFault net (outside_of set) rows fault
      → (answer : PlanAnswer) × IsAnswered net s rows answer
  fault_answered (of_certificate refusal) first = (
    Refused net refusal,
    (
      answers_selected net s rows set chosen.selected limits (Refused net refusal) (refl, first),
      λ e. absurd cc,
    ),
  )
  fault_answered (of_record d p held wanted) first = (
    Unsound net d p held wanted,
    (
      answers_selected net s rows set chosen.selected limits (Unsound net d p held wanted)
          (refl, first),
      λ e. absurd cc,
    ),
  )

-- the rows ascend by device and then by prefix
pub plan_there : (net : Network) (s : Selection) (rows : List Row) → IsValid net
    → All (IsDevice net) (named s) → IsAscending (named s) → AscendsByPair rows
    → Classically (((r : RecordedOpening) × IsPlan net s rows r × IsRecorded r)
    ⊎ ((answer : PlanAnswer) × AnswersPlan net s rows answer × (answer ≡ Memory → ⊥)))
plan_there net s rows valid all up rise =
    and_then (chosen_there net s valid all up) (λ (set, chosen). elim (limit_or_none net set) [
      | inl (what, count, passes) ↦
          given (inr (TooMany what count, (set, chosen.selected, passes), λ e. absurd cc))
      | inr limits ↦
          with_found (boundary_there net set rows valid chosen.devices chosen.ascending)
          (λ found. elim found [
            | inl (o, safe, labelled) ↦
                inl (safe_plans net s rows set chosen limits o rise safe labelled)
            | inr (fault, first) ↦
                let a = fault_answered net s rows set chosen limits fault first in
                inr (a.0, a.1.0, a.1.1)
          ])
    ])
