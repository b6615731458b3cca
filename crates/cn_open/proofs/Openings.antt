-- What a plan whose names are known opens with, and why it doesn't, from what `plan` of `cn_plan`
-- says of it.
use Rattle.std.proofs.Common.{◌≡◌, ℕ, List, sym, subst}
use Rattle.std.specs.List.Sorted.{IsPermutation}
use Rattle.cn_base.specs.declared.ids.DeviceId.{DeviceId}
use Rattle.cn_net.specs.Islands.{outside_of}
use Rattle.cn_net.specs.Network.{Network}
use Rattle.cn_net.specs.declared.draft.Draft.{Draft}
use Rattle.cn_plan.specs.Boundary.{of_record}
use Rattle.cn_plan.specs.Planned.{AnswersPlan, IsPlan}
use Rattle.cn_plan.specs.Selected.{IsSelected}
use Rattle.cn_plan.specs.declared.answer.PlanAnswer.{PlanAnswer}
use Rattle.cn_plan.specs.declared.answer.PlanAnswer.TheVariants as plan
use Rattle.cn_plan.specs.declared.selection.Selection.{Selection}
use Rattle.cn_plan.proofs.Rows.{fault_alike, safe_alike}
use Rattle.cn_plan.proofs.SameRows.{same_rows}
use Rattle.cn_readnet.specs.declared.plan.NetText.{NetText}
use Rattle.cn_record.specs.Recorded.{IsRecorded, RecordedOpening}
use Rattle.cn_record.specs.declared.saved.Row.{Row}
use Rattle.cn_open.specs.Depth.{sound}
use Rattle.cn_open.specs.Emulation.{Emulation, IsEmulationOf, ReadsPlan}
use Rattle.cn_open.specs.Named.{IsNamed, IsNamedAs}
use Rattle.cn_open.specs.OpenFaults.{IsAnswerOf, IsOpenFault}
use Rattle.cn_open.specs.Opens.{Opens}
use Rattle.cn_open.specs.Steps.{unopened_answer}
use Rattle.cn_open.specs.declared.fault.OpenAnswer.{OpenAnswer}
use Rattle.cn_open.specs.declared.naming.Named.{Named}
use Rattle.cn_open.proofs.Readings.{ascends, chooses}

module _ (bytes : List ℕ) (text : NetText) (reads : ReadsPlan bytes text) (net : Network)
    (s : Selection) (saved : List Row) (h : IsNamedAs text net s saved) where
  abbrev emulation : List DeviceId → Emulation
  emulation set = record { net = net; emulated = set; rows = h.rows.rows }

  described : (set : List DeviceId) → IsSelected net s set → IsEmulationOf text (emulation set)
  described set is = record {
    draft = h.draft;
    valid = h.valid;
    chosen = chooses net text.selection s set h.selects is;
    ascending = ascends net s set h.within.1 is;
    recorded = h.rows.read;
    once = h.rows.once;
  }

  planned_opens : (r : RecordedOpening) → IsPlan net s saved r → IsRecorded r → Opens bytes r
  planned_opens r p recorded =
      let set = r.opening.emulated in
      let rows = h.rows.rows in (
        emulation set,
        (text, reads, (described set p.selected, p.limits)),
        record {
          safe =
              safe_alike net (outside_of set) saved rows r.opening
              (same_rows rows saved h.rows.moved h.rows.once) p.plan.safe;
          recorded = recorded;
          rows = subst (IsPermutation rows) (sym p.plan.rows_are) h.rows.moved;
          labelled = p.plan.labelled;
        },
      )

  module _ (draft : Draft) (drafted : draft ≡ text.draft) where
    answered : (why : PlanAnswer) → AnswersPlan net s saved why
        → IsAnswerOf (IsOpenFault sound bytes) (unopened_answer draft why)
    answered (plan.TooMany what count) (set, selected, passes) =
        (text, reads, drafted, (emulation set, described set selected, passes))
    answered (plan.Refused kept refusal) w = (
      emulation w.set,
      (text, reads, (described w.set w.selected, w.limits)),
      w.fault.0,
      w.fault.1,
    )
    answered (plan.Unsound kept d p held wanted) w =
        let rows = h.rows.rows in (
          emulation w.set,
          (text, reads, (described w.set w.selected, w.limits)),
          w.fault.0,
          fault_alike net (outside_of w.set) saved rows (of_record d p held wanted)
              (same_rows rows saved h.rows.moved h.rows.once) w.fault.1,
        )
    answered plan.Memory w = tt

module _ (bytes : List ℕ) (n : Named) (h : IsNamed bytes n) where
  -- a plan whose names are known opens with the plan of its names
  pub named_opens : (r : RecordedOpening) → IsPlan n.net n.selection n.saved r → IsRecorded r
      → Opens bytes r
  named_opens r p recorded =
      planned_opens bytes h.0 h.1 n.net n.selection n.saved h.3 r p recorded

  -- where there is none, what is answered is its fault
  pub named_answered : (why : PlanAnswer) (answer : OpenAnswer)
      → AnswersPlan n.net n.selection n.saved why → answer ≡ unopened_answer n.draft why
      → IsAnswerOf (IsOpenFault sound bytes) answer
  named_answered why answer says is =
      subst (IsAnswerOf (IsOpenFault sound bytes)) (sym is)
      (answered bytes h.0 h.1 n.net n.selection n.saved h.3 n.draft h.2 why says)
