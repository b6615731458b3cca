-- A text opens or has a fault: that neither is there is refuted. The layer above may cite this
-- module.
use Rattle.std.proofs.Common.{◌≡◌, ℕ, ◌⊎◌, inl, inr, List, length, None, Some, Ok, Err, refl, sym, subst, ◌∙◌}
use Rattle.std.specs.Prelude.{find}
use Rattle.std.specs.List.{flat_map}
use Rattle.std.proofs.lemmas.Bool.{cases_lt}
use Rattle.cn_lists.specs.Classical.{Classically}
use Rattle.cn_lists.proofs.Classical.{given, with_found}
use Rattle.cn_net.specs.Drafted.{draft_of}
use Rattle.cn_net.specs.Faults.{fault_of}
use Rattle.cn_net.specs.Network.{Network}
use Rattle.cn_net.specs.Valid.{IsValid}
use Rattle.cn_net.specs.declared.draft.Draft.{Draft}
use Rattle.cn_net.proofs.Making.{stands_for}
use Rattle.cn_plan.specs.Planned.{AnswersPlan}
use Rattle.cn_plan.specs.declared.answer.PlanAnswer.{PlanAnswer}
use Rattle.cn_plan.specs.declared.answer.PlanAnswer.TheVariants as plan
use Rattle.cn_plan.proofs.PlanThere.{plan_there}
use Rattle.cn_readnet.specs.Plan.{plan_of}
use Rattle.cn_readnet.specs.declared.plan.NetText.{NetText}
use Rattle.cn_record.specs.Recorded.{RecordedOpening}
use Rattle.cn_record.proofs.Repeating.{saved_or_repeat}
use Rattle.cn_open.specs.Depth.{named, sound}
use Rattle.cn_open.specs.Emulation.{ReadsPlan, plan_limit}
use Rattle.cn_open.specs.Faults.{IsPlanFault, first_unknown, plan_names, row_names, selection_names}
use Rattle.cn_open.specs.Named.{IsNamed, IsNamedAs}
use Rattle.cn_open.specs.OpenFaults.{IsOpenFault, IsTextFault}
use Rattle.cn_open.specs.Opens.{Opens}
use Rattle.cn_open.specs.Steps.{unopened_answer}
use Rattle.cn_open.specs.declared.fault.OpenFault.{OpenFault}
use Rattle.cn_open.specs.declared.fault.OpenFault.TheVariants as open_fault
use Rattle.cn_open.specs.declared.fault.PlanFault.{PlanFault}
use Rattle.cn_open.specs.declared.fault.PlanFault.TheVariants as fault
use Rattle.cn_open.specs.declared.fault.TextFault.{TextFault}
use Rattle.cn_open.specs.declared.fault.TextFault.TheVariants as text_fault
use Rattle.cn_open.specs.declared.naming.Named.{Named}
use Rattle.cn_open.proofs.Known.{find-front_none, rows_there, selected_there, unborne}
use Rattle.cn_open.proofs.Names.{find_behind}
use Rattle.cn_open.proofs.OneOpening.{fault_deepens}
use Rattle.cn_open.proofs.Openings.{named_answered, named_opens}

-- ---- the plan is read

-- a plan is read from the text, or there is a reason why none is
abbrev ReadsOrNot : List ℕ → Type 0
ReadsOrNot bytes =
    ((text : NetText) × ReadsPlan bytes text) ⊎ ((why : TextFault) × IsTextFault bytes why)

text_there : (bytes : List ℕ) → ReadsOrNot bytes
text_there bytes =
    elim (cases_lt plan_limit (length bytes)) [
      | inl long ↦ inr (text_fault.TooLong plan_limit, (refl, long))
      | inr short ↦ elim (plan_of bytes) as (λ r. plan_of bytes ≡ r → ReadsOrNot bytes) [
        | Ok text ↦ λ is. inl (text, (short, is))
        | Err e ↦ λ is. inr (text_fault.Bad e, (short, is))
      ] refl
    ]

-- ---- its names are known

-- what a plan names, whose network is made
module _ (bytes : List ℕ) (text : NetText) (reads : ReadsPlan bytes text) where
  abbrev NamedOrFault : Type 0
  NamedOrFault = ((n : Named) × IsNamed bytes n) ⊎ ((f : PlanFault) × IsPlanFault named text f)

  module _ (none : fault_of text.draft ≡ None) (net : Network) (valid : IsValid net)
      (drafted : draft_of net ≡ text.draft)
      (known : first_unknown text.draft (plan_names text) ≡ None) where
    all_borne : find (unborne net) (plan_names text) ≡ None
    all_borne =
        subst (λ (d : Draft). first_unknown d (plan_names text) ≡ None) (sym drafted) known

    rows_named : NamedOrFault
    rows_named =
        let chosen = selection_names text.selection in
        let recorded = flat_map row_names text.rows in
        let front = find-front_none (unborne net) chosen recorded all_borne in
        let behind = sym (find_behind (unborne net) chosen recorded front) ∙ all_borne in
        let (s, selects, within) = selected_there net text.selection front in
        let (rows, read) = rows_there net text.rows behind in
        elim (saved_or_repeat rows) [
          | inl (saved, moved, up, once) ↦
              let stands : IsNamedAs text net s saved = record {
                draft = drafted;
                valid = valid;
                selects = selects;
                within = within;
                rows =
                    record { rows = rows; read = read; once = once; moved = moved; ascending = up };
              } in inl (
                record { net = net; selection = s; saved = saved; draft = text.draft },
                (text, reads, refl, stands),
              )
          | inr (d, p, first) ↦
              inr (
                fault.Repeat d p,
                ((none, known), (net, rows, drafted, valid, read, first)),
              )
        ]

  names_there : NamedOrFault
  names_there =
      elim (fault_of text.draft) as (λ o. fault_of text.draft ≡ o → NamedOrFault) [
        | Some f ↦ λ is. inr (fault.Net f, is)
        | None ↦
            λ none.
            let (net, valid, drafted) = stands_for text.draft none in
            let first = first_unknown text.draft (plan_names text) in
            elim first as (λ o. first ≡ o → NamedOrFault) [
              | Some name ↦ λ is. inr (fault.Unknown name, (none, is))
              | None ↦ λ known. rows_named none net valid drafted known
            ] refl
      ] refl

-- a text names a network, devices and rows, or has a fault on the way there
pub named_there : (bytes : List ℕ)
    → ((n : Named) × IsNamed bytes n) ⊎ ((f : OpenFault) × IsOpenFault named bytes f)
named_there bytes =
    elim (text_there bytes) [
      | inr (why, is) ↦ inr (open_fault.NoPlan why, is)
      | inl (text, reads) ↦ elim (names_there bytes text reads) [
        | inl found ↦ inl found
        | inr (f, is) ↦ inr (open_fault.Net text.draft f, (text, reads, refl, is))
      ]
    ]

-- ---- it opens

-- an answer that isn't want of memory is a fault
answered_fault : (bytes : List ℕ) (n : Named) → IsNamed bytes n → (why : PlanAnswer)
    → AnswersPlan n.net n.selection n.saved why → (why ≡ plan.Memory → ⊥)
    → (f : OpenFault) × IsOpenFault sound bytes f
answered_fault bytes n h (plan.TooMany what count) says starved =
    let why = plan.TooMany what count in (
      open_fault.Net n.draft (fault.TooMany what count),
      named_answered bytes n h why (unopened_answer n.draft why) says refl,
    )
answered_fault bytes n h (plan.Refused net refusal) says starved =
    let why = plan.Refused net refusal in (
      open_fault.Refused net refusal,
      named_answered bytes n h why (unopened_answer n.draft why) says refl,
    )
answered_fault bytes n h (plan.Unsound net d p held wanted) says starved =
    let why = plan.Unsound net d p held wanted in (
      open_fault.Unsound net d p held wanted,
      named_answered bytes n h why (unopened_answer n.draft why) says refl,
    )
answered_fault bytes n h plan.Memory says starved = absurd (starved refl)

-- a text opens, or has a fault
pub opening_there : (bytes : List ℕ)
    → Classically (((r : RecordedOpening) × Opens bytes r)
    ⊎ ((f : OpenFault) × IsOpenFault sound bytes f))
opening_there bytes =
    elim (named_there bytes) [
      | inr (f, is) ↦ given (inr (f, fault_deepens bytes f is))
      | inl (n, h) ↦
          let (text, reads, same, stands) = h in
          with_found
          (plan_there n.net n.selection n.saved stands.valid stands.within.0 stands.within.1
          stands.rows.ascending)
          (λ found. elim found [
            | inl (r, p, recorded) ↦ inl (r, named_opens bytes n h r p recorded)
            | inr (why, says, starved) ↦ inr (answered_fault bytes n h why says starved)
          ])
    ]
