-- The plan and its answers, from what the steps say.
use Rattle.std.proofs.Common.{◌≡◌, List, length, Option, refl, sym, ap, subst, ◌∙◌}
use Rattle.cn_base.specs.declared.ids.DeviceId.{DeviceId}
use Rattle.cn_cert.specs.Certificate.{NamesRefusal}
use Rattle.cn_cert.specs.declared.certificate.CertWhy.{CertWhy}
use Rattle.cn_cert.specs.declared.certificate.CertWhy.TheVariants as cert
use Rattle.cn_net.specs.Islands.{IsIslands, label_of, outside_of}
use Rattle.cn_net.specs.Network.{Network}
use Rattle.cn_net.specs.Opening.{IsOpening, Opening}
use Rattle.cn_record.specs.Recorded.{RecordedOpening, SaysSound}
use Rattle.cn_record.specs.Unsound.{NamesFirst}
use Rattle.cn_record.specs.declared.saved.Row.{Row}
use Rattle.cn_record.specs.declared.soundness.RecordWhy.{RecordWhy}
use Rattle.cn_record.specs.declared.soundness.RecordWhy.TheVariants as why
use Rattle.cn_plan.specs.Boundary.{IsCertifiedOpening}
use Rattle.cn_net.specs.Limits.{IsWithinLimits}
use Rattle.cn_plan.specs.Selected.{IsSelected}
use Rattle.cn_plan.specs.Planned.{AnswersBoundary, AnswersPlan, AnswersRecords, IsPlan, IsPlanWith, uncertified_answer, unrecorded_answer}
use Rattle.cn_plan.specs.declared.answer.PlanAnswer.{PlanAnswer}
use Rattle.cn_plan.specs.declared.answer.PlanAnswer.TheVariants.{Memory, Refused, TooMany, Unsound}
use Rattle.cn_plan.specs.declared.selection.Selection.{Selection}

-- what is answered of a certified opening whose records are refused
pub answers_records : (o : Opening) (rows : List Row) (back : Opening) (w : RecordWhy)
    (answer : PlanAnswer)
    → back ≡ o → NamesFirst o rows w → answer ≡ unrecorded_answer back.net w
    → AnswersRecords o rows answer
answers_records o rows back w answer same names is =
    subst (AnswersRecords o rows) (sym is) (by w names)
  where
    by : (w : RecordWhy) → NamesFirst o rows w
        → AnswersRecords o rows (unrecorded_answer back.net w)
    by (why.Unsound d p held wanted) first = (ap (λ (x : Opening). x.net) same, first)
    by why.Memory _ = tt

module _ (net : Network) (set : List DeviceId) (rows : List Row) where
  -- what is answered of a boundary without a certificate
  pub answers_refused : (labels : List (Option DeviceId)) (back : Network) (w : CertWhy)
      (answer : PlanAnswer)
      → IsIslands net (outside_of set) (label_of labels) → back ≡ net
      → NamesRefusal net (outside_of set) (label_of labels) w
      → answer ≡ uncertified_answer back w → AnswersBoundary net (outside_of set) rows answer
  answers_refused labels back w answer islands same names is =
      subst (AnswersBoundary net (outside_of set) rows) (sym is) (by w names)
    where
      by : (w : CertWhy) → NamesRefusal net (outside_of set) (label_of labels) w
          → AnswersBoundary net (outside_of set) rows (uncertified_answer back w)
      by (cert.Refused refusal) first = (same, (label_of labels, islands, first))
      by cert.Memory _ = tt

  module _ (labels : List (Option DeviceId)) (o : Opening)
      (islands : IsIslands net (outside_of set) (label_of labels))
      (is : o ≡ record { net = net; emulated = set; labels = labels }) (opening : IsOpening o) where
    opened : IsCertifiedOpening net (outside_of set) o
    opened =
        subst (λ (x : Opening). IsOpening x → IsCertifiedOpening net (outside_of set) x) (sym is)
        (λ opening.
        record { network = refl; emulated = λ d. refl; islands = islands; opening = opening })
        opening

    -- what is answered of a certified boundary
    pub answers_opening : (answer : PlanAnswer) → AnswersRecords o rows answer
        → AnswersBoundary net (outside_of set) rows answer
    answers_opening (TooMany what count) h = h
    answers_opening (Refused kept refusal) h = absurd h
    answers_opening (Unsound kept d p held wanted) (same, first) =
        (same ∙ ap (λ (x : Opening). x.net) is, (o, opened, first))
    answers_opening Memory h = tt

    -- the plan of a certified boundary
    pub plan_opening : length labels ≡ length net.devices → (r : RecordedOpening)
        → r ≡ record { opening = o; rows = rows } → SaysSound o rows → IsPlanWith net set rows r
    plan_opening sized r same sound =
        subst (IsPlanWith net set rows) (sym same) (record {
          emulated = ap (λ (x : Opening). x.emulated) is;
          safe = record { certified = opened; sound = sound };
          labelled =
              ap (λ (x : Opening). length x.labels) is ∙ sized
              ∙ sym (ap (λ (x : Opening). length x.net.devices) is);
          rows_are = refl;
        })

module _ (net : Network) (selection : Selection) (rows : List Row) (set : List DeviceId)
    (selected : IsSelected net selection set) (limits : IsWithinLimits net set) where
  -- the plan with the selected devices
  pub plan_selected : (r : RecordedOpening) → IsPlanWith net set rows r
      → IsPlan net selection rows r
  plan_selected r h = record {
    selected = subst (IsSelected net selection) (sym h.emulated) selected;
    limits = subst (IsWithinLimits net) (sym h.emulated) limits;
    plan = subst (λ (s : List DeviceId). IsPlanWith net s rows r) (sym h.emulated) h;
  }

  -- what is answered within the limits
  pub answers_selected : (answer : PlanAnswer) → AnswersBoundary net (outside_of set) rows answer
      → AnswersPlan net selection rows answer
  answers_selected (TooMany what count) h = absurd h
  answers_selected (Refused kept refusal) h =
      record { set = set; selected = selected; limits = limits; fault = h }
  answers_selected (Unsound kept d p held wanted) h =
      record { set = set; selected = selected; limits = limits; fault = h }
  answers_selected Memory h = tt
