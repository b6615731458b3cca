-- The plan of a network, and why there is none.
use Rattle.std.specs.Prelude.{◌≡◌, Bool, List, length}
use Rattle.cn_base.specs.declared.ids.DeviceId.{DeviceId}
use Rattle.cn_cert.specs.declared.certificate.CertWhy.{CertWhy}
use Rattle.cn_cert.specs.declared.certificate.CertWhy.TheVariants as cert
use Rattle.cn_net.specs.Islands.{outside_of}
use Rattle.cn_net.specs.Network.{Network}
use Rattle.cn_net.specs.Opening.{Opening}
use Rattle.cn_record.specs.Recorded.{RecordedOpening}
use Rattle.cn_record.specs.Unsound.{IsFirstUnsound}
use Rattle.cn_record.specs.declared.saved.Row.{Row}
use Rattle.cn_record.specs.declared.soundness.RecordWhy.{RecordWhy}
use Rattle.cn_record.specs.declared.soundness.RecordWhy.TheVariants as why
use Rattle.cn_plan.specs.Boundary.{IsFirstFault, IsSafeOpening, of_certificate, of_record}
use Rattle.cn_net.specs.Limits.{IsWithinLimits, PassesLimit}
use Rattle.cn_plan.specs.Selected.{IsSelected}
use Rattle.cn_plan.specs.declared.answer.PlanAnswer.{PlanAnswer}
use Rattle.cn_plan.specs.declared.answer.PlanAnswer.TheVariants.{Memory, Refused, TooMany, Unsound}
use Rattle.cn_plan.specs.declared.selection.Selection.{Selection}

-- ---- a plan

-- the safe opening of the network with exactly these emulated devices, an entry of labels for each
-- device, and its rows
pub record IsPlanWith (net : Network) (set : List DeviceId) (rows : List Row)
    (r : RecordedOpening) : Type 0 where
  pub emulated : r.opening.emulated ≡ set
  pub safe : IsSafeOpening net (outside_of set) rows r.opening
  pub labelled : length r.opening.labels ≡ length r.opening.net.devices
  pub rows_are : r.rows ≡ rows

-- the emulated devices are those that are selected, within the limits, and the opening with them is
-- safe
pub record IsPlan (net : Network) (selection : Selection) (rows : List Row)
    (r : RecordedOpening) : Type 0 where
  pub selected : IsSelected net selection r.opening.emulated
  pub limits : IsWithinLimits net r.opening.emulated
  pub plan : IsPlanWith net r.opening.emulated rows r

-- ---- why there is none; want of memory says nothing

-- the first fault of the boundary, and the network
abbrev pub AnswersBoundary : Network → (DeviceId → Bool) → List Row → PlanAnswer → Type 0
AnswersBoundary net outside rows (TooMany what count) = ⊥
AnswersBoundary net outside rows (Refused kept refusal) =
    (kept ≡ net) × IsFirstFault net outside rows (of_certificate refusal)
AnswersBoundary net outside rows (Unsound kept d p held wanted) =
    (kept ≡ net) × IsFirstFault net outside rows (of_record d p held wanted)
AnswersBoundary net outside rows Memory = Unit {0}

-- the emulated devices are selected, these are within the limits, and this is the answer of their
-- boundary
pub record AnswersWithin (net : Network) (selection : Selection) (rows : List Row)
    (answer : PlanAnswer) : Type 0 where
  pub set : List DeviceId
  pub selected : IsSelected net selection set
  pub limits : IsWithinLimits net set
  pub fault : AnswersBoundary net (outside_of set) rows answer

-- the limit that the selected devices pass; or, within the limits, the first fault of their
-- boundary
abbrev pub AnswersPlan : Network → Selection → List Row → PlanAnswer → Type 0
AnswersPlan net selection rows (TooMany what count) =
    (set : List DeviceId) × IsSelected net selection set × PassesLimit net set what count
AnswersPlan net selection rows (Refused kept refusal) =
    AnswersWithin net selection rows (Refused kept refusal)
AnswersPlan net selection rows (Unsound kept d p held wanted) =
    AnswersWithin net selection rows (Unsound kept d p held wanted)
AnswersPlan net selection rows Memory = Unit {0}

-- ---- what the code answers, of what the certificate and the records say. These are words of
-- private functions.

abbrev pub uncertified_answer : Network → CertWhy → PlanAnswer
uncertified_answer net (cert.Refused refusal) = Refused net refusal
uncertified_answer net cert.Memory = Memory

abbrev pub unrecorded_answer : Network → RecordWhy → PlanAnswer
unrecorded_answer net (why.Unsound d p held wanted) = Unsound net d p held wanted
unrecorded_answer net why.Memory = Memory

-- the first record that isn't sound, and the network of the opening
abbrev pub AnswersRecords : Opening → List Row → PlanAnswer → Type 0
AnswersRecords o rows (TooMany what count) = ⊥
AnswersRecords o rows (Refused kept refusal) = ⊥
AnswersRecords o rows (Unsound kept d p held wanted) =
    (kept ≡ o.net) × IsFirstUnsound o rows d p held wanted
AnswersRecords o rows Memory = Unit {0}
