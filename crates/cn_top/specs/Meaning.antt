-- What is meant by the words, and by what the named files hold.
use Rattle.std.specs.Prelude.{◌≡◌, ◌<◌, ◌⊎◌, ℕ, zero, suc, List, length, Some}
use Rattle.cn_lists.specs.Classical.{Classically}
use Rattle.cn_change.specs.declared.command.Command.{Command}
use Rattle.cn_net.specs.Opening.{Opening}
use Rattle.cn_open.specs.Depth.{sound}
use Rattle.cn_open.specs.OpenFaults.{IsOpenFault}
use Rattle.cn_open.specs.Opens.{IsSafePlan, Opens}
use Rattle.cn_open.specs.declared.fault.OpenFault.{OpenFault}
use Rattle.cn_outside.specs.Shelf.{Held, IsTold, MayHold, absent}
use Rattle.cn_record.specs.Recorded.{RecordedOpening}
use Rattle.cn_top.specs.Deed.{Deed}
use Rattle.cn_top.specs.Form.{Among, Form, plan_form, serial_form, later_form, usage_form, read_at, reads_of}
use Rattle.cn_top.specs.Serial.{ReadsNoScript, IsRunOf, ReadsScript}
use Rattle.cn_top.specs.Texts.{plan_text}
use Rattle.cn_top.specs.Wrong.{line}
use Rattle.cn_top.specs.declared.serial.Run.{Run}
use Rattle.cn_top.specs.declared.status.Status.TheVariants as status
use Rattle.cn_top.specs.declared.wrong.Wrong.{Wrong}
use Rattle.cn_top.specs.declared.wrong.Wrong.TheVariants as wrongs

-- ---- deeds

-- the text of a plan, by one put
abbrev pub plan_deed : Opening → Deed
plan_deed o = line status.Ok (plan_text o)

-- the trace under its name, and then each answer by one put
abbrev pub run_deed : List ℕ → Run → Deed
run_deed trace run =
    record { status = status.Ok; write = Some (trace, run.trace); puts = run.texts }

-- ---- one file

-- the file opens an emulation with a safe boundary
pub record HoldsOpening (held : Held) (r : RecordedOpening) : Type 0 where
  pub bytes : List ℕ
  pub holding : MayHold held bytes
  pub opens : Opens bytes r

-- what is first wrong with the file of a plan
pub record HoldsFault (held : Held) (fault : OpenFault) : Type 0 where
  pub bytes : List ℕ
  pub holding : MayHold held bytes
  pub faulty : IsOpenFault sound bytes fault

pub record HoldsScript (held : Held) (commands : List Command) : Type 0 where
  pub bytes : List ℕ
  pub holding : MayHold held bytes
  pub script : ReadsScript bytes commands

pub record HoldsNoScript (held : Held) : Type 0 where
  pub bytes : List ℕ
  pub holding : MayHold held bytes
  pub none : ReadsNoScript bytes

-- ---- all of them

-- `plan`: the text of the opening is put
pub record Plans (held : Held) (deed : Deed) : Type 0 where
  pub recorded : RecordedOpening
  pub opening : HoldsOpening held recorded
  pub does : deed ≡ plan_deed recorded.opening

-- `serial`: the script is run on the opening, the trace is written, and the answers are put
pub record Runs (file script : Held) (trace : List ℕ) (deed : Deed) : Type 0 where
  pub recorded : RecordedOpening
  pub opening : HoldsOpening file recorded
  pub commands : List Command
  pub scripted : HoldsScript script commands
  pub run : Run
  pub ran : IsRunOf recorded commands run
  pub does : deed ≡ run_deed trace run

-- nothing is wrong, and this is to be done
abbrev pub IsRight : Form → (List ℕ → Held) → Deed → Type 0
IsRight (plan_form file) held deed = Plans (held file) deed
IsRight (serial_form file script trace) held deed = Runs (held file) (held script) trace deed
IsRight (later_form later) held deed = ⊥
IsRight usage_form held deed = ⊥

-- what is first wrong with the file of a plan, as a refusal
abbrev pub IsWrongPlan : Held → Wrong → Type 0
IsWrongPlan held w = (fault : OpenFault) × HoldsFault held fault × (w ≡ wrongs.Plan fault)

-- a safe plan, and no script
abbrev pub IsWrongScript : Held → Held → Wrong → Type 0
IsWrongScript file script w =
    (r : RecordedOpening) × HoldsOpening file r × HoldsNoScript script × (w ≡ wrongs.NoScript)

-- this is first wrong
abbrev pub IsWrong : Form → (List ℕ → Held) → Wrong → Type 0
IsWrong (plan_form file) held w = IsWrongPlan (held file) w
IsWrong (serial_form file script trace) held w =
    IsWrongPlan (held file) w ⊎ IsWrongScript (held file) (held script) w
IsWrong (later_form later) held w = w ≡ wrongs.Later later
IsWrong usage_form held w = ⊥

-- nothing is wrong with the first k files that are read
abbrev pub GoesOn : Form → ℕ → (List ℕ → Held) → Type 0
GoesOn (plan_form file) k held = Unit {0}
GoesOn (serial_form file script trace) zero held = Unit {0}
GoesOn (serial_form file script trace) (suc k) held =
    (r : RecordedOpening) × HoldsOpening (held file) r
GoesOn (later_form later) k held = Unit {0}
GoesOn usage_form k held = Unit {0}

-- ---- valid input

-- the file stands for a plan whose boundary is safe
pub record HoldsSafePlan (held : Held) : Type 0 where
  pub bytes : List ℕ
  pub holding : MayHold held bytes
  pub safe : IsSafePlan bytes

-- Input is valid: the words are a listed form, and each file stands for what it must. That a call
-- on valid input ends with 0 is the completeness of the command.
abbrev pub IsValidInput : Form → (List ℕ → Held) → Type 0
IsValidInput (plan_form file) held = HoldsSafePlan (held file)
IsValidInput (serial_form file script trace) held =
    HoldsSafePlan (held file) × ((commands : List Command) × HoldsScript (held script) commands)
IsValidInput (later_form later) held = ⊥
IsValidInput usage_form held = ⊥

-- ---- one meaning

-- something is told of each of these names
abbrev pub TellsAll : List (List ℕ) → (List ℕ → Held) → Type 0
TellsAll names held = (n : List ℕ) → Among names n → IsTold (held n)

-- the file behind k others, with which nothing is wrong, isn't there
pub record IsMissing (form : Form) (held : List ℕ → Held) (k : ℕ) : Type 0 where
  pub place : k < length (reads_of form)
  pub good : GoesOn form k held
  pub nothing : held (read_at form k) ≡ absent

-- What a call means: something is right, or something is wrong; or a file that is to be read isn't
-- there, or the words are no listed form.
pub data Meaning (form : Form) (held : List ℕ → Held) : Type 0 where
  means_right : (deed : Deed) → IsRight form held deed → Meaning form held
  means_wrong : (w : Wrong) → IsWrong form held w → Meaning form held
  means_missing : (k : ℕ) → IsMissing form held k → Meaning form held
  means_usage : form ≡ usage_form → Meaning form held

-- Exactly one meaning: none is beside another, each is one value, and that none is there is
-- refuted.
pub record OneMeaning (form : Form) (held : List ℕ → Held) : Type 0 where
  pub there : Classically (Meaning form held)
  pub right_once : (d e : Deed) → IsRight form held d → IsRight form held e → d ≡ e
  pub wrong_once : (v w : Wrong) → IsWrong form held v → IsWrong form held w → v ≡ w
  pub missing_once : (j k : ℕ) → IsMissing form held j → IsMissing form held k → j ≡ k
  pub not_both : (d : Deed) (w : Wrong) → IsRight form held d → IsWrong form held w → ⊥
  pub missing_not_right : (k : ℕ) (d : Deed) → IsMissing form held k → IsRight form held d → ⊥
  pub missing_not_wrong : (k : ℕ) (w : Wrong) → IsMissing form held k → IsWrong form held w → ⊥
  pub valid_not_wrong : (w : Wrong) → IsValidInput form held → IsWrong form held w → ⊥
