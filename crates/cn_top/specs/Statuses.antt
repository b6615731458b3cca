-- When a status comes, said of each command in its own words.
use Rattle.std.specs.Prelude.{◌≡◌, ℕ, List}
use Rattle.cn_change.specs.declared.command.Command.{Command}
use Rattle.cn_net.specs.declared.draft.Draft.{Draft}
use Rattle.cn_open.specs.OpenFaults.{IsBoundaryFault}
use Rattle.cn_open.specs.Opens.{IsUnsafePlan}
use Rattle.cn_open.specs.declared.fault.OpenFault.{OpenFault}
use Rattle.cn_open.specs.declared.fault.OpenFault.TheVariants.{Net, NoPlan}
use Rattle.cn_open.specs.declared.fault.PlanFault.{PlanFault}
use Rattle.cn_open.specs.declared.fault.TextFault.{TextFault}
use Rattle.cn_outside.specs.Scene.{Scene}
use Rattle.cn_outside.specs.Shelf.{Held, MayHold}
use Rattle.cn_record.specs.Recorded.{RecordedOpening}
use Rattle.cn_top.specs.Ending.{IsWhole}
use Rattle.cn_top.specs.Form.{Form, plan_form, serial_form, later_form, usage_form, read_at}
use Rattle.cn_top.specs.Meaning.{HoldsFault, HoldsNoScript, HoldsOpening, HoldsScript, plan_deed, run_deed}
use Rattle.cn_top.specs.Serial.{IsRunOf}
use Rattle.cn_top.specs.Wrong.{line_of}
use Rattle.cn_top.specs.declared.form.Later.{Later}
use Rattle.cn_top.specs.declared.serial.Run.{Run}
use Rattle.cn_top.specs.declared.wrong.Wrong.TheVariants as wrongs

-- ---- the plan of a command

-- the command reads a plan first
abbrev pub OpensPlan : Form → Type 0
OpensPlan (plan_form file) = Unit {0}
OpensPlan (serial_form file script trace) = Unit {0}
OpensPlan (later_form later) = ⊥
OpensPlan usage_form = ⊥

-- what is told of the file of the plan
abbrev pub plan_held : Form → Scene → Held
plan_held form before = before.files.held (read_at form 0)

-- the file stands for a plan whose boundary isn't safe
pub record HoldsUnsafePlan (held : Held) : Type 0 where
  pub bytes : List ℕ
  pub holding : MayHold held bytes
  pub unsafe : IsUnsafePlan bytes

-- ---- 0

-- the file opens an emulation with a safe boundary, and the text of its plan is put
pub record IsPlanPut (file : List ℕ) (before after : Scene) : Type 0 where
  pub recorded : RecordedOpening
  pub opening : HoldsOpening (before.files.held file) recorded
  pub whole : IsWhole before after (plan_deed recorded.opening)

-- The files stand for an emulation behind a safe boundary and a script; the trace of the script's
-- serial play is under its name, and the answers to its commands are put, one put each. A pull
-- shows the tables of the emulated devices in the one stable state of the whole network exactly
-- where the state is quiet, and else names what is first pending (`IsRunOf`).
pub record IsScriptRun (file script trace : List ℕ) (before after : Scene) : Type 0 where
  pub recorded : RecordedOpening
  pub opening : HoldsOpening (before.files.held file) recorded
  pub commands : List Command
  pub scripted : HoldsScript (before.files.held script) commands
  pub run : Run
  pub ran : IsRunOf recorded commands run
  pub whole : IsWhole before after (run_deed trace run)

-- ---- 1

-- the boundary of the plan isn't safe, and what is first wrong with it is put
pub record IsBoundaryRefused (form : Form) (before after : Scene) : Type 0 where
  pub fault : OpenFault
  pub boundary : IsBoundaryFault fault
  pub faulty : HoldsFault (plan_held form before) fault
  pub whole : IsWhole before after (line_of form (wrongs.Plan fault))

-- ---- 6

-- no plan is read from the file, and the first reason is put, with its place
pub record IsBadText (form : Form) (before after : Scene) : Type 0 where
  pub why : TextFault
  pub faulty : HoldsFault (plan_held form before) (NoPlan why)
  pub whole : IsWhole before after (line_of form (wrongs.Plan (NoPlan why)))

-- ---- 7

-- the plan that is read stands for no emulation, and the first reason is put
pub record IsNoEmulation (form : Form) (before after : Scene) : Type 0 where
  pub draft : Draft
  pub fault : PlanFault
  pub faulty : HoldsFault (plan_held form before) (Net draft fault)
  pub whole : IsWhole before after (line_of form (wrongs.Plan (Net draft fault)))

-- ---- 9

-- a command, or a form of scripts, isn't built yet, and that is put
pub data IsNotBuilt (form : Form) (before after : Scene) : Type 0 where
  no_command : (later : Later) → form ≡ later_form later
      → IsWhole before after (line_of form (wrongs.Later later)) → IsNotBuilt form before after
  no_script : HoldsNoScript (before.files.held (read_at form 1))
      → IsWhole before after (line_of form wrongs.NoScript) → IsNotBuilt form before after
