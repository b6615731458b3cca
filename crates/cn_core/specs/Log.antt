-- The core as contracts see it: a recorded opening and a history. Its state is computed from them.
use Rattle.std.specs.Prelude.{◌≡◌, ◌++◌, ◌∷◌, [], List, IsTrue}
use Rattle.cn_record.specs.Recorded.{IsRecorded, RecordedOpening}
use Rattle.cn_core.specs.declared.emulator.StepAnswer.{StepAnswer}
use Rattle.cn_core.specs.declared.emulator.StepAnswer.TheVariants.{NotEnabled, Memory}
use Rattle.cn_core.specs.declared.event.Event.{Event}
use Rattle.cn_core.specs.declared.event.Step.{Step}
use Rattle.cn_core.specs.Fits.{Fits}
use Rattle.cn_core.specs.Machine.{IsRun, can, state}
use Rattle.cn_core.specs.State.{CoreState}

pub record Log : Type 0 where
  pub recorded : RecordedOpening
  pub history : List Step

-- the state now
abbrev pub now : Log → CoreState
now l = state l.recorded l.history

-- with one step more
abbrev pub then : Log → Step → Log
then l e = record { recorded = l.recorded; history = l.history ++ e ∷ [] }

abbrev pub CanStep : Log → Event → Type 0
CanStep l e = IsTrue (can (now l) e)

-- an event is refused exactly where it isn't enabled; of want of memory nothing is said
abbrev pub IsRefusal : Log → Event → StepAnswer → Type 0
IsRefusal l e NotEnabled = CanStep l e → ⊥
IsRefusal l e Memory = Unit {0}

-- the tables are the state after a run from a certified opening with sound records, whose numbers
-- fit
pub record IsState (r : RecordedOpening) (h : List Step) (t : CoreState) : Type 0 where
  pub recorded : IsRecorded r
  pub fits : Fits r
  pub run : IsRun r h
  pub tables : t ≡ state r h
