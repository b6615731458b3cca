-- What a run of a script leaves, and each command of it.
use Rattle.std.specs.Prelude.{◌≡◌, ℕ, ◌++◌, ◌∷◌, [], List}
use Rattle.cn_change.specs.declared.command.Command.{Command}
use Rattle.cn_record.specs.Recorded.{RecordedOpening}
use Rattle.cn_core.specs.declared.event.Step.{Step}
use Rattle.cn_core.specs.declared.event.Step.TheVariants.{Mark}
use Rattle.cn_core.specs.Log.{Log, now}
use Rattle.cn_core.specs.Play.{AreAnswers, with_steps}
use Rattle.cn_serial.specs.declared.serial.Ran.{Ran}
use Rattle.cn_serial.specs.Serial.{IsFirstWork, IsSerial, IsSerialPart}

-- log m is l with the first events more, until n have happened or none is left
pub record HasWorked (l : Log) (n : ℕ) (m : Log) : Type 0 where
  pub part : List Step
  pub serial : IsFirstWork (now l) n part
  pub grown : m ≡ with_steps l part

-- log m is l with the serial part of command number k more, and its mark
pub record IsAfter (l : Log) (k : ℕ) (c : Command) (m : Log) : Type 0 where
  pub part : List Step
  pub serial : IsSerialPart (now l) c part
  pub grown : m ≡ with_steps l (part ++ Mark k ∷ [])

-- the core's history is the serial play of the script, and the answers are those along it
pub record IsRan (r : RecordedOpening) (script : List Command) (ran : Ran) : Type 0 where
  pub recorded : ran.core.recorded ≡ r
  pub serial : IsSerial r script ran.core.history
  pub answers : AreAnswers r script ran.core.history ran.answers
