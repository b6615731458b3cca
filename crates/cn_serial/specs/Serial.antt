-- The serial play of a script: that in which each command does what comes first.
use Rattle.std.specs.Prelude.{◌≡◌, ◌⊎◌, ℕ, ◌≤◌, ◌∷◌, [], List, length, Option, Some, None}
use Rattle.cn_change.specs.declared.command.Command.{Command}
use Rattle.cn_change.specs.declared.command.Command.TheVariants as command
use Rattle.cn_record.specs.Recorded.{RecordedOpening}
use Rattle.cn_core.specs.declared.event.Event.{Event}
use Rattle.cn_core.specs.declared.event.Step.{Step}
use Rattle.cn_core.specs.declared.event.Step.TheVariants.{Work, Mark}
use Rattle.cn_core.specs.Machine.{after_event}
use Rattle.cn_core.specs.Order.{first_event}
use Rattle.cn_core.specs.Play.{AreParts, IsPlay, after}
use Rattle.cn_core.specs.Start.{start}
use Rattle.cn_core.specs.State.{CoreState}

-- each step is the event that comes next where it stands
abbrev pub Follows : (CoreState → Option Event) → CoreState → List Step → Type 0
Follows next s [] = Unit {0}
Follows next s (Work e ∷ steps) = (next s ≡ Some e) × Follows next (after_event s e) steps
Follows next s (Mark k ∷ steps) = ⊥

-- the first event again and again, until n have happened or none is left
pub record IsFirstWork (s : CoreState) (n : ℕ) (part : List Step) : Type 0 where
  pub each : Follows first_event s part
  pub few : length part ≤ n
  pub end : (length part ≡ n) ⊎ (first_event (after s part) ≡ None)

-- the steps are the serial part of a command that begins in state s
abbrev pub IsSerialPart : CoreState → Command → List Step → Type 0
IsSerialPart s command.Pull part = part ≡ []
IsSerialPart s (command.Work n) part = IsFirstWork s n part

-- the history is the serial play of a script from an opening
abbrev pub IsSerial : RecordedOpening → List Command → List Step → Type 0
IsSerial r script h = AreParts IsSerialPart (start r) 1 script h

-- a script has exactly one serial play, and it is a play
pub record SerialLaw : Type 0 where
  pub there : (r : RecordedOpening) (script : List Command) → (h : List Step) × IsSerial r script h
  pub one : (r : RecordedOpening) (script : List Command) (h i : List Step)
      → IsSerial r script h → IsSerial r script i → h ≡ i
  pub play : (r : RecordedOpening) (script : List Command) (h : List Step) → IsSerial r script h
      → IsPlay r script h
