-- The plays of a script: the histories that its commands allow, in whatever order events happen;
-- and the answers along one.
use Rattle.std.specs.Prelude.{◌≡◌, ◌⊎◌, ℕ, ◌+◌, ◌≤◌, ◌++◌, ◌∷◌, [], List, length, Option, Some, None}
use Rattle.std.specs.List.{fold}
use Rattle.cn_change.specs.declared.command.Command.{Command}
use Rattle.cn_change.specs.declared.command.Command.TheVariants as command
use Rattle.cn_record.specs.Recorded.{RecordedOpening}
use Rattle.cn_core.specs.declared.answer.Answer.{Answer}
use Rattle.cn_core.specs.declared.answer.Answer.TheVariants.{Done, Pulled}
use Rattle.cn_core.specs.declared.event.Step.{Step}
use Rattle.cn_core.specs.declared.event.Step.TheVariants.{Work, Mark}
use Rattle.cn_core.specs.Log.{Log}
use Rattle.cn_core.specs.Machine.{IsRun, step}
use Rattle.cn_core.specs.Order.{IsQuiet}
use Rattle.cn_core.specs.Pulled.{IsPulled}
use Rattle.cn_core.specs.Start.{start}
use Rattle.cn_core.specs.State.{CoreState}

-- ---- a history, split at its first mark

-- the number of the first mark
abbrev pub first_mark : List Step → Option ℕ
first_mark [] = None
first_mark (Work e ∷ h) = first_mark h
first_mark (Mark k ∷ h) = Some k

-- what stands before it
abbrev pub before_mark : List Step → List Step
before_mark [] = []
before_mark (Work e ∷ h) = Work e ∷ before_mark h
before_mark (Mark k ∷ h) = []

-- what stands behind it
abbrev pub behind_mark : List Step → List Step
behind_mark [] = []
behind_mark (Work e ∷ h) = behind_mark h
behind_mark (Mark k ∷ h) = h

-- what stands before it, and the mark itself
abbrev pub through_mark : List Step → List Step
through_mark [] = []
through_mark (Work e ∷ h) = Work e ∷ through_mark h
through_mark (Mark k ∷ h) = Mark k ∷ []

-- ---- plays

-- the state after these steps
abbrev pub after : CoreState → List Step → CoreState
after s steps = fold step s steps

-- receives, decisions and sends alone
abbrev pub AreWork : List Step → Type 0
AreWork [] = Unit {0}
AreWork (Work e ∷ steps) = AreWork steps
AreWork (Mark k ∷ steps) = ⊥

-- The steps may be the part of a command that begins in state s: that of a pull is empty, and that
-- of `work n` is work alone, at least n events or as many as lead to quiet.
abbrev pub IsPart : CoreState → Command → List Step → Type 0
IsPart s command.Pull part = part ≡ []
IsPart s (command.Work n) part = AreWork part × ((n ≤ length part) ⊎ IsQuiet (after s part))

-- The history is one part after another, of which P says what they may be: behind the part of each
-- command stands its mark, the first with number k, and behind the last mark stands nothing.
abbrev pub AreParts : (CoreState → Command → List Step → Type 0) → CoreState → ℕ → List Command
    → List Step → Type 0
AreParts P s k [] h = h ≡ []
AreParts P s k (c ∷ cs) h =
    (first_mark h ≡ Some k) × P s c (before_mark h)
    × AreParts P (after s (before_mark h)) (k + 1) cs (behind_mark h)

-- the history is a play, from state s, of these commands, of which the first has number k
abbrev pub IsPlayFrom : CoreState → ℕ → List Command → List Step → Type 0
IsPlayFrom s k cs h = AreParts IsPart s k cs h

-- a play of a script is a run whose parts are those of the commands
pub record IsPlay (r : RecordedOpening) (script : List Command) (h : List Step) : Type 0 where
  pub run : IsRun r h
  pub parts : IsPlayFrom (start r) 1 script h

-- ---- answers

-- the log with these steps more
abbrev pub with_steps : Log → List Step → Log
with_steps l steps = record { recorded = l.recorded; history = l.history ++ steps }

-- the answer to a command, by the log up to its mark
abbrev pub IsAnswer : Log → Command → Answer → Type 0
IsAnswer l command.Pull Done = ⊥
IsAnswer l command.Pull (Pulled pull) = IsPulled l pull
IsAnswer l (command.Work n) Done = Unit {0}
IsAnswer l (command.Work n) (Pulled pull) = ⊥

-- the answers to these commands, one for each and in their order, where h goes on behind the log
abbrev pub AreAnswersFrom : Log → List Command → List Step → List Answer → Type 0
AreAnswersFrom l [] h [] = Unit {0}
AreAnswersFrom l [] h (a ∷ more) = ⊥
AreAnswersFrom l (c ∷ cs) h [] = ⊥
AreAnswersFrom l (c ∷ cs) h (a ∷ more) =
    IsAnswer (with_steps l (through_mark h)) c a
    × AreAnswersFrom (with_steps l (through_mark h)) cs (behind_mark h) more

-- the answers to a script along a history from an opening
abbrev pub AreAnswers : RecordedOpening → List Command → List Step → List Answer → Type 0
AreAnswers r script h answers =
    AreAnswersFrom (record { recorded = r; history = [] }) script h answers
