-- What holds of plays, and of the answers along one.
use Rattle.std.specs.Prelude.{◌≡◌, ℕ, ◌+◌, ◌++◌, ◌∷◌, [], All, List, length, Some}
use Rattle.cn_change.specs.declared.command.Command.{Command}
use Rattle.cn_net.specs.Network.{IsDevice}
use Rattle.cn_record.specs.Recorded.{IsRecorded, RecordedOpening}
use Rattle.cn_core.specs.declared.answer.Answer.{Answer}
use Rattle.cn_core.specs.declared.event.Step.{Step}
use Rattle.cn_core.specs.declared.event.Step.TheVariants.{Work, Mark}
use Rattle.cn_core.specs.Play.{AreAnswers, IsPart, IsPlay, IsPlayFrom, after, before_mark, behind_mark, first_mark}
use Rattle.cn_core.specs.State.{CoreState}

-- the numbers of the marks
abbrev pub marks_of : List Step → List ℕ
marks_of [] = []
marks_of (Work e ∷ h) = marks_of h
marks_of (Mark k ∷ h) = k ∷ marks_of h

-- as many numbers as there are commands, from k on
abbrev pub numbers_from : ℕ → List Command → List ℕ
numbers_from k [] = []
numbers_from k (c ∷ cs) = k ∷ numbers_from (k + 1) cs

-- A history with a mark is its split at the first one. A part and its mark make a play, in front of
-- a play of the commands behind, and behind a play of the commands before. The marks of a play are
-- numbered in order.
pub record SplitLaw : Type 0 where
  pub whole : (h : List Step) (k : ℕ) → first_mark h ≡ Some k
      → h ≡ before_mark h ++ Mark k ∷ behind_mark h
  pub in_front : (s : CoreState) (k : ℕ) (c : Command) (cs : List Command) (part h : List Step)
      → IsPart s c part → IsPlayFrom (after s part) (k + 1) cs h
      → IsPlayFrom s k (c ∷ cs) (part ++ Mark k ∷ h)
  pub behind : (s : CoreState) (k : ℕ) (cs : List Command) (c : Command) (h part : List Step)
      → IsPlayFrom s k cs h → IsPart (after s h) c part
      → IsPlayFrom s k (cs ++ c ∷ []) (h ++ (part ++ Mark (k + length cs) ∷ []))
  pub marks : (s : CoreState) (k : ℕ) (cs : List Command) (h : List Step) → IsPlayFrom s k cs h
      → marks_of h ≡ numbers_from k cs

-- along a play from a recorded opening a script has answers
abbrev pub SomeAnswersLaw : Type 0
SomeAnswersLaw =
    (r : RecordedOpening) (script : List Command) (h : List Step) → IsRecorded r
    → IsPlay r script h → (answers : List Answer) × AreAnswers r script h answers

-- Where the emulated devices are devices of the network, as those of every recorded opening are, a
-- script has at most one list of answers along a history.
abbrev pub OneAnswerLaw : Type 0
OneAnswerLaw =
    (r : RecordedOpening) (script : List Command) (h : List Step) (answers others : List Answer)
    → All (IsDevice r.opening.net) r.opening.emulated → AreAnswers r script h answers
    → AreAnswers r script h others → answers ≡ others
