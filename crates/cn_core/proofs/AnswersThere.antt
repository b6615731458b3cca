-- Along a play a script has answers. Other crates may cite this module.
use Rattle.std.proofs.Common.{◌≡◌, ℕ, ◌+◌, List, [], ◌∷◌, ◌++◌, Some, sym, ap, ◌∙◌, subst, append_assoc}
use Rattle.cn_change.specs.declared.command.Command.{Command}
use Rattle.cn_change.specs.declared.command.Command.TheVariants as command
use Rattle.cn_record.specs.Recorded.{IsRecorded, RecordedOpening}
use Rattle.cn_core.specs.declared.answer.Answer.{Answer}
use Rattle.cn_core.specs.declared.answer.Answer.TheVariants.{Done, Pulled}
use Rattle.cn_core.specs.declared.event.Step.{Step}
use Rattle.cn_core.specs.Log.{Log}
use Rattle.cn_core.specs.Machine.{IsRun, IsRunFrom, step}
use Rattle.cn_core.specs.Play.{AreAnswersFrom, AreParts, IsAnswer, IsPart, after, before_mark, behind_mark, first_mark, through_mark, with_steps}
use Rattle.cn_core.specs.PlayLaws.{SomeAnswersLaw}
use Rattle.cn_core.specs.Start.{start}
use Rattle.cn_core.specs.State.{CoreState}
use Rattle.cn_core.proofs.Play.{through_whole}
use Rattle.cn_core.proofs.PullThere.{pull_there}

-- what stands at the front of a run is a run
run_from_front : (s : CoreState) (xs ys : List Step) → IsRunFrom s (xs ++ ys) → IsRunFrom s xs
run_from_front s [] ys run = tt
run_from_front s (x ∷ xs) ys run = (run.0, run_from_front (step s x) xs ys run.1)

run_front : (r : RecordedOpening) (xs ys : List Step) → IsRun r (xs ++ ys) → IsRun r xs
unfolding IsRun
run_front r xs ys run = run_from_front (start r) xs ys run

answer_there : (l : Log) (c : Command) → IsRecorded l.recorded → IsRun l.recorded l.history
    → (a : Answer) × IsAnswer l c a
answer_there l command.Pull recorded run =
    let (pull, is) = pull_there l recorded run in (Pulled pull, is)
answer_there l (command.Work n) recorded run = (Done, tt)

-- a history through its first mark, and what stands behind it
grown_through : (l : Log) (h : List Step) (k : ℕ) → first_mark h ≡ Some k
    → l.history ++ h ≡ (with_steps l (through_mark h)).history ++ behind_mark h
grown_through l h k e =
    ap (λ (xs : List Step). l.history ++ xs) (sym (through_whole h k e))
    ∙ sym (append_assoc l.history (through_mark h) (behind_mark h))

answers_from_there : (l : Log) (s : CoreState) (k : ℕ) (cs : List Command) (h : List Step)
    → IsRecorded l.recorded → IsRun l.recorded (l.history ++ h) → AreParts IsPart s k cs h
    → (answers : List Answer) × AreAnswersFrom l cs h answers
answers_from_there l s k [] h recorded run parts = ([], tt)
answers_from_there l s k (c ∷ cs) h recorded run parts =
    let m = with_steps l (through_mark h) in
    let on : IsRun l.recorded (m.history ++ behind_mark h) =
    subst (IsRun l.recorded) (grown_through l h k parts.0) run in
    let (a, is) =
    answer_there m c recorded (run_front l.recorded m.history (behind_mark h) on) in
    let (answers, more) =
    answers_from_there m (after s (before_mark h)) (k + 1) cs (behind_mark h) recorded on parts.2 in
    (a ∷ answers, (is, more))

-- along a play from a recorded opening a script has answers
pub answers_there : SomeAnswersLaw
answers_there r script h recorded play =
    answers_from_there (record { recorded = r; history = [] }) (start r) 1 script h recorded
    play.run play.parts
