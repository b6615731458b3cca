-- A run whose answers are printed one after another.
use Rattle.std.proofs.Common.{◌≡◌, ℕ, ◌+◌, ◌<◌, ◌≤◌, List, [], ◌∷◌, ◌++◌, length, get_or, take, refl, sym, ap, ◌∙◌, arith}
use Rattle.std.proofs.lemmas.List.{length-take-le, take_all, take_more}
use Rattle.cn_change.specs.declared.command.Command.{Command}
use Rattle.cn_core.specs.declared.answer.Answer.{Answer}
use Rattle.cn_core.specs.declared.event.Step.{Step}
use Rattle.cn_core.specs.Log.{Log}
use Rattle.cn_core.specs.Play.{AreAnswersFrom, IsAnswer, behind_mark, through_mark, with_steps}
use Rattle.cn_net.specs.Network.{Network}
use Rattle.cn_record.specs.Recorded.{RecordedOpening}
use Rattle.cn_report.specs.Answers.{answer_text}
use Rattle.cn_serial.specs.Ran.{IsAfter}
use Rattle.cn_serial.proofs.Runs.{IsRunSoFar, run_done, run_more, run_none}
use Rattle.cn_serial.proofs.SerialPlay.{serial_play}
use Rattle.cn_trace.specs.Trace.{trace_text}
use Rattle.cn_top.specs.Serial.{IsRunOf, answer_texts}
use Rattle.cn_top.specs.declared.serial.Run.{Run}

-- the first commands have run, and these are the texts of their answers
pub record IsToldSoFar (r : RecordedOpening) (commands : List Command) (i : ℕ) (core : Log)
    (texts : List (List ℕ)) : Type 0 where
  pub given : List Answer
  pub run : IsRunSoFar r commands i core given
  pub told : texts ≡ answer_texts r.opening.net 1 (take i commands) given

texts_push : (net : Network) (l : Log) (k : ℕ) (cs : List Command) (h : List Step)
    (more : List Answer) (c : Command) (a : Answer) → AreAnswersFrom l cs h more
    → answer_texts net k (cs ++ c ∷ []) (more ++ a ∷ [])
    ≡ answer_texts net k cs more ++ answer_text net (k + length cs) c a ∷ []
texts_push net l k [] h [] c a so =
    let same : k ≡ k + length {A = Command} [] = omega arith in
    ap (λ m. answer_text net m c a ∷ []) same
texts_push net l k [] h (x ∷ more) c a so = absurd so
texts_push net l k (y ∷ cs) h [] c a so = absurd so
texts_push net l k (y ∷ cs) h (x ∷ more) c a so =
    let same : (k + 1) + length cs ≡ k + length (y ∷ cs) = omega arith in
    ap (λ ts. answer_text net k y x ∷ ts)
    (texts_push net (with_steps l (through_mark h)) (k + 1) cs (behind_mark h) more c a so.1
    ∙ ap (λ m. answer_texts net (k + 1) cs more ++ answer_text net m c a ∷ []) same)

pub told_none : (r : RecordedOpening) (commands : List Command) (core : Log)
    → core ≡ record { recorded = r; history = [] } → IsToldSoFar r commands 0 core []
told_none r [] core e = record { given = []; run = run_none r [] core e; told = refl }
told_none r (c ∷ cs) core e = record { given = []; run = run_none r (c ∷ cs) core e; told = refl }

pub told_more : (r : RecordedOpening) (commands : List Command) (i k : ℕ) (core next : Log)
    (texts : List (List ℕ)) (c : Command) (a : Answer) (text : List ℕ)
    → i < length commands → c ≡ get_or commands i c → k ≡ i + 1 → IsAfter core k c next
    → IsAnswer next c a → text ≡ answer_text r.opening.net k c a
    → IsToldSoFar r commands i core texts
    → IsToldSoFar r commands (i + 1) next (texts ++ text ∷ [])
told_more r commands i k core next texts c a text inside is number grew answer printed so =
    let net = r.opening.net in
    let l : Log = record { recorded = r; history = [] } in
    let many : length (take i commands) ≡ i = length-take-le i commands (omega (arith, inside)) in
    let at : k ≡ 1 + length (take i commands) = omega (arith, number, many) in
    let more : take (i + 1) commands ≡ take i commands ++ c ∷ [] =
    take_more commands i c inside ∙ ap (λ x. take i commands ++ x ∷ []) (sym is) in
    record {
      given = so.given ++ a ∷ [];
      run = run_more r commands i k core next so.given c a inside is number grew answer so.run;
      told =
          (λ j. so.told j ++ printed j ∷ [])
          ∙ ap (λ m. answer_texts net 1 (take i commands) so.given ++ answer_text net m c a ∷ []) at
          ∙ sym (texts_push net l 1 (take i commands) core.history so.given c a so.run.so_far)
          ∙ ap (λ cs. answer_texts net 1 cs (so.given ++ a ∷ [])) (sym more);
    }

pub told_done : (r : RecordedOpening) (commands : List Command) (i : ℕ) (core : Log)
    (texts : List (List ℕ)) (net : Network) (run : Run)
    → length commands ≤ i → IsToldSoFar r commands i core texts → net ≡ r.opening.net
    → run.trace ≡ trace_text net core.history → run.texts ≡ texts → IsRunOf r commands run
told_done r commands i core texts net run le so same traced told =
    let ran = run_done r commands i core so.given le so.run in
    record {
      history = core.history;
      serial = ran.serial;
      play = serial_play r commands core.history ran.serial;
      answers = so.given;
      answered = ran.answers;
      traced = traced ∙ ap (λ n. trace_text n core.history) same;
      told =
          told ∙ so.told
          ∙ ap (λ cs. answer_texts r.opening.net 1 cs so.given) (take_all i commands le);
    }
