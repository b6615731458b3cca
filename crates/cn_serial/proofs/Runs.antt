-- A script that has run so far.
use Rattle.std.proofs.Common.{◌≡◌, ◌⊎◌, ℕ, ◌+◌, ◌<◌, ◌≤◌, List, [], ◌∷◌, ◌++◌, length, get_or, take, Some, None, refl, sym, ap, ◌∙◌, subst, inl, inr, arith, append_assoc, append-nil}
use Rattle.std.proofs.lemmas.List.{length-append, length-take-le, take_all, take_more}
use Rattle.cn_change.specs.declared.command.Command.{Command}
use Rattle.cn_change.specs.declared.command.Command.TheVariants as command
use Rattle.cn_record.specs.Recorded.{RecordedOpening}
use Rattle.cn_core.specs.declared.answer.Answer.{Answer}
use Rattle.cn_core.specs.declared.event.Event.{Event}
use Rattle.cn_core.specs.declared.event.Step.{Step}
use Rattle.cn_core.specs.declared.event.Step.TheVariants.{Work, Mark}
use Rattle.cn_core.specs.Log.{Log, now, then}
use Rattle.cn_core.specs.Machine.{state}
use Rattle.cn_core.specs.Order.{first_event}
use Rattle.cn_core.specs.Play.{AreAnswers, IsAnswer, after, with_steps}
use Rattle.cn_core.specs.Start.{start}
use Rattle.cn_core.proofs.Play.{answers_behind, parts_behind, state_after, state_append}
use Rattle.cn_serial.specs.Ran.{HasWorked, IsAfter, IsRan}
use Rattle.cn_serial.specs.Serial.{Follows, IsSerial, IsSerialPart}
use Rattle.cn_serial.proofs.SerialPlay.{follows_push, part_work}

-- ---- one event after another

-- log m is l with so many first events more
pub record HasFirst (l : Log) (done : ℕ) (m : Log) : Type 0 where
  pub part : List Step
  pub each : Follows first_event (now l) part
  pub many : length part ≡ done
  pub grown : m ≡ with_steps l part

pub first_none : (l : Log) → HasFirst l 0 l
first_none l = record {
  part = [];
  each = tt;
  many = refl;
  grown = λ i. record { recorded = l.recorded; history = sym (append-nil l.history) i };
}

-- the state behind these events
now_first : (l m : Log) (part : List Step) → m ≡ with_steps l part → now m ≡ after (now l) part
now_first l m part grown = ap now grown ∙ state_append l.recorded l.history part

pub first_more : (l m n : Log) (done : ℕ) (e : Event) → HasFirst l done m
    → first_event (now m) ≡ Some e → n ≡ then m (Work e) → HasFirst l (done + 1) n
first_more l m n done e so is grown =
    let first = ap first_event (sym (now_first l m so.part so.grown)) ∙ is in
    let many = so.many in record {
      part = so.part ++ Work e ∷ [];
      each = follows_push first_event (now l) so.part e so.each first;
      many = simp length-append (omega (arith, many));
      grown =
          grown ∙ ap (λ (x : Log). then x (Work e)) so.grown
          ∙ (λ i. record {
            recorded = l.recorded;
            history = append_assoc l.history so.part (Work e ∷ []) i;
          });
    }

pub first_done : (l m : Log) (done n : ℕ) → HasFirst l done m → done ≤ n
    → (done ≡ n) ⊎ (first_event (now m) ≡ None) → HasWorked l n m
first_done l m done n so le end = record {
  part = so.part;
  serial = record {
    each = so.each;
    few = (let many = so.many in omega (arith, many, le));
    end = elim end [
      | inl full ↦ inl (so.many ∙ full)
      | inr none ↦ inr (ap first_event (sym (now_first l m so.part so.grown)) ∙ none)
    ];
  };
  grown = so.grown;
}

-- ---- one command

-- a command of work, and its mark
pub after_work : (l m n : Log) (k count : ℕ) → HasWorked l count m → n ≡ then m (Mark k)
    → IsAfter l k (command.Work count) n
after_work l m n k count worked marked = record {
  part = worked.part;
  serial = worked.serial;
  grown =
      marked ∙ ap (λ (x : Log). then x (Mark k)) worked.grown
      ∙ (λ i. record {
        recorded = l.recorded;
        history = append_assoc l.history worked.part (Mark k ∷ []) i;
      });
}

-- a pull, and its mark
pub after_pull : (l n : Log) (k : ℕ) → n ≡ then l (Mark k) → IsAfter l k command.Pull n
after_pull l n k marked = record { part = []; serial = refl; grown = marked }

-- ---- the run

-- the first commands have run, and have their answers
pub record IsRunSoFar (r : RecordedOpening) (commands : List Command) (i : ℕ) (core : Log)
    (answers : List Answer) : Type 0 where
  pub recorded : core.recorded ≡ r
  pub serial : IsSerial r (take i commands) core.history
  pub so_far : AreAnswers r (take i commands) core.history answers

pub run_none : (r : RecordedOpening) (commands : List Command) (core : Log)
    → core ≡ record { recorded = r; history = [] } → IsRunSoFar r commands 0 core []
run_none r [] core e = record {
  recorded = ap (λ (x : Log). x.recorded) e;
  serial = ap (λ (x : Log). x.history) e;
  so_far = tt;
}
run_none r (c ∷ cs) core e = record {
  recorded = ap (λ (x : Log). x.recorded) e;
  serial = ap (λ (x : Log). x.history) e;
  so_far = tt;
}

-- the state of a log from an opening
now_after : (r : RecordedOpening) (l : Log) → l.recorded ≡ r → now l ≡ after (start r) l.history
now_after r l same = ap (λ x. state x l.history) same ∙ state_after r l.history

pub run_more : (r : RecordedOpening) (commands : List Command) (i k : ℕ) (core next : Log)
    (answers : List Answer) (c : Command) (a : Answer)
    → i < length commands → c ≡ get_or commands i c → k ≡ i + 1 → IsAfter core k c next
    → IsAnswer next c a → IsRunSoFar r commands i core answers
    → IsRunSoFar r commands (i + 1) next (answers ++ a ∷ [])
run_more r commands i k core next answers c a inside is number grew answer so =
    let before = take i commands in
    let h = core.history in
    let part = grew.part in
    let many : length before ≡ i = length-take-le i commands (omega (arith, inside)) in
    let at : 1 + length before ≡ k = omega (arith, number, many) in
    let more : before ++ c ∷ [] ≡ take (i + 1) commands =
    ap (λ x. before ++ x ∷ []) is ∙ sym (take_more commands i c inside) in
    let grown : h ++ (part ++ Mark k ∷ []) ≡ next.history =
    ap (λ (x : Log). x.history) (sym grew.grown) in
    let serial : IsSerialPart (after (start r) h) c part =
    subst (λ s. IsSerialPart s c part) (now_after r core so.recorded) grew.serial in
    let work = part_work (after (start r) h) c part serial in
    let all : IsSerial r (before ++ c ∷ []) (h ++ (part ++ Mark k ∷ [])) =
    subst (λ j. IsSerial r (before ++ c ∷ []) (h ++ (part ++ Mark j ∷ []))) at
    (parts_behind IsSerialPart (start r) 1 before c h part so.serial work serial) in
    let log : next ≡ record { recorded = r; history = h ++ (part ++ Mark k ∷ []) } =
    grew.grown ∙ (λ j. record { recorded = so.recorded j; history = h ++ (part ++ Mark k ∷ []) }) in
    let answered : AreAnswers r (before ++ c ∷ []) (h ++ (part ++ Mark k ∷ []))
    (answers ++ a ∷ []) =
    answers_behind IsSerialPart (start r) 1 before h (record { recorded = r; history = [] }) answers
    c a part k so.serial so.so_far work (subst (λ x. IsAnswer x c a) log answer) in
    record {
      recorded = ap (λ (x : Log). x.recorded) log;
      serial =
          subst (λ cs. IsSerial r cs next.history) more
          (subst (IsSerial r (before ++ c ∷ [])) grown all);
      so_far =
          subst (λ cs. AreAnswers r cs next.history (answers ++ a ∷ [])) more
          (subst (λ g. AreAnswers r (before ++ c ∷ []) g (answers ++ a ∷ [])) grown answered);
    }

-- all commands have run
pub run_done : (r : RecordedOpening) (commands : List Command) (i : ℕ) (core : Log)
    (answers : List Answer) → length commands ≤ i → IsRunSoFar r commands i core answers
    → IsRan r commands (record { core = core; answers = answers })
run_done r commands i core answers le so =
    let all = take_all i commands le in
    record {
      recorded = so.recorded;
      serial = subst (λ cs. IsSerial r cs core.history) all so.serial;
      answers = subst (λ cs. AreAnswers r cs core.history answers) all so.so_far;
    }
