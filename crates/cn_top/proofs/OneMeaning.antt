-- Of right, wrong and a file that isn't there each excludes the others and is one value, and one is
-- there.
use Rattle.std.proofs.Common.{◌≡◌, ◌<◌, ◌⊎◌, inl, inr, ℕ, zero, suc, List, [], length, Ok, Result, refl, sym, ap, subst, ◌∙◌, arith}
use Rattle.cn_change.specs.declared.command.Command.{Command}
use Rattle.cn_core.specs.declared.answer.Answer.{Answer}
use Rattle.cn_core.specs.declared.event.Step.{Step}
use Rattle.cn_core.specs.Play.{AreAnswers}
use Rattle.cn_core.proofs.OneAnswer.{EmulatesItsOwn, answers_once}
use Rattle.cn_open.specs.Depth.{sound}
use Rattle.cn_open.specs.OpenFaults.{IsOpenFault}
use Rattle.cn_open.specs.Opens.{IsSafePlan, Opens}
use Rattle.cn_open.specs.declared.fault.OpenFault.{OpenFault}
use Rattle.cn_open.proofs.OneOpening.{fault_once, opening_faultless, opening_once, opening_safe, safe_faultless}
use Rattle.cn_outside.specs.Shelf.{Held, IsTold, MayHold, absent, holds, untold}
use Rattle.cn_readscript.specs.Script.{script_of}
use Rattle.cn_record.specs.Recorded.{RecordedOpening}
use Rattle.cn_serial.proofs.SerialPlay.{one_serial}
use Rattle.cn_text.specs.declared.answer.TextAnswer.{TextAnswer}
use Rattle.cn_trace.specs.Trace.{trace_text}
use Rattle.cn_top.specs.Deed.{Deed}
use Rattle.cn_top.specs.Form.{Form, plan_form, serial_form, later_form, usage_form, reads_of}
use Rattle.cn_top.specs.Meaning.{HoldsFault, HoldsNoScript, HoldsOpening, HoldsSafePlan, HoldsScript, IsMissing, IsRight, IsValidInput, IsWrong, IsWrongPlan, OneMeaning, Plans, Runs, TellsAll, plan_deed, run_deed}
use Rattle.cn_top.specs.Serial.{IsRunOf, ReadsScript, answer_texts}
use Rattle.cn_top.specs.declared.serial.Run.{Run}
use Rattle.cn_top.specs.declared.wrong.Wrong.{Wrong}
use Rattle.cn_top.specs.declared.wrong.Wrong.TheVariants as wrongs
use Rattle.cn_top.proofs.MeaningThere.{meaning_there}

-- ---- one text of a name

pub one_text : (held : Held) (a b : List ℕ) → IsTold held → MayHold held a → MayHold held b → a ≡ b
one_text untold a b t x y = absurd t
one_text absent a b t x y = absurd x
one_text (holds bytes) a b t x y = x ∙ sym y

-- ---- one run

same_commands : (read : Result (List Command) TextAnswer) (x y : List Command) → read ≡ Ok x
    → read ≡ Ok y → x ≡ y
same_commands read x y p q = cc

run_once : (r : RecordedOpening) (commands : List Command) (x y : Run) → EmulatesItsOwn r
    → IsRunOf r commands x → IsRunOf r commands y → x ≡ y
run_once r commands x y own h k =
    let same = one_serial r commands h.history k.history h.serial k.serial in
    let answers =
    answers_once r commands k.history h.answers k.answers own
    (subst (λ (g : List Step). AreAnswers r commands g h.answers) same h.answered) k.answered in
    let traces : x.trace ≡ y.trace =
    h.traced ∙ ap (trace_text r.opening.net) same ∙ sym k.traced in
    let texts : x.texts ≡ y.texts =
    h.told ∙ ap (λ (xs : List Answer). answer_texts r.opening.net 1 commands xs) answers
    ∙ sym k.told in
    λ i. record { trace = traces i; texts = texts i }

-- ---- one file

module _ (held : Held) (told : IsTold held) where
  opening_alone : (r s : RecordedOpening) → HoldsOpening held r → HoldsOpening held s → r ≡ s
  opening_alone r s x y =
      opening_once y.bytes r s
      (subst (λ (b : List ℕ). Opens b r) (one_text held x.bytes y.bytes told x.holding y.holding)
      x.opens) y.opens

  fault_alone : (f g : OpenFault) → HoldsFault held f → HoldsFault held g → f ≡ g
  fault_alone f g x y =
      fault_once sound y.bytes f g
      (subst (λ (b : List ℕ). IsOpenFault sound b f)
      (one_text held x.bytes y.bytes told x.holding y.holding) x.faulty) y.faulty

  no_opening : (r : RecordedOpening) (f : OpenFault) → HoldsOpening held r → HoldsFault held f → ⊥
  no_opening r f x y =
      opening_faultless y.bytes r f
      (subst (λ (b : List ℕ). Opens b r) (one_text held x.bytes y.bytes told x.holding y.holding)
      x.opens) y.faulty

  no_safe_plan : (f : OpenFault) → HoldsSafePlan held → HoldsFault held f → ⊥
  no_safe_plan f x y =
      safe_faultless y.bytes f
      (subst (λ (b : List ℕ). IsSafePlan b)
      (one_text held x.bytes y.bytes told x.holding y.holding) x.safe) y.faulty

  script_alone : (c d : List Command) → HoldsScript held c → HoldsScript held d → c ≡ d
  script_alone c d x y =
      same_commands (script_of y.bytes) c d
      (ap script_of (sym (one_text held x.bytes y.bytes told x.holding y.holding)) ∙ x.script.read)
      y.script.read

  no_script : (c : List Command) → HoldsScript held c → HoldsNoScript held → ⊥
  no_script c x y =
      y.none c
      (subst (λ (b : List ℕ). ReadsScript b c)
      (one_text held x.bytes y.bytes told x.holding y.holding) x.script)

  wrong_plan_once : (v w : Wrong) → IsWrongPlan held v → IsWrongPlan held w → v ≡ w
  wrong_plan_once v w (f, x, p) (g, y, q) = p ∙ ap wrongs.Plan (fault_alone f g x y) ∙ sym q

-- nothing is held where nothing is there
nothing_held : (held : Held) (bytes : List ℕ) → held ≡ absent → MayHold held bytes → ⊥
nothing_held held bytes none holding = subst (λ (h : Held). MayHold h bytes) none holding

safe_plan : (held : Held) (r : RecordedOpening) → HoldsOpening held r → HoldsSafePlan held
safe_plan held r o =
    record { bytes = o.bytes; holding = o.holding; safe = opening_safe o.bytes r o.opens }

-- ---- by form

module _ (held : List ℕ → Held) where
  module _ (file : List ℕ) (t : IsTold (held file)) where
    plan_right : (d e : Deed) → Plans (held file) d → Plans (held file) e → d ≡ e
    plan_right d e x y =
        x.does
        ∙ ap (λ (r : RecordedOpening). plan_deed r.opening)
        (opening_alone (held file) t x.recorded y.recorded x.opening y.opening)
        ∙ sym y.does

    plan_missing : (k : ℕ) → IsMissing (plan_form file) held k
        → (k ≡ 0) × (held file ≡ absent)
    plan_missing zero m = (refl, m.nothing)
    plan_missing (suc k) m = let past = m.place in absurd (omega (arith, past))

    plan_meaning : TellsAll (reads_of (plan_form file)) held → OneMeaning (plan_form file) held
    plan_meaning tells = record {
      there = meaning_there held (plan_form file) tells;
      right_once = plan_right;
      wrong_once = wrong_plan_once (held file) t;
      missing_once = λ j k m n. (plan_missing j m).0 ∙ sym (plan_missing k n).0;
      not_both = λ d w x y. no_opening (held file) t x.recorded y.0 x.opening y.1;
      missing_not_right = λ k d m x.
          nothing_held (held file) x.opening.bytes (plan_missing k m).1 x.opening.holding;
      missing_not_wrong = λ k w m y.
          nothing_held (held file) y.1.bytes (plan_missing k m).1 y.1.holding;
      valid_not_wrong = λ w x y. no_safe_plan (held file) t y.0 x y.1;
    }

  module _ (file script trace : List ℕ) (t : IsTold (held file)) (u : IsTold (held script)) where
    run_right : (d e : Deed) → Runs (held file) (held script) trace d
        → Runs (held file) (held script) trace e → d ≡ e
    run_right d e x y =
        let recorded = opening_alone (held file) t x.recorded y.recorded x.opening y.opening in
        let commands = script_alone (held script) u x.commands y.commands x.scripted y.scripted in
        let ran : IsRunOf y.recorded y.commands x.run =
        subst (λ (r : RecordedOpening). IsRunOf r y.commands x.run) recorded
        (subst (λ (c : List Command). IsRunOf x.recorded c x.run) commands x.ran) in
        let (e, stands, opens) = y.opening.opens in
        let own : EmulatesItsOwn y.recorded = opens.recorded.opening.devices in
        x.does
        ∙ ap (run_deed trace) (run_once y.recorded y.commands x.run y.run own ran y.ran)
        ∙ sym y.does

    run_wrong : (v w : Wrong) → IsWrong (serial_form file script trace) held v
        → IsWrong (serial_form file script trace) held w → v ≡ w
    run_wrong v w (inl x) (inl y) = wrong_plan_once (held file) t v w x y
    run_wrong v w (inl (f, x, p)) (inr (r, y, n, q)) =
        absurd (no_opening (held file) t r f y x)
    run_wrong v w (inr (r, x, n, p)) (inl (f, y, q)) =
        absurd (no_opening (held file) t r f x y)
    run_wrong v w (inr (r, x, n, p)) (inr (s, y, m, q)) = p ∙ sym q

    run_both : (d : Deed) (w : Wrong) → Runs (held file) (held script) trace d
        → IsWrong (serial_form file script trace) held w → ⊥
    run_both d w x (inl (f, y, q)) = no_opening (held file) t x.recorded f x.opening y
    run_both d w x (inr (s, y, n, q)) = no_script (held script) u x.commands x.scripted n

    run_valid : (w : Wrong) → IsValidInput (serial_form file script trace) held
        → IsWrong (serial_form file script trace) held w → ⊥
    run_valid w (safe, (c, x)) (inl (f, y, q)) = no_safe_plan (held file) t f safe y
    run_valid w (safe, (c, x)) (inr (s, y, n, q)) = no_script (held script) u c x n

    abbrev NoFile : Type 0
    NoFile = held file ≡ absent

    -- the plan opens, and no script is there
    abbrev NoScriptFile : Type 0
    NoScriptFile = ((r : RecordedOpening) × HoldsOpening (held file) r) × (held script ≡ absent)

    run_missing : (k : ℕ) → IsMissing (serial_form file script trace) held k
        → ((k ≡ 0) × NoFile) ⊎ ((k ≡ 1) × NoScriptFile)
    run_missing zero m = inl (refl, m.nothing)
    run_missing (suc zero) m = inr (refl, (m.good, m.nothing))
    run_missing (suc (suc k)) m = let past = m.place in absurd (omega (arith, past))

    missing_apart : NoFile → NoScriptFile → ⊥
    missing_apart none ((r, o), none') = nothing_held (held file) o.bytes none o.holding

    run_missing_once : (j k : ℕ) → IsMissing (serial_form file script trace) held j
        → IsMissing (serial_form file script trace) held k → j ≡ k
    run_missing_once j k m n =
        elim (run_missing j m) [
          | inl (e, none) ↦ elim (run_missing k n) [
            | inl (e', none') ↦ e ∙ sym e'
            | inr (e', none') ↦ absurd (missing_apart none none')
          ]
          | inr (e, none) ↦ elim (run_missing k n) [
            | inl (e', none') ↦ absurd (missing_apart none' none)
            | inr (e', none') ↦ e ∙ sym e'
          ]
        ]

    run_missing_right : (k : ℕ) (d : Deed) → IsMissing (serial_form file script trace) held k
        → Runs (held file) (held script) trace d → ⊥
    run_missing_right k d m x =
        elim (run_missing k m) [
          | inl (e, none) ↦
              nothing_held (held file) x.opening.bytes none x.opening.holding
          | inr (e, (opens, none)) ↦
              nothing_held (held script) x.scripted.bytes none x.scripted.holding
        ]

    -- what is wrong, by the file that isn't there
    wrong_no_file : (w : Wrong) → NoFile → IsWrong (serial_form file script trace) held w → ⊥
    wrong_no_file w none (inl (f, y, q)) = nothing_held (held file) y.bytes none y.holding
    wrong_no_file w none (inr (r, y, n, q)) = nothing_held (held file) y.bytes none y.holding

    wrong_no_script : (w : Wrong) → NoScriptFile → IsWrong (serial_form file script trace) held w
        → ⊥
    wrong_no_script w ((r, o), none) (inl (f, y, q)) = no_opening (held file) t r f o y
    wrong_no_script w ((r, o), none) (inr (s, y, n, q)) =
        nothing_held (held script) n.bytes none n.holding

    run_missing_wrong : (k : ℕ) (w : Wrong) → IsMissing (serial_form file script trace) held k
        → IsWrong (serial_form file script trace) held w → ⊥
    run_missing_wrong k w m y =
        elim (run_missing k m) [
          | inl (e, none) ↦ wrong_no_file w none y
          | inr (e, none) ↦ wrong_no_script w none y
        ]

    run_meaning : TellsAll (reads_of (serial_form file script trace)) held
        → OneMeaning (serial_form file script trace) held
    run_meaning tells = record {
      there = meaning_there held (serial_form file script trace) tells;
      right_once = run_right;
      wrong_once = run_wrong;
      missing_once = run_missing_once;
      not_both = run_both;
      missing_not_right = run_missing_right;
      missing_not_wrong = run_missing_wrong;
      valid_not_wrong = run_valid;
    }

  -- no file is missing to a form that reads none
  none_missing : (form : Form) (k : ℕ) → reads_of form ≡ [] → IsMissing form held k → ⊥
  none_missing form k e m =
      let past : k < 0 = subst (λ (names : List (List ℕ)). k < length names) e m.place in
      omega (arith, past)

  -- an arm for each command
  pub one_meaning_of : (form : Form) → TellsAll (reads_of form) held → OneMeaning form held
  one_meaning_of (plan_form file) tells = plan_meaning file (tells file (inl refl)) tells
  one_meaning_of (serial_form file script trace) tells =
      run_meaning file script trace (tells file (inl refl)) (tells script (inr (inl refl))) tells
  one_meaning_of (later_form later) tells = record {
    there = meaning_there held (later_form later) tells;
    missing_once = λ j k m n. absurd (none_missing (later_form later) j refl m);
    missing_not_right = λ k d m r. r;
    missing_not_wrong = λ k w m r. none_missing (later_form later) k refl m;
    right_once = λ d e r s. absurd r;
    wrong_once = λ v w r s. r ∙ sym s;
    not_both = λ d w r s. r;
    valid_not_wrong = λ w r s. r;
  }
  one_meaning_of usage_form tells = record {
    there = meaning_there held usage_form tells;
    missing_once = λ j k m n. absurd (none_missing usage_form j refl m);
    missing_not_right = λ k d m r. r;
    missing_not_wrong = λ k w m r. r;
    right_once = λ d e r s. absurd r;
    wrong_once = λ v w r s. absurd r;
    not_both = λ d w r s. r;
    valid_not_wrong = λ w r s. r;
  }

-- ---- what is right is valid

pub right_valid : (held : List ℕ → Held) (form : Form) (d : Deed) → IsRight form held d
    → IsValidInput form held
right_valid held (plan_form file) d r = safe_plan (held file) r.recorded r.opening
right_valid held (serial_form file script trace) d r =
    (safe_plan (held file) r.recorded r.opening, (r.commands, r.scripted))
right_valid held (later_form later) d r = absurd r
right_valid held usage_form d r = absurd r
