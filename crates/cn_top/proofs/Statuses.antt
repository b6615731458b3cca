-- When a status comes, said of each command.
use Rattle.std.proofs.Common.{◌≡◌, inl, inr, ℕ, List, refl, sym, ap, subst, ◌∙◌}
use Rattle.cn_open.specs.OpenFaults.{IsBoundaryFault}
use Rattle.cn_open.specs.Opens.{IsUnsafePlan}
use Rattle.cn_open.specs.declared.fault.OpenFault.{OpenFault}
use Rattle.cn_open.specs.declared.fault.OpenFault.TheVariants.{NoPlan, Net, Refused, Unsound}
use Rattle.cn_open.proofs.OneOpening.{unsafe_refused, unsafe_unopened}
use Rattle.cn_outside.specs.Scene.{Scene}
use Rattle.cn_outside.specs.Shelf.{Held, IsTold}
use Rattle.cn_record.specs.Recorded.{RecordedOpening}
use Rattle.cn_top.specs.Deed.{Deed}
use Rattle.cn_top.specs.Ending.{IsWhole}
use Rattle.cn_top.specs.Form.{Form, plan_form, serial_form, later_form, usage_form, read_at}
use Rattle.cn_top.specs.Meaning.{HoldsFault, HoldsNoScript, HoldsOpening, IsRight, IsWrong}
use Rattle.cn_top.specs.Outcome.{IsCalm, IsRefusal, IsRefused, IsUnlessMemory, Outcome, Tells}
use Rattle.cn_top.specs.Statuses.{HoldsUnsafePlan, IsBadText, IsBoundaryRefused, IsNoEmulation, IsNotBuilt, IsPlanPut, IsScriptRun, OpensPlan, no_command, no_script, plan_held}
use Rattle.cn_top.specs.Wrong.{line_of, opening_status, status_of}
use Rattle.cn_top.specs.declared.form.Later.{Later}
use Rattle.cn_top.specs.declared.status.Status.{Status}
use Rattle.cn_top.specs.declared.status.Status.TheVariants as status
use Rattle.cn_top.specs.declared.wrong.Wrong.{Wrong}
use Rattle.cn_top.specs.declared.wrong.Wrong.TheVariants as wrongs
use Rattle.cn_top.proofs.EndingKinds.{Kind, is_done, is_misused, is_refused, is_starved, is_unput, is_unread, kind_of}
use Rattle.cn_top.proofs.OneMeaning.{one_text}
use Rattle.cn_top.proofs.Outcomes.{calm_unput, calm_unread, done_where, refused_where, wrong_only}

-- ---- the statuses of a plan's faults

boundary_status : (f : OpenFault) → opening_status f ≡ status.Refused → IsBoundaryFault f
boundary_status (NoPlan why) e = absurd cc
boundary_status (Net draft fault) e = absurd cc
boundary_status (Refused net refusal) e = tt
boundary_status (Unsound net d p held wanted) e = tt

refused_status : (f : OpenFault) → IsBoundaryFault f → opening_status f ≡ status.Refused
refused_status (NoPlan why) b = absurd b
refused_status (Net draft fault) b = absurd b
refused_status (Refused net refusal) b = refl
refused_status (Unsound net d p held wanted) b = refl

-- what is wrong with a plan is no form that isn't built
plan_built : (f : OpenFault) → opening_status f ≡ status.Unbuilt → ⊥
plan_built (NoPlan why) e = cc
plan_built (Net draft fault) e = cc
plan_built (Refused net refusal) e = cc
plan_built (Unsound net d p held wanted) e = cc

module _ (form : Form) (before after : Scene) where
  -- ---- 1

  boundary_line : (f : OpenFault) (w : Wrong) → HoldsFault (plan_held form before) f
      → w ≡ wrongs.Plan f → status_of w ≡ status.Refused → IsWhole before after (line_of form w)
      → IsBoundaryRefused form before after
  boundary_line f w has e s whole = record {
    fault = f;
    boundary = boundary_status f (sym (ap status_of e) ∙ s);
    faulty = has;
    whole = subst (λ (x : Wrong). IsWhole before after (line_of form x)) e whole;
  }

  -- ---- 7

  net_line : (f : OpenFault) (w : Wrong) → HoldsFault (plan_held form before) f
      → w ≡ wrongs.Plan f → opening_status f ≡ status.BadNet → IsWhole before after (line_of form w)
      → IsNoEmulation form before after
  net_line (NoPlan why) w has e s whole = absurd cc
  net_line (Net draft fault) w has e s whole = record {
    draft = draft;
    fault = fault;
    faulty = has;
    whole = subst (λ (x : Wrong). IsWhole before after (line_of form x)) e whole;
  }
  net_line (Refused net refusal) w has e s whole = absurd cc
  net_line (Unsound net d p held wanted) w has e s whole = absurd cc

  -- ---- 6

  text_line : (f : OpenFault) (w : Wrong) → HoldsFault (plan_held form before) f
      → w ≡ wrongs.Plan f → opening_status f ≡ status.BadText
      → IsWhole before after (line_of form w) → IsBadText form before after
  text_line (NoPlan why) w has e s whole = record {
    why = why;
    faulty = has;
    whole = subst (λ (x : Wrong). IsWhole before after (line_of form x)) e whole;
  }
  text_line (Net draft fault) w has e s whole = absurd cc
  text_line (Refused net refusal) w has e s whole = absurd cc
  text_line (Unsound net d p held wanted) w has e s whole = absurd cc

-- ---- an arm for each command

-- what is wrong: the plan, or the script behind a plan that opens; or the command isn't built
data IsWrongOf (form : Form) (before : Scene) (w : Wrong) : Type 0 where
  of_plan : (f : OpenFault) → HoldsFault (plan_held form before) f → w ≡ wrongs.Plan f
      → IsWrongOf form before w
  of_script : (r : RecordedOpening) → HoldsOpening (plan_held form before) r
      → HoldsNoScript (before.files.held (read_at form 1)) → w ≡ wrongs.NoScript
      → IsWrongOf form before w
  of_command : (later : Later) → form ≡ later_form later → w ≡ wrongs.Later later
      → IsWrongOf form before w

wrong_of : (form : Form) (before : Scene) (w : Wrong) → IsWrong form before.files.held w
    → IsWrongOf form before w
wrong_of (plan_form file) before w (f, has, e) = of_plan f has e
wrong_of (serial_form file script trace) before w (inl (f, has, e)) = of_plan f has e
wrong_of (serial_form file script trace) before w (inr (r, o, n, e)) = of_script r o n e
wrong_of (later_form later) before w e = of_command later refl e
wrong_of usage_form before w is = absurd is

-- a plan with this fault is wrong
plan_wrong : (form : Form) (before : Scene) (f : OpenFault) → OpensPlan form
    → HoldsFault (plan_held form before) f → IsWrong form before.files.held (wrongs.Plan f)
plan_wrong (plan_form file) before f opens has = (f, has, refl)
plan_wrong (serial_form file script trace) before f opens has = inl (f, has, refl)
plan_wrong (later_form later) before f opens has = absurd opens
plan_wrong usage_form before f opens has = absurd opens

-- ---- an unsafe boundary

module _ (held : Held) (told : IsTold held) (unsafe : HoldsUnsafePlan held) where
  no_opening : (r : RecordedOpening) → HoldsOpening held r → ⊥
  no_opening r o =
      unsafe_unopened o.bytes r
      (subst (λ (b : List ℕ). IsUnsafePlan b)
      (one_text held unsafe.bytes o.bytes told unsafe.holding o.holding) unsafe.unsafe) o.opens

  refused_fault : (f : OpenFault) → HoldsFault held f → opening_status f ≡ status.Refused
  refused_fault f has =
      refused_status f (unsafe_refused has.bytes f
      (subst (λ (b : List ℕ). IsUnsafePlan b)
      (one_text held unsafe.bytes has.bytes told unsafe.holding has.holding) unsafe.unsafe)
      has.faulty)

-- the file of the plan is told
plan_told : (form : Form) (before : Scene) → OpensPlan form → Tells form before
    → IsTold (plan_held form before)
plan_told (plan_form file) before opens tells = tells file (inl refl)
plan_told (serial_form file script trace) before opens tells = tells file (inl refl)
plan_told (later_form later) before opens tells = absurd opens
plan_told usage_form before opens tells = absurd opens

unsafe_right : (form : Form) (before : Scene) (d : Deed) → IsTold (plan_held form before)
    → HoldsUnsafePlan (plan_held form before) → IsRight form before.files.held d → ⊥
unsafe_right (plan_form file) before d told unsafe r =
    no_opening (before.files.held file) told unsafe r.recorded r.opening
unsafe_right (serial_form file script trace) before d told unsafe r =
    no_opening (before.files.held file) told unsafe r.recorded r.opening
unsafe_right (later_form later) before d told unsafe r = r
unsafe_right usage_form before d told unsafe r = r

unsafe_wrong : (form : Form) (before : Scene) (w : Wrong) → OpensPlan form
    → IsTold (plan_held form before) → HoldsUnsafePlan (plan_held form before)
    → IsWrongOf form before w → status_of w ≡ status.Refused
unsafe_wrong form before w opens told unsafe (of_plan f has e) =
    ap status_of e ∙ refused_fault (plan_held form before) told unsafe f has
unsafe_wrong form before w opens told unsafe (of_script r o n e) =
    absurd (no_opening (plan_held form before) told unsafe r o)
unsafe_wrong form before w opens told unsafe (of_command later i e) =
    absurd (subst OpensPlan i opens)

-- ---- the lines of refusals

module _ (form : Form) (before after : Scene) (w : Wrong)
    (whole : IsWhole before after (line_of form w)) where
  lined : (v : Wrong) → w ≡ v → IsWhole before after (line_of form v)
  lined v e = subst (λ (x : Wrong). IsWhole before after (line_of form x)) e whole

  boundary_of : IsWrongOf form before w → status_of w ≡ status.Refused
      → IsBoundaryRefused form before after
  boundary_of (of_plan f has e) s = boundary_line form before after f w has e s whole
  boundary_of (of_script r o n e) s =
      let is : status.Unbuilt ≡ status.Refused = sym (ap status_of e) ∙ s in absurd cc
  boundary_of (of_command later i e) s =
      let is : status.Unbuilt ≡ status.Refused = sym (ap status_of e) ∙ s in absurd cc

  text_of : IsWrongOf form before w → status_of w ≡ status.BadText → IsBadText form before after
  text_of (of_plan f has e) s =
      text_line form before after f w has e (sym (ap status_of e) ∙ s) whole
  text_of (of_script r o n e) s =
      let is : status.Unbuilt ≡ status.BadText = sym (ap status_of e) ∙ s in absurd cc
  text_of (of_command later i e) s =
      let is : status.Unbuilt ≡ status.BadText = sym (ap status_of e) ∙ s in absurd cc

  net_of : IsWrongOf form before w → status_of w ≡ status.BadNet → IsNoEmulation form before after
  net_of (of_plan f has e) s =
      net_line form before after f w has e (sym (ap status_of e) ∙ s) whole
  net_of (of_script r o n e) s =
      let is : status.Unbuilt ≡ status.BadNet = sym (ap status_of e) ∙ s in absurd cc
  net_of (of_command later i e) s =
      let is : status.Unbuilt ≡ status.BadNet = sym (ap status_of e) ∙ s in absurd cc

  not_built_of : IsWrongOf form before w → status_of w ≡ status.Unbuilt
      → IsNotBuilt form before after
  not_built_of (of_plan f has e) s =
      absurd (plan_built f (sym (ap status_of e) ∙ s))
  not_built_of (of_script r o n e) s = no_script n (lined wrongs.NoScript e)
  not_built_of (of_command later i e) s = no_command later i (lined (wrongs.Later later) e)

-- ---- the laws

module _ (form : Form) (before after : Scene) (result : Status)
    (outcome : Outcome form before after result) where
  kind : Kind form before after result
  kind = kind_of form before after result outcome

  refused_with : (expected : Status) → result ≡ expected → IsRefused form before after result
      → (w : Wrong) × IsWrong form before.files.held w × (status_of w ≡ expected)
      × IsWhole before after (line_of form w)
  refused_with expected is r = (r.why, r.wrong, sym r.status ∙ is, r.whole)

  pub boundary_only : result ≡ status.Refused → IsBoundaryRefused form before after
  boundary_only is =
      let r =
      refused_with status.Refused is
      (refused_where form before after result kind (subst IsRefusal (sym is) tt)) in
      boundary_of form before after r.0 r.3 (wrong_of form before r.0 r.1) r.2

  pub text_only : result ≡ status.BadText → IsBadText form before after
  text_only is =
      let r =
      refused_with status.BadText is
      (refused_where form before after result kind (subst IsRefusal (sym is) tt)) in
      text_of form before after r.0 r.3 (wrong_of form before r.0 r.1) r.2

  pub net_only : result ≡ status.BadNet → IsNoEmulation form before after
  net_only is =
      let r =
      refused_with status.BadNet is
      (refused_where form before after result kind (subst IsRefusal (sym is) tt)) in
      net_of form before after r.0 r.3 (wrong_of form before r.0 r.1) r.2

  pub not_built_only : result ≡ status.Unbuilt → IsNotBuilt form before after
  not_built_only is =
      let r =
      refused_with status.Unbuilt is
      (refused_where form before after result kind (subst IsRefusal (sym is) tt)) in
      not_built_of form before after r.0 r.3 (wrong_of form before r.0 r.1) r.2

  module _ (tells : Tells form before) (calm : IsCalm form before after) where
    pub fault_comes : (f : OpenFault) → OpensPlan form → HoldsFault (plan_held form before) f
        → IsUnlessMemory result (opening_status f)
    fault_comes f opens has =
        wrong_only form before after result kind calm tells (wrongs.Plan f)
        (plan_wrong form before f opens has)

    pub boundary_comes : OpensPlan form → HoldsUnsafePlan (plan_held form before)
        → IsUnlessMemory result status.Refused
    boundary_comes opens unsafe = elim kind [
      | is_done d r read is w ↦
          absurd (unsafe_right form before d (plan_told form before opens tells) unsafe r)
      | is_refused u r read is w ↦
          inl (is ∙ unsafe_wrong form before u opens (plan_told form before opens tells) unsafe
          (wrong_of form before u r))
      | is_misused r read is w ↦ absurd (subst OpensPlan r opens)
      | is_unread k has is w ↦ absurd (calm_unread form before after result kind calm k has)
      | is_unput is r ↦ absurd (calm_unput form before after result kind calm r)
      | is_starved is r ↦ inr is
    ]

pub plan_only : (file : List ℕ) (before after : Scene) (result : Status)
    → Outcome (plan_form file) before after result → result ≡ status.Ok
    → IsPlanPut file before after
plan_only file before after result outcome is =
    let done =
    done_where (plan_form file) before after result
    (kind_of (plan_form file) before after result outcome) is in
    record {
      recorded = done.right.recorded;
      opening = done.right.opening;
      whole = subst (λ (d : Deed). IsWhole before after d) done.right.does done.whole;
    }

pub run_only : (file script trace : List ℕ) (before after : Scene) (result : Status)
    → Outcome (serial_form file script trace) before after result → result ≡ status.Ok
    → IsScriptRun file script trace before after
run_only file script trace before after result outcome is =
    let done =
    done_where (serial_form file script trace) before after result
    (kind_of (serial_form file script trace) before after result outcome) is in
    record {
      recorded = done.right.recorded;
      opening = done.right.opening;
      commands = done.right.commands;
      scripted = done.right.scripted;
      run = done.right.run;
      ran = done.right.ran;
      whole = subst (λ (d : Deed). IsWhole before after d) done.right.does done.whole;
    }
