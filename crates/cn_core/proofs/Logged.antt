-- The state of a history that has grown.
use Rattle.std.proofs.Common.{◌≡◌, ℕ, ◌<◌, false, List, [], ◌∷◌, ◌++◌, length, get_or, refl, sym, ap, ◌∙◌, subst}
use Rattle.std.specs.Prelude.{All, Err, IsTrue, Ok, OnOk, Result, is_err}
use Rattle.std.specs.List.{fold}
use Rattle.cn_net.specs.Opening.{Opening}
use Rattle.cn_record.specs.Recorded.{IsRecorded, RecordedOpening}
use Rattle.cn_core.specs.declared.event.Event.{Event}
use Rattle.cn_core.specs.declared.event.Step.{Step}
use Rattle.cn_core.specs.declared.event.Step.TheVariants.{Work, Mark}
use Rattle.cn_core.specs.Fits.{Fits}
use Rattle.cn_core.specs.Laws.{IsCarried, IsKept}
use Rattle.cn_core.specs.Log.{IsState}
use Rattle.cn_core.specs.Machine.{IsEnabled, IsRun, IsRunFrom, after_event, can, state, step}
use Rattle.cn_core.specs.Start.{first_ribs, first_sessions, start}
use Rattle.cn_core.specs.State.{CoreState, RibState, SessionState}
use Rattle.cn_core.specs.Whole.{IsWhole}
use Rattle.cn_core.proofs.Kept.{run_holds}
use Rattle.cn_core.proofs.Wholes.{whole_of}

fold_push : (s : CoreState) (h : List Step) (e : Step)
    → fold step s (h ++ e ∷ []) ≡ step (fold step s h) e
fold_push s [] e = refl
fold_push s (x ∷ h) e = fold_push (step s x) h e

pub state_push : (r : RecordedOpening) (h : List Step) (e : Step)
    → state r (h ++ e ∷ []) ≡ step (state r h) e
unfolding state
state_push r h e = fold_push (start r) h e

run_from_push : (s : CoreState) (h : List Step) (e : Step) → IsRunFrom s h
    → IsEnabled (fold step s h) e → IsRunFrom s (h ++ e ∷ [])
run_from_push s [] e run enabled = (enabled, tt)
run_from_push s (x ∷ h) e run enabled = (run.0, run_from_push (step s x) h e run.1 enabled)

pub run_push : (r : RecordedOpening) (h : List Step) (e : Step) → IsRun r h
    → IsEnabled (state r h) e → IsRun r (h ++ e ∷ [])
unfolding state IsRun
run_push r h e run enabled = run_from_push (start r) h e run enabled

empty_run : (r : RecordedOpening) → IsRun r []
unfolding IsRun
empty_run r = tt

pub state_nil : (r : RecordedOpening) → state r [] ≡ start r
unfolding state
state_nil r = refl

pub kept_of : (r : RecordedOpening) (h : List Step) (t : CoreState) → IsState r h t → IsKept r t
kept_of r h t is = subst (IsKept r) (sym is.tables) (run_holds.kept r h is.run)

pub carried_of : (r : RecordedOpening) (h : List Step) (t : CoreState) → IsState r h t
    → IsCarried t
carried_of r h t is = subst IsCarried (sym is.tables) (run_holds.carried r h is.fits is.run)

pub whole_at : (r : RecordedOpening) (h : List Step) (t : CoreState) → IsState r h t → IsWhole t
whole_at r h t is = whole_of r t is.recorded.opening.valid (kept_of r h t is)

pub worked : (r : RecordedOpening) (h hs : List Step) (t u : CoreState) (e : Event) → IsState r h t
    → IsTrue (can t e) → u ≡ after_event t e → hs ≡ h ++ Work e ∷ [] → IsState r hs u
worked r h hs t u e is enabled new grown = subst (λ l. IsState r l u) (sym grown) (record {
  recorded = is.recorded;
  fits = is.fits;
  run = run_push r h (Work e) is.run (subst (λ s. IsTrue (can s e)) is.tables enabled);
  tables = new ∙ ap (λ s. after_event s e) is.tables ∙ sym (state_push r h (Work e));
})

pub marked : (r : RecordedOpening) (h hs : List Step) (t : CoreState) (k : ℕ) → IsState r h t
    → hs ≡ h ++ Mark k ∷ [] → IsState r hs t
marked r h hs t k is grown = subst (λ l. IsState r l t) (sym grown) (record {
  recorded = is.recorded;
  fits = is.fits;
  run = run_push r h (Mark k) is.run tt;
  tables = is.tables ∙ sym (state_push r h (Mark k));
})

pub from_no_err : {T E P : Type 0} (r : Result T E) → is_err r ≡ false → OnOk r P → P
from_no_err (Ok x) e h = h
from_no_err (Err y) e h = cc

pub opened : (r : RecordedOpening) (h : List Step) (t : CoreState) → IsRecorded r → Fits r → h ≡ []
    → t ≡ start r → IsState r h t
opened r h t recorded fits none first = subst (λ h. IsState r h t) (sym none) (record {
  recorded = recorded;
  fits = fits;
  run = empty_run r;
  tables = first ∙ sym (state_nil r);
})

-- ---- the start

whole_start : (r : RecordedOpening) → IsRecorded r → IsWhole (start r)
whole_start r recorded =
    whole_of r (start r) recorded.opening.valid
    (subst (IsKept r) (state_nil r) (run_holds.kept r [] (empty_run r)))

-- what is made of the parts of the start lies in order
pub start_whole : (r : RecordedOpening) → IsRecorded r → (now : Opening)
    (ss : List SessionState) (rs : List RibState)
    → now ≡ r.opening → ss ≡ first_sessions r.opening → rs ≡ first_ribs r
    → IsWhole (record { now = now; sessions = ss; ribs = rs })
unfolding start
start_whole r recorded now ss rs is sessions ribs =
    subst IsWhole
    (λ i. record { now = sym is i; sessions = sym sessions i; ribs = sym ribs i })
    (whole_start r recorded)

-- and each sender is a device
pub start_senders : (r : RecordedOpening) → IsRecorded r → (ss : List SessionState)
    (rs : List RibState)
    → ss ≡ first_sessions r.opening → rs ≡ first_ribs r
    → All (λ (x : SessionState). x.from.0 < length rs) ss
start_senders r recorded ss rs sessions ribs k x lt =
    let w = start_whole r recorded r.opening ss rs refl sessions ribs in
    subst (λ l. (get_or ss k x).from.0 < l) (sym w.ribs) (w.within k x lt).0
