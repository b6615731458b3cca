-- Searches in lists, and the session that stands under two ends.
use Rattle.std.proofs.Common.{◌≡◌, Bool, true, false, cond, List, [], ◌∷◌, Some, None, refl, sym, ap, ◌∙◌, subst, arith}
use Rattle.std.specs.Prelude.{All, slice_get, unwrap_or}
use Rattle.std.specs.List.{Contains, find}
use Rattle.std.proofs.lemmas.List.{get_or-map, length-map}
use Rattle.std.proofs.lemmas.List.Elements.{All-cons, All-head, All-nil, All-tail}
use Rattle.std.proofs.lemmas.Option.{slice_get-get_or}
use Rattle.cn_lists.proofs.Finding.{Contains-from_find}
use Rattle.cn_net.specs.Opening.{Opening}
use Rattle.cn_net.specs.Sessions.{Ascend, session_ends}
use Rattle.cn_net.proofs.SessionOrder.{ends_ascend}
use Rattle.cn_core.specs.Start.{ends, ends_of}
use Rattle.cn_core.specs.State.{CoreState, SessionState, empty_session, is_session, session}
use Rattle.cn_core.proofs.Places.{found_at, placed}

-- ---- a search that finds nothing

pub none_passes : {A : Type 0} (t : A → Bool) (xs : List A) → find t xs ≡ None
    → All (λ x. t x ≡ false) xs
none_passes t [] e = All-nil (λ x. t x ≡ false)
none_passes t (x ∷ xs) e =
    elim (t x) as
    (λ b. t x ≡ b → cond b (Some x) (find t xs) ≡ None → All (λ x. t x ≡ false) (x ∷ xs)) [
      | true ↦ λ b e. cc
      | false ↦ λ b e. All-cons (λ x. t x ≡ false) x xs b (none_passes t xs e)
    ] refl e

pub nothing_found : {A : Type 0} (t : A → Bool) (xs : List A) → All (λ x. t x ≡ false) xs
    → find t xs ≡ None
nothing_found t [] all = refl
nothing_found t (x ∷ xs) all =
    ap (λ b. cond b (Some x) (find t xs)) (All-head (λ x. t x ≡ false) x xs all)
    ∙ nothing_found t xs (All-tail (λ x. t x ≡ false) x xs all)

pub at_member : {A : Type 0} (P : A → Type 0) (xs : List A) (x : A) → All P xs → Contains xs x → P x
at_member P xs x all (k, lt, is) = subst P is (all k x lt)

-- the item that is found passes
pub found_passes : {A : Type 0} (t : A → Bool) (xs : List A) (x : A) → find t xs ≡ Some x
    → t x ≡ true
found_passes t [] x e = cc
found_passes t (y ∷ ys) x e =
    elim (t y) as (λ b. t y ≡ b → cond b (Some y) (find t ys) ≡ Some x → t x ≡ true) [
      | true ↦ λ b e. let same : y ≡ x = cc in ap t (sym same) ∙ b
      | false ↦ λ b e. found_passes t ys x e
    ] refl e

-- an item that is found has what all have
pub found_one : {A : Type 0} (P : A → Type 0) (t : A → Bool) (xs : List A) (x : A) → All P xs
    → find t xs ≡ Some x → P x
found_one P t [] x all e = cc
found_one P t (y ∷ ys) x all e =
    elim (t y) as (λ b. cond b (Some y) (find t ys) ≡ Some x → P x) [
      | true ↦ λ e. let same : y ≡ x = cc in subst P same (All-head P y ys all)
      | false ↦ λ e. found_one P t ys x (All-tail P y ys all) e
    ] e

-- ---- sessions stand apart

-- the ends of the sessions ascend
pub apart : (o : Opening) (s : CoreState)
    → ends_of s.sessions ≡ session_ends o.net o.emulated → Ascend (ends_of s.sessions)
apart o s e = subst Ascend (sym e) (ends_ascend o.net o.emulated)

-- a session that is found is that of its ends
pub found_apart : (t : SessionState → Bool) (xs : List SessionState) (x : SessionState)
    → Ascend (ends_of xs)
    → find t xs ≡ Some x → find (is_session x.from x.to) xs ≡ Some x
found_apart t xs x up e =
    let at = (Contains-from_find t xs x e).0 in
    let i = at.0 in
    let many = length-map xs ends in
    let inside = at.1 in
    let here : slice_get (ends_of xs) i ≡ Some (ends x) =
    slice_get-get_or (ends_of xs) i (ends x) (omega arith)
    ∙ ap Some (get_or-map ends xs i x (ends x) inside ∙ ap ends at.2) in
    found_at x.from x.to xs i x (placed x.from x.to xs up i here) ∙ ap Some at.2

pub session_found : (t : SessionState → Bool) (s : CoreState) (x : SessionState)
    → Ascend (ends_of s.sessions) → find t s.sessions ≡ Some x → session s x.from x.to ≡ x
unfolding session
session_found t s x h e =
    ap (λ o. unwrap_or o (empty_session x.from x.to)) (found_apart t s.sessions x h e)
