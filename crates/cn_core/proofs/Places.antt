-- The places of sessions: of one, of those from a device, and of those into a device.
use Rattle.std.proofs.Common.{◌≡◌, ◌≢◌, ℕ, zero, suc, ◌<◌, ◌≤◌, ◌↔◌, Bool, true, false, cond, List, [], ◌∷◌, length, get_or, set, Option, Some, None, Less, refl, ap, sym, ◌∙◌, inl, inr, arith}
use Rattle.std.specs.Prelude.{◌&&◌, MatchOption, slice_get, unwrap_or}
use Rattle.std.specs.List.{Contains, find}
use Rattle.std.proofs.lemmas.Bool.{false_from_ne_true}
use Rattle.std.proofs.lemmas.Bool.Decides.{nat_tests}
use Rattle.std.proofs.lemmas.List.{get_or-map, length-map}
use Rattle.std.proofs.lemmas.Option.{get_or_from_slice_get, slice_get-get_or, slice_get_within}
use Rattle.cn_base.specs.declared.ids.DeviceId.{DeviceId}
use Rattle.cn_net.specs.Network.{same_device}
use Rattle.cn_net.specs.Sessions.{Ascend, by_sender, comes_from, places_into}
use Rattle.cn_net.specs.declared.sessions.SessionEnds.{SessionEnds}
use Rattle.cn_net.proofs.Keys.{same_device-Decides}
use Rattle.cn_net.proofs.Lookups.{end_holds, end_is}
use Rattle.cn_net.proofs.Senders.{place_leads, sender_at, sender_is}
use Rattle.cn_core.specs.Machine.{at_first}
use Rattle.cn_core.specs.Start.{ends, ends_of}
use Rattle.cn_core.specs.State.{CoreState, SessionState, empty_session, is_session, session}
use Rattle.cn_core.specs.Whole.{ArePlacesOf, IsNowhere, IsPlaceOf}
use Rattle.cn_core.proofs.Access.{ends_are, itself}

-- ---- the item at a place

pub find_there : {A : Type 0} (t : A → Bool) (xs : List A) (i : ℕ) (d : A) → i < length xs
    → ((k : ℕ) → k < i → t (get_or xs k d) ≡ false) → t (get_or xs i d) ≡ true
    → find t xs ≡ Some (get_or xs i d)
find_there t [] i d inside before here = absurd (omega (arith, inside))
find_there t (x ∷ xs) zero d inside before here = ap (λ b. cond b (Some x) (find t xs)) here
find_there t (x ∷ xs) (suc i) d inside before here =
    ap (λ b. cond b (Some x) (find t xs)) (before 0 (omega arith))
    ∙ find_there t xs i d (omega (arith, inside)) (λ k lt. before (suc k) (omega (arith, lt))) here

change_there : {A : Type 0} (t : A → Bool) (f : A → A) (xs : List A) (i : ℕ) (d : A) → i < length xs
    → ((k : ℕ) → k < i → t (get_or xs k d) ≡ false) → t (get_or xs i d) ≡ true
    → at_first t f xs ≡ set xs i (f (get_or xs i d))
change_there t f [] i d inside before here = absurd (omega (arith, inside))
change_there t f (x ∷ xs) zero d inside before here =
    ap (λ b. cond b (f x ∷ xs) (x ∷ at_first t f xs)) here
change_there t f (x ∷ xs) (suc i) d inside before here =
    ap (λ b. cond b (f x ∷ xs) (x ∷ at_first t f xs)) (before 0 (omega arith))
    ∙ ap (λ ys. x ∷ ys)
    (change_there t f xs i d (omega (arith, inside)) (λ k lt. before (suc k) (omega (arith, lt)))
    here)

pub find_nowhere : {A : Type 0} (t : A → Bool) (xs : List A)
    → ((k : ℕ) (d : A) → k < length xs → t (get_or xs k d) ≡ false) → find t xs ≡ None
find_nowhere t [] none = refl
find_nowhere t (x ∷ xs) none =
    ap (λ b. cond b (Some x) (find t xs)) (none 0 x (omega arith))
    ∙ find_nowhere t xs (λ k d lt. none (suc k) d (omega (arith, lt)))

pub found_at : (a b : DeviceId) (xs : List SessionState) (i : ℕ) (d : SessionState)
    → IsPlaceOf a b xs i
    → find (is_session a b) xs ≡ Some (get_or xs i d)
found_at a b xs i d p =
    find_there (is_session a b) xs i d p.inside (λ k lt. p.before k d lt) (p.here d)

pub changed_at : (a b : DeviceId) (xs : List SessionState) (i : ℕ) (d : SessionState)
    (f : SessionState → SessionState)
    → IsPlaceOf a b xs i → at_first (is_session a b) f xs ≡ set xs i (f (get_or xs i d))
changed_at a b xs i d f p =
    change_there (is_session a b) f xs i d p.inside (λ k lt. p.before k d lt) (p.here d)

pub not_found : (a b : DeviceId) (xs : List SessionState) → IsNowhere a b xs
    → find (is_session a b) xs ≡ None
not_found a b xs n = find_nowhere (is_session a b) xs n

pub session_at : (s : CoreState) (a b : DeviceId) (i : ℕ) (d : SessionState)
    → IsPlaceOf a b s.sessions i
    → session s a b ≡ get_or s.sessions i d
unfolding session
session_at s a b i d p = ap (λ o. unwrap_or o (empty_session a b)) (found_at a b s.sessions i d p)

pub session_nowhere : (s : CoreState) (a b : DeviceId) → IsNowhere a b s.sessions
    → session s a b ≡ empty_session a b
unfolding session
session_nowhere s a b n = ap (λ o. unwrap_or o (empty_session a b)) (not_found a b s.sessions n)

-- ---- what an index finds

ends_at : (xs : List SessionState) (i : ℕ) (d : SessionState) (e : SessionEnds) → i < length xs
    → get_or (ends_of xs) i e ≡ ends (get_or xs i d)
ends_at xs i d e within = get_or-map ends xs i d e within

lesser_ends : (a b : DeviceId) (e f : SessionEnds) → by_sender e f ≡ Less → f.from ≡ a → f.to ≡ b
    → (same_device e.from a && same_device e.to b) ≡ false
lesser_ends a b e f less from to =
    let x = ap (λ (z : DeviceId). z.0) from in
    let y = ap (λ (z : DeviceId). z.0) to in
    grind (arith, nat_tests)

greater_ends : (a b : DeviceId) (e f : SessionEnds) → by_sender e f ≡ Less → e.from ≡ a → e.to ≡ b
    → (same_device f.from a && same_device f.to b) ≡ false
greater_ends a b e f less from to =
    let x = ap (λ (z : DeviceId). z.0) from in
    let y = ap (λ (z : DeviceId). z.0) to in
    grind (arith, nat_tests)

module _ (a b : DeviceId) (xs : List SessionState) (up : Ascend (ends_of xs)) where
  abbrev it : SessionEnds
  it = record { from = a; to = b }

  -- the ends of a session and of a later one
  pub ends_ascend : (i j : ℕ) (d : SessionState) → i < j → j < length xs
      → by_sender (ends (get_or xs i d)) (ends (get_or xs j d)) ≡ Less
  ends_ascend i j d lt within =
      let many = length-map xs ends in
      (λ k. by_sender (sym (ends_at xs i d it (omega arith)) k) (sym (ends_at xs j d it within) k))
      ∙ up i j it lt (omega arith)

  -- the session with these ends stands at the place that the index has for them
  pub placed : (i : ℕ) → slice_get (ends_of xs) i ≡ Some it → IsPlaceOf a b xs i
  placed i at =
      let many = length-map xs ends in
      let within = slice_get_within (ends_of xs) i it at in
      let inside : i < length xs = omega arith in
      let are : (d : SessionState) → ends (get_or xs i d) ≡ it =
      λ d. sym (ends_at xs i d it inside) ∙ get_or_from_slice_get (ends_of xs) i it it at in
      record {
        inside = inside;
        here = λ d.
            (λ k. same_device (are d k).from a && same_device (are d k).to b)
            ∙ ap (λ t. t && same_device b b) (itself a) ∙ itself b;
        before = λ k d lt.
            lesser_ends a b (ends (get_or xs k d)) (ends (get_or xs i d))
            (ends_ascend k i d lt inside)
            (ap (λ (e : SessionEnds). e.from) (are d)) (ap (λ (e : SessionEnds). e.to) (are d));
      }

  -- a session that stands behind it has other ends
  pub placed-later : (i k : ℕ) (d : SessionState) → IsPlaceOf a b xs i → i < k → k < length xs
      → is_session a b (get_or xs k d) ≡ false
  placed-later i k d p lt within =
      let are = ends_are a b (get_or xs i d) (p.here d) in
      greater_ends a b (ends (get_or xs i d)) (ends (get_or xs k d)) (ends_ascend i k d lt within)
      are.0 are.1

-- no session has ends for which the index has no place
pub unplaced : (a b : DeviceId) (xs : List SessionState)
    → ((i : ℕ) → slice_get (ends_of xs) i ≢ Some (record { from = a; to = b }))
    → IsNowhere a b xs
unplaced a b xs none k d lt =
    let it : SessionEnds = record { from = a; to = b } in
    let many = length-map xs ends in
    false_from_ne_true (is_session a b (get_or xs k d)) (λ t.
    let are = ends_are a b (get_or xs k d) t in
    none k (slice_get-get_or (ends_of xs) k it (omega arith)
    ∙ ap Some (ends_at xs k d it lt)
    ∙ (λ i. Some (record { from = are.0 i; to = are.1 i }))))

-- what the index answers of two ends
pub place_found : (a b : DeviceId) (xs : List SessionState) (o : Option ℕ) → Ascend (ends_of xs)
    → MatchOption o ((i : ℕ) → slice_get (ends_of xs) i ≢ Some (record { from = a; to = b }))
    (λ i. slice_get (ends_of xs) i ≡ Some (record { from = a; to = b }))
    → MatchOption o (IsNowhere a b xs) (λ i. IsPlaceOf a b xs i)
place_found a b xs None up found = unplaced a b xs found
place_found a b xs (Some i) up found = placed a b xs up i found

-- ---- the places of the sessions from a device

module _ (d : DeviceId) (xs : List SessionState) (k : ℕ) (x : SessionState)
    (within : k < length xs) where
  abbrev from_it : Bool
  from_it = same_device (get_or xs k x).from d

  from_at : comes_from (ends_of xs) d k ≡ true → from_it ≡ true
  from_at t =
      let is = end_is (λ (e : SessionEnds). e.from) (ends_of xs) d k (ends x) t in
      (same_device-Decides (get_or xs k x).from d).1
      (sym (ap (λ (e : SessionEnds). e.from) (ends_at xs k x (ends x) within)) ∙ is.1)

  at_from : from_it ≡ true → comes_from (ends_of xs) d k ≡ true
  at_from t =
      let many = length-map xs ends in
      end_holds (λ (e : SessionEnds). e.from) (ends_of xs) d k (ends x) (omega arith)
      (ap (λ (e : SessionEnds). e.from) (ends_at xs k x (ends x) within)
      ∙ (same_device-Decides (get_or xs k x).from d).0 t)

-- the places that the index has for the sessions from a device
pub places_found : (d : DeviceId) (xs : List SessionState) (start end : ℕ)
    → end ≤ length (ends_of xs)
    → ((k : ℕ) → ((start ≤ k) × (k < end)) ↔ (comes_from (ends_of xs) d k ≡ true))
    → ArePlacesOf d xs start end
places_found d xs start end inside places =
    let many = length-map xs ends in
    record {
      inside = omega arith;
      these = λ k x ge lt. from_at d xs k x (omega arith) ((places k).0 (ge, lt));
      others = λ k x lt out.
          false_from_ne_true (same_device (get_or xs k x).from d) (λ t.
          let are = (places k).1 (at_from d xs k x lt t) in
          let ge = are.0 in
          let below = are.1 in
          elim out [
            | inl before ↦ omega arith
            | inr past ↦ omega arith
          ]);
    }

-- ---- the sessions into a device

nobody : DeviceId
nobody = record { 0 = 0 }

-- a place that the index has for the sessions into a device is that of a session
pub into_within : (d : DeviceId) (xs : List SessionState) (k : ℕ)
    → Contains (places_into (ends_of xs) d) k → k < length xs
into_within d xs k h =
    let many = length-map xs ends in
    let leads = place_leads (ends_of xs) d k (record { from = nobody; to = nobody }) h in
    omega (arith, leads.0)

-- the session at a place that the index has for the sessions into a device
pub into_found : (d : DeviceId) (xs : List SessionState) (k : ℕ) (x : SessionState)
    → Ascend (ends_of xs)
    → Contains (places_into (ends_of xs) d) k → x ≡ get_or xs k x
    → (k < length xs) × (find (is_session x.from d) xs ≡ Some x)
    × (sender_at (ends_of xs) k ≡ x.from)
into_found d xs k x up h is =
    let leads = place_leads (ends_of xs) d k (ends x) h in
    let within = into_within d xs k h in
    let here : get_or (ends_of xs) k (ends x) ≡ ends x =
    ends_at xs k x (ends x) within ∙ ap ends (sym is) in
    let to : x.to ≡ d = sym (ap (λ (e : SessionEnds). e.to) here) ∙ leads.1 in
    let at : slice_get (ends_of xs) k ≡ Some (record { from = x.from; to = d }) =
    slice_get-get_or (ends_of xs) k (ends x) leads.0
    ∙ ap Some here ∙ (λ i. Some (record { from = x.from; to = to i })) in (
      within,
      found_at x.from d xs k x (placed x.from d xs up k at) ∙ ap Some (sym is),
      sender_is (ends_of xs) k (ends x) leads.0 (sym here),
    )
