-- What a change of one session or of what one device holds does to each.
use Rattle.std.proofs.Common.{◌≡◌, ◌≢◌, ◌<◌, ◌≤◌, Bool, true, false, cond, List, [], ◌∷◌, length, get_or, map, set, Option, Some, None, refl, sym, ap, ◌∙◌, subst, inl, inr, true≢false}
use Rattle.std.specs.Prelude.{◌&&◌, ◌⊎◌, All, is_some, option_map, unwrap_or}
use Rattle.std.specs.List.{Contains, find}
use Rattle.std.specs.FinMap as fin
use Rattle.std.proofs.lemmas.Bool.{cases_lt}
use Rattle.std.proofs.lemmas.Bool.Decides.{eqb_tells}
use Rattle.std.proofs.lemmas.List.{length-set, get_or-set_same, get_or-set_other, get_or_past}
use Rattle.std.proofs.lemmas.List.Elements.{All-cons, All-head, All-nil, All-tail}
use Rattle.cn_base.specs.Cidr.{Cidr}
use Rattle.cn_base.specs.declared.ids.DeviceId.{DeviceId}
use Rattle.cn_base.specs.declared.route.Route.{Route}
use Rattle.cn_lists.proofs.Finding.{Contains-from_is_some_find, Contains-from_map, Contains-map, is_some-find}
use Rattle.cn_net.specs.Network.{same_device}
use Rattle.cn_net.specs.declared.sessions.SessionEnds.{SessionEnds}
use Rattle.cn_net.proofs.Keys.{same_device-Decides}
use Rattle.cn_core.specs.Machine.{at_first, came_at, route_with, with_rib, with_session}
use Rattle.cn_core.specs.Start.{ends, ends_of}
use Rattle.cn_core.specs.State.{CoreState, RibState, SessionState, empty_rib, empty_session, is_session, rib, session}

-- ---- options and tests

pub none_if : {A : Type 0} (o : Option A) → is_some o ≡ false → o ≡ None
none_if None e = refl
none_if (Some x) e = absurd (true≢false e)

pub some_if : {A : Type 0} (o : Option A) → is_some o ≡ true → (x : A) × (o ≡ Some x)
some_if None e = absurd (true≢false (sym e))
some_if (Some x) e = (x, refl)

pub and_parts : (a b : Bool) → (a && b) ≡ true → (a ≡ true) × (b ≡ true)
and_parts true b e = (refl, e)
and_parts false b e = absurd (true≢false (sym e))

-- ---- the ends of a session

pub ends_are : (a b : DeviceId) (x : SessionState) → is_session a b x ≡ true
    → (x.from ≡ a) × (x.to ≡ b)
ends_are a b x e =
    let t = and_parts (same_device x.from a) (same_device x.to b) e in
    ((same_device-Decides x.from a).0 t.0, (same_device-Decides x.to b).0 t.1)

pub itself : (d : DeviceId) → same_device d d ≡ true
itself d = (same_device-Decides d d).1 refl

pub own_ends : (x : SessionState) → is_session x.from x.to x ≡ true
own_ends x = ap (λ t. t && same_device x.to x.to) (itself x.from) ∙ itself x.to

-- f keeps the ends of a session
pub record KeepsEnds (f : SessionState → SessionState) : Type 0 where
  pub from : (x : SessionState) → (f x).from ≡ x.from
  pub to : (x : SessionState) → (f x).to ≡ x.to

still_session : (f : SessionState → SessionState) → KeepsEnds f
    → (a b : DeviceId) (x : SessionState)
    → is_session a b (f x) ≡ is_session a b x
still_session f k a b x =
    ap (λ z. same_device z a && same_device (f x).to b) (k.from x)
    ∙ ap (λ z. same_device x.from a && same_device z b) (k.to x)

pub ends_kept : (t : SessionState → Bool) (f : SessionState → SessionState) → KeepsEnds f
    → (xs : List SessionState)
    → ends_of (at_first t f xs) ≡ ends_of xs
ends_kept t f k [] = refl
ends_kept t f k (x ∷ xs) =
    elim (t x) as (λ b. ends_of (cond b (f x ∷ xs) (x ∷ at_first t f xs)) ≡ ends_of (x ∷ xs)) [
      | true ↦ λ i. record { from = k.from x i; to = k.to x i } ∷ ends_of xs
      | false ↦ ap (λ es. ends x ∷ es) (ends_kept t f k xs)
    ]

-- what holds of the ends of a list holds of its sessions
pub all_by_ends : (P : SessionEnds → Type 0) (xs : List SessionState) → All P (ends_of xs)
    → All (λ x. P (ends x)) xs
all_by_ends P [] h = All-nil (λ (x : SessionState). P (ends x))
all_by_ends P (x ∷ xs) h =
    All-cons (λ (y : SessionState). P (ends y)) x xs (All-head P (ends x) (ends_of xs) h)
    (all_by_ends P xs (All-tail P (ends x) (ends_of xs) h))

-- empty sessions with these ends have these ends
pub ends_of-empty : (es : List SessionEnds) → ends_of (map (λ e. empty_session e.from e.to) es) ≡ es
ends_of-empty [] = refl
ends_of-empty (e ∷ es) = ap (λ xs. e ∷ xs) (ends_of-empty es)

-- a session with these ends is found
pub is_some-session : (a b : DeviceId) (xs : List SessionState)
    → Contains (ends_of xs) (record { from = a; to = b })
    → is_some (find (is_session a b) xs) ≡ true
is_some-session a b xs h =
    let it : SessionEnds = record { from = a; to = b } in
    let at = Contains-from_map ends xs it h in
    is_some-find (is_session a b) xs at.0 at.1
    ((λ i. same_device (at.2 i).from a && same_device (at.2 i).to b)
    ∙ ap (λ t. t && same_device b b) (itself a) ∙ itself b)

-- and the other way
pub session-from_is_some : (a b : DeviceId) (xs : List SessionState)
    → is_some (find (is_session a b) xs) ≡ true
    → Contains (ends_of xs) (record { from = a; to = b })
session-from_is_some a b xs h =
    let it : SessionEnds = record { from = a; to = b } in
    let at = Contains-from_is_some_find (is_session a b) xs h in
    let are = ends_are a b at.0 at.2 in
    Contains-map ends xs at.0 it at.1 (λ i. record { from = are.0 i; to = are.1 i })

-- ---- the session that is found

-- a fact of each session that f keeps
pub all_at_first : (P : SessionState → Type 0) (test : SessionState → Bool)
    (f : SessionState → SessionState)
    → (xs : List SessionState) → ((x : SessionState) → find test xs ≡ Some x → P x → P (f x))
    → All P xs
    → All P (at_first test f xs)
all_at_first P test f [] keep all = all
all_at_first P test f (x ∷ xs) keep all =
    elim (test x) as (λ t. test x ≡ t → All P (cond t (f x ∷ xs) (x ∷ at_first test f xs))) [
      | true ↦
          λ e. All-cons P (f x) xs
          (keep x (ap (λ t. cond t (Some x) (find test xs)) e) (All-head P x xs all))
          (All-tail P x xs all)
      | false ↦
          λ e. All-cons P x _ (All-head P x xs all)
          (all_at_first P test f xs (λ y g. keep y (ap (λ t. cond t (Some x) (find test xs)) e ∙ g))
          (All-tail P x xs all))
    ] refl

-- each session keeps P where f does
pub all_sessions : (P : SessionState → Type 0) (s : CoreState) (a b : DeviceId)
    (f : SessionState → SessionState)
    → ((x : SessionState) → session s a b ≡ x → P x → P (f x)) → All P s.sessions
    → All P (with_session s a b f).sessions
unfolding with_session session
all_sessions P s a b f keep all =
    all_at_first P (is_session a b) f s.sessions
    (λ x e. keep x (ap (λ o. unwrap_or o (empty_session a b)) e)) all

-- a fact of each session, at the one that is found
pub found_has : (P : SessionState → Type 0) (test : SessionState → Bool) (xs : List SessionState)
    (x : SessionState)
    → All P xs → find test xs ≡ Some x → P x × (test x ≡ true)
found_has P test [] x all e = cc
found_has P test (y ∷ ys) x all e =
    elim (test y) as
    (λ t. test y ≡ t → cond t (Some y) (find test ys) ≡ Some x → P x × (test x ≡ true)) [
      | true ↦
          λ t e.
          let same : y ≡ x = cc in
          (subst P same (All-head P y ys all), subst (λ z. test z ≡ true) same t)
      | false ↦ λ t e. found_has P test ys x (All-tail P y ys all) e
    ] refl e

-- the one that is found passes
pub found_is : (test : SessionState → Bool) (xs : List SessionState) (x : SessionState)
    → find test xs ≡ Some x
    → test x ≡ true
found_is test xs x e = (found_has (λ _. Unit {0}) test xs x (λ k d h. tt) e).1

-- a fact of each session and of an empty one, at the session from a to b
pub all_session : (P : SessionState → Type 0) (s : CoreState) (a b : DeviceId) → All P s.sessions
    → P (empty_session a b) → P (session s a b)
unfolding session
all_session P s a b all empty =
    elim (find (is_session a b) s.sessions) as (λ o. find (is_session a b) s.sessions ≡ o
    → P (unwrap_or o (empty_session a b))) [
      | None ↦ λ e. empty
      | Some x ↦ λ e. (found_has P (is_session a b) s.sessions x all e).0
    ] refl

-- ---- what came in

-- the route to q that came from a to d, among these sessions
abbrev pub look : List SessionState → DeviceId → Cidr → DeviceId → Option Route
look xs d q a =
    option_map (route_with q)
    (fin.get (unwrap_or (find (is_session a d) xs) (empty_session a d)).adj_rib_in q)

look_kept : (f : SessionState → SessionState) → KeepsEnds f
    → (a b d : DeviceId) (q : Cidr) (xs : List SessionState)
    → ((x : SessionState) → find (is_session a b) xs ≡ Some x → x.to ≡ d
    → fin.get (f x).adj_rib_in q ≡ fin.get x.adj_rib_in q) → (c : DeviceId)
    → look (at_first (is_session a b) f xs) d q c ≡ look xs d q c
look_kept f k a b d q [] keep c = refl
look_kept f k a b d q (x ∷ xs) keep c =
    elim (is_session a b x) as (λ t. is_session a b x ≡ t
    → look (cond t (f x ∷ xs) (x ∷ at_first (is_session a b) f xs)) d q c ≡ look (x ∷ xs) d q c) [
      | true ↦
          λ e. ap (λ t. option_map (route_with q)
          (fin.get
          (unwrap_or (cond t (Some (f x)) (find (is_session c d) xs))
          (empty_session c d)).adj_rib_in q))
          (still_session f k c d x)
          ∙ elim (is_session c d x) as (λ t. is_session c d x ≡ t
          → option_map (route_with q)
          (fin.get
          (unwrap_or (cond t (Some (f x)) (find (is_session c d) xs))
          (empty_session c d)).adj_rib_in q)
          ≡ option_map (route_with q)
          (fin.get (unwrap_or (cond t (Some x) (find (is_session c d) xs))
          (empty_session c d)).adj_rib_in
          q)) [
            | true ↦
                λ g. ap (option_map (route_with q))
                (keep x (ap (λ t. cond t (Some x) (find (is_session a b) xs)) e)
                (ends_are c d x g).1)
            | false ↦ λ g. refl
          ] refl
      | false ↦
          λ e. elim (is_session c d x) as (λ t. option_map (route_with q)
          (fin.get (unwrap_or
          (cond t (Some x) (find (is_session c d) (at_first (is_session a b) f xs)))
          (empty_session c d)).adj_rib_in q)
          ≡ option_map (route_with q)
          (fin.get (unwrap_or (cond t (Some x) (find (is_session c d) xs))
          (empty_session c d)).adj_rib_in
          q)) [
            | true ↦ refl
            | false ↦
                look_kept f k a b d q xs
                (λ y g. keep y (ap (λ t. cond t (Some x) (find (is_session a b) xs)) e ∙ g)) c
          ]
    ] refl

-- what came in stays for q at d, where f keeps it
pub came_kept : (s : CoreState) (f : SessionState → SessionState) → KeepsEnds f
    → (a b d : DeviceId) (q : Cidr)
    → ((x : SessionState) → find (is_session a b) s.sessions ≡ Some x → x.to ≡ d
    → fin.get (f x).adj_rib_in q ≡ fin.get x.adj_rib_in q)
    → came_at (with_session s a b f) d q ≡ came_at s d q
unfolding came_at session with_session
came_kept s f k a b d q keep = λ i c. look_kept f k a b d q s.sessions keep c i

pub came_of_rib : (s : CoreState) (d : DeviceId) (q : Cidr) (e : DeviceId) (x : RibState)
    → came_at (with_rib s e x) d q ≡ came_at s d q
unfolding came_at session with_rib
came_of_rib s d q e x = refl

-- ---- what a device holds

pub rib_of_session : (s : CoreState) (a b d : DeviceId) (f : SessionState → SessionState)
    → rib (with_session s a b f) d ≡ rib s d
unfolding rib with_session
rib_of_session s a b d f = refl

same_number : (d e : DeviceId) → d.0 ≡ e.0 → d ≡ e
same_number d e n = λ i. record { 0 = n i }

-- what is written is at its place, and else what was there is still there
pub rib_places : (s : CoreState) (d e : DeviceId) (x : RibState)
    → ((e ≡ d) × (rib (with_rib s d x) e ≡ x))
    ⊎ ((rib (with_rib s d x) e ≡ rib s e) × ((e ≢ d) ⊎ (length s.ribs ≤ d.0)))
unfolding rib with_rib
rib_places s d e x =
    elim (eqb_tells e.0 d.0) [
      | inl same ↦
          elim (cases_lt d.0 (length s.ribs)) [
            | inl in' ↦ inl (
              same_number e d same.1,
              ap (λ z. get_or (set s.ribs d.0 x) z empty_rib) same.1
                  ∙ get_or-set_same s.ribs d.0 x empty_rib in',
            )
            | inr out ↦ inr (
              ap (λ z. get_or (set s.ribs d.0 x) z empty_rib) same.1
                  ∙ get_or_past (set s.ribs d.0 x) d.0 empty_rib (rw length-set out)
                  ∙ sym (get_or_past s.ribs d.0 empty_rib out)
                  ∙ ap (λ z. get_or s.ribs z empty_rib) (sym same.1),
              inr out,
            )
          ]
      | inr other ↦ inr (
        get_or-set_other s.ribs d.0 e.0 x empty_rib other.1,
        inl (λ h. other.1 (ap (λ z. z.0) h)),
      )
    ]

pub rib_same : (s : CoreState) (d : DeviceId) (x : RibState) → d.0 < length s.ribs
    → rib (with_rib s d x) d ≡ x
unfolding rib with_rib
rib_same s d x h = get_or-set_same s.ribs d.0 x empty_rib h

pub rib_other : (s : CoreState) (d e : DeviceId) (x : RibState) → e ≢ d
    → rib (with_rib s d x) e ≡ rib s e
unfolding rib with_rib
rib_other s d e x h = get_or-set_other s.ribs d.0 e.0 x empty_rib (λ n. h (same_number e d n))

pub rib_past : (s : CoreState) (d : DeviceId) → length s.ribs ≤ d.0 → rib s d ≡ empty_rib
unfolding rib
rib_past s d h = get_or_past s.ribs d.0 empty_rib h
