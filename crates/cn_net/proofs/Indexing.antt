-- How an index of sessions is made: the list of their ends, where each device's begin, and the
-- places of those into each device.
use Rattle.std.proofs.Common.{◌≡◌, ℕ, zero, suc, ◌+◌, ◌<◌, ◌≤◌, Bool, true, false, cond, List, [], ◌∷◌, ◌++◌, length, get_or, set, map, take, ltb, refl, sym, ap, subst, ◌∙◌, inl, inr, arith, add-one, append_assoc, append-nil, unwrap_or, option_map}
use Rattle.std.specs.List.{filter, flat_map, range_with_len}
use Rattle.std.specs.List.Sorted.{IsPartitionPoint}
use Rattle.std.proofs.lemmas.Bool.{cases_eq, cases_lt, false_from_ne_true, ltb-false, ltb-true}
use Rattle.std.proofs.lemmas.List.{get_or-set_other, get_or-set_same, get_or_append_left, get_or_push, length_push, map-append, map_more}
use Rattle.std.proofs.lemmas.List.Elements.{All-nil, All-push, filter-append}
use Rattle.std.proofs.lemmas.Option.{slice_get-get_or}
use Rattle.cn_base.specs.declared.ids.DeviceId.{DeviceId}
use Rattle.cn_net.specs.Network.{Network, device_ids, same_device}
use Rattle.cn_net.specs.Sessions.{SessionsBegin, leads_to}
use Rattle.cn_net.specs.declared.sessions.SessionEnds.{SessionEnds}
use Rattle.cn_net.proofs.Keys.{same_device-Decides}

-- ---- numbers from 0 on

range_suc : (a n : ℕ) → range_with_len a (suc n) ≡ range_with_len a n ++ (a + n) ∷ []
range_suc a zero = let e : a ≡ a + 0 = omega arith in ap (λ k. k ∷ []) e
range_suc a (suc n) =
    let e : (a + 1) + n ≡ a + suc n = omega arith in
    ap (λ ks. a ∷ ks) (range_suc (a + 1) n ∙ ap (λ k. range_with_len (a + 1) n ++ k ∷ []) e)

range_more : (n : ℕ) → range_with_len 0 (n + 1) ≡ range_with_len 0 n ++ n ∷ []
range_more n =
    let e : 0 + n ≡ n = omega arith in
    rw add-one (range_suc 0 n ∙ ap (λ k. range_with_len 0 n ++ k ∷ []) e)

-- the devices with the first so many numbers
unfoldable pub ids : ℕ → List DeviceId
ids n = map (λ k. record { 0 = k }) (range_with_len 0 n)

pub all_ids : (net : Network) → ids (length net.devices) ≡ device_ids net
unfolding ids device_ids
all_ids net = refl

pub no_ids : ids 0 ≡ []
unfolding ids
no_ids = refl

ids_more : (n : ℕ) → ids (n + 1) ≡ ids n ++ record { 0 = n } ∷ []
unfolding ids
ids_more n =
    let f : ℕ → DeviceId = λ k. record { 0 = k } in
    ap (map f) (range_more n) ∙ map-append f (range_with_len 0 n) (n ∷ [])

flat_append : {X Y : Type 0} (f : X → List Y) (xs : List X) (x : X)
    → flat_map f (xs ++ x ∷ []) ≡ flat_map f xs ++ f x
flat_append f [] x = append-nil (f x)
flat_append f (y ∷ ys) x =
    ap (λ zs. f y ++ zs) (flat_append f ys x) ∙ sym (append_assoc (f y) (flat_map f ys) (f x))

-- the sessions from one more device
pub ends_more : (f : DeviceId → List SessionEnds) (n : ℕ) (old new : List SessionEnds)
    → old ≡ flat_map f (ids n) → new ≡ old ++ f (record { 0 = n }) → new ≡ flat_map f (ids (n + 1))
ends_more f n old new so put =
    put
    ∙ ap (λ es. es ++ f (record { 0 = n })) so
    ∙ sym (ap (flat_map f) (ids_more n) ∙ flat_append f (ids n) (record { 0 = n }))

-- ---- the sessions from one device

module _ {X Y Z : Type 0} (number : X → Y) (keep : Y → Bool) (make : Y → Z) where
  one_kept : (y : Y) (b : Bool) → keep y ≡ b
      → map make (filter keep (y ∷ [])) ≡ cond b (make y ∷ []) []
  one_kept y true e = ap (λ t. map make (cond t (y ∷ []) [])) e
  one_kept y false e = ap (λ t. map make (cond t (y ∷ []) [])) e

  -- one more of the items, if it is kept
  pub kept_more : (items : List X) (i : ℕ) (x : X) (b : Bool) (first old new : List Z)
      → i < length items → x ≡ get_or items i x → keep (number x) ≡ b
      → old ≡ first ++ map make (filter keep (map number (take i items)))
      → new ≡ old ++ cond b (make (number x) ∷ []) []
      → new ≡ first ++ map make (filter keep (map number (take (i + 1) items)))
  kept_more items i x b first old new within is keeps so put =
      let before = map number (take i items) in
      let one : List Y = number x ∷ [] in
      let next : map number (take (i + 1) items) ≡ before ++ one =
      map_more number items i x within ∙ ap (λ y. before ++ number y ∷ []) (sym is) in
      put
      ∙ ap (λ zs. zs ++ cond b (make (number x) ∷ []) []) so
      ∙ append_assoc first (map make (filter keep before)) (cond b (make (number x) ∷ []) [])
      ∙ ap (λ zs. first ++ zs)
      (ap (λ zs. map make (filter keep before) ++ zs) (sym (one_kept (number x) b keeps))
      ∙ sym (ap (map make) (filter-append keep before one)
      ∙ map-append make (filter keep before) (filter keep one))
      ∙ sym (ap (λ ys. map make (filter keep ys)) next))

-- ---- where the sessions from each device begin

pub no_starts : (ends : List SessionEnds) → SessionsBegin ends []
no_starts ends = record {
  within = All-nil (λ s. s ≤ length ends);
  before = λ d k s e lt below. absurd (omega arith);
  behind = λ d k s e lt above within. absurd (omega arith);
}

pub starts_more : (ends : List SessionEnds) (starts : List ℕ) (d s : ℕ) → length starts ≡ d
    → SessionsBegin ends starts → s ≤ length ends
    → IsPartitionPoint (λ e. ltb e.from.0 d ≡ true) (λ e. ltb e.from.0 d ≡ false) ends s
    → SessionsBegin ends (starts ++ s ∷ [])
starts_more ends starts d s many so fits parted =
    let more = length_push starts s in
    record {
      within = All-push (λ n. n ≤ length ends) starts s so.within fits;
      before = λ i k n e lt below. elim (cases_lt i (length starts)) [
        | inl low ↦
            so.before i k n e low
            (subst (λ z. k < z) (get_or_append_left starts (s ∷ []) n i low) below)
        | inr high ↦
            let here : length starts ≡ i = omega arith in
            let short : k < s = subst (λ z. k < z) (get_or_push starts s n i here) below in
            let less = ltb-true (get_or ends k e).from.0 d (parted.0 k e (omega arith) short) in
            omega arith
      ];
      behind = λ i k n e lt above within. elim (cases_lt i (length starts)) [
        | inl low ↦
            so.behind i k n e low
            (subst (λ z. z ≤ k) (get_or_append_left starts (s ∷ []) n i low) above) within
        | inr high ↦
            let here : length starts ≡ i = omega arith in
            let long : s ≤ k = subst (λ z. z ≤ k) (get_or_push starts s n i here) above in
            let no_less = ltb-false (get_or ends k e).from.0 d (parted.1 k e long within) in
            omega arith
      ];
    }

-- ---- the places of the sessions into each device

leads_at : (ends : List SessionEnds) (i : ℕ) (e : SessionEnds) (d : DeviceId) → i < length ends
    → leads_to ends d i ≡ same_device (get_or ends i e).to d
leads_at ends i e d within =
    ap (λ o. unwrap_or (option_map (λ (x : SessionEnds). same_device x.to d) o) false)
    (slice_get-get_or ends i e within)

one_led : (p : ℕ → Bool) (i : ℕ) (b : Bool) → p i ≡ b → filter p (i ∷ []) ≡ cond b (i ∷ []) []
one_led p i b e = ap (λ t. cond t (i ∷ []) []) e

led_more : (ends : List SessionEnds) (i : ℕ) (e : SessionEnds) (d : DeviceId) (b : Bool)
    → i < length ends → same_device (get_or ends i e).to d ≡ b
    → filter (leads_to ends d) (range_with_len 0 (i + 1))
    ≡ filter (leads_to ends d) (range_with_len 0 i) ++ cond b (i ∷ []) []
led_more ends i e d b within t =
    let p = leads_to ends d in
    ap (filter p) (range_more i)
    ∙ filter-append p (range_with_len 0 i) (i ∷ [])
    ∙ ap (λ ks. filter p (range_with_len 0 i) ++ ks)
    (one_led p i b (leads_at ends i e d within ∙ t))

-- the place of one more session stands in the list of its receiver, and in no other
pub places_more : (ends : List SessionEnds) (i n : ℕ) (e : SessionEnds) (old : List (List ℕ))
    (list : List ℕ)
    → i < length ends → (get_or ends i e).to.0 < n → length old ≡ n
    → ((d : DeviceId) → d.0 < n
    → get_or old d.0 [] ≡ filter (leads_to ends d) (range_with_len 0 i))
    → list ≡ get_or old (get_or ends i e).to.0 [] ++ i ∷ []
    → (d : DeviceId) → d.0 < n
    → get_or (set old (get_or ends i e).to.0 list) d.0 []
    ≡ filter (leads_to ends d) (range_with_len 0 (i + 1))
places_more ends i n e old list within below many so put d lt =
    let to = (get_or ends i e).to in
    let inside : to.0 < length old = omega arith in
    elim (cases_eq d.0 to.0) [
      | inl same ↦
          let is : d ≡ to = λ j. record { 0 = same j } in
          let yes : same_device to d ≡ true = (same_device-Decides to d).1 (sym is) in
          ap (λ k. get_or (set old to.0 list) k []) same
          ∙ get_or-set_same old to.0 list [] inside
          ∙ put
          ∙ ap (λ k. get_or old k [] ++ i ∷ []) (sym same)
          ∙ ap (λ ks. ks ++ i ∷ []) (so d lt)
          ∙ sym (led_more ends i e d true within yes)
      | inr other ↦
          let no : same_device to d ≡ false =
          false_from_ne_true (same_device to d) (λ t.
          other (ap (λ (z : DeviceId). z.0) (sym ((same_device-Decides to d).0 t)))) in
          get_or-set_other old to.0 d.0 list [] other
          ∙ so d lt
          ∙ sym (led_more ends i e d false within no ∙ append-nil _)
    ]
