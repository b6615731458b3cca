-- What the look-ups of an index of sessions find.
use Rattle.std.proofs.Common.{◌≡◌, ◌≢◌, ℕ, zero, suc, zero-add, ◌+◌, ◌-◌, ◌<◌, ◌≤◌, ◌↔◌, Bool, true, false, cond, List, [], ◌∷◌, length, get_or, Option, Some, Less, Equal, Greater, inl, inr, refl, sym, ap, subst, ◌∙◌, arith, option_map, unwrap_or, slice_get, slice_range}
use Rattle.std.specs.List.{All, AllPairs, Contains, filter, range_with_len}
use Rattle.std.specs.List.Sorted.{IsNonDecreasingBy, IsPartitionPoint}
use Rattle.std.specs.Ordering.{is_lt, nat_cmp, ordering_index}
use Rattle.std.proofs.lemmas.Bool.{cases_lt, false_from_ne_true, false≢true}
use Rattle.std.proofs.lemmas.Bool.Decides.{nat_tests}
use Rattle.std.proofs.lemmas.Cmp.{nat_cmp_total}
use Rattle.std.proofs.lemmas.List.{get_or_default}
use Rattle.std.proofs.lemmas.List.Elements.{All-contains, Contains-append_right, filter_passes}
use Rattle.std.proofs.lemmas.List.FromFn.{get_or-range_with_len, length-range_with_len}
use Rattle.std.proofs.lemmas.List.Kept.{AllPairs-filter}
use Rattle.std.proofs.lemmas.List.Edits.{get_or-between, length-between}
use Rattle.std.proofs.lemmas.List.Sorted.{searchable_from_sorted}
use Rattle.std.proofs.lemmas.Option.{none-some, same_Some, slice_get-get_or, slice_get_cases}
use Rattle.cn_base.specs.declared.ids.DeviceId.{DeviceId}
use Rattle.cn_net.specs.Network.{same_device}
use Rattle.cn_net.specs.Sessions.{SessionsBegin, Ascend, by_sender, comes_from, leads_to, places_into}
use Rattle.cn_net.specs.declared.sessions.SessionEnds.{SessionEnds}
use Rattle.cn_net.proofs.Keys.{same_device-Decides}

-- ---- what the tests of a place say

-- one of the ends of the session at a place
module _ (of : SessionEnds → DeviceId) (ends : List SessionEnds) (d : DeviceId) (k : ℕ)
    (e : SessionEnds) where
  abbrev test : Option SessionEnds → Bool
  test o = unwrap_or (option_map (λ x. same_device (of x) d) o) false

  -- where the test passes, there is such a session, and that is its end
  pub end_is : test (slice_get ends k) ≡ true → (k < length ends) × (of (get_or ends k e) ≡ d)
  end_is t = elim (slice_get_cases ends k).1 [
    | inl (x, lt, is, at) ↦ (
      lt,
      ap of (get_or_default ends k e x lt ∙ at)
          ∙ (same_device-Decides (of x) d).0 (sym (ap test is) ∙ t),
    )
    | inr (le, is) ↦ absurd (false≢true (sym (ap test is) ∙ t))
  ]

  -- and the other way
  pub end_holds : k < length ends → of (get_or ends k e) ≡ d → test (slice_get ends k) ≡ true
  end_holds lt is =
      ap test (slice_get-get_or ends k e lt) ∙ (same_device-Decides (of (get_or ends k e)) d).1 is

-- ---- the sessions from a device

none : SessionEnds
none = record { from = record { 0 = 0 }; to = record { 0 = 0 } }

-- between where its sessions begin and where those of the next device do stand exactly its own
pub record AreFrom (ends : List SessionEnds) (d : DeviceId) (s e : ℕ) : Type 0 where
  pub ordered : s ≤ e
  pub within : e ≤ length ends
  pub these : (k : ℕ) → ((s ≤ k) × (k < e)) ↔ (comes_from ends d k ≡ true)

between_starts : (ends : List SessionEnds) (starts : List ℕ) (d : DeviceId)
    → SessionsBegin ends starts → d.0 + 1 < length starts
    → AreFrom ends d (get_or starts d.0 0) (get_or starts (d.0 + 1) 0)
between_starts ends starts d so inside =
    let s = get_or starts d.0 0 in
    let e = get_or starts (d.0 + 1) 0 in
    let s_in : s ≤ length ends = so.within d.0 0 (omega arith) in
    let e_in : e ≤ length ends = so.within (d.0 + 1) 0 inside in
    record {
      ordered = elim (cases_lt e s) [
        | inl lt ↦
            let low = so.before d.0 e 0 none (omega arith) lt in
            let high = so.behind (d.0 + 1) e 0 none inside (omega arith) (omega arith) in
            absurd (omega arith)
        | inr le ↦ le
      ];
      within = e_in;
      these = λ k. (
        λ (ge, lt).
            let high = so.behind d.0 k 0 none (omega arith) ge (omega arith) in
            let low = so.before (d.0 + 1) k 0 none inside lt in
            let same : (get_or ends k none).from.0 ≡ d.0 = omega arith in
            end_holds (λ (x : SessionEnds). x.from) ends d k none (omega arith)
            (λ i. record { 0 = same i }),
        λ t.
            let is = end_is (λ (x : SessionEnds). x.from) ends d k none t in
            let lt = is.0 in
            let same : (get_or ends k none).from.0 ≡ d.0 = ap (λ (z : DeviceId). z.0) is.1 in (
              elim (cases_lt k s) [
                | inl below ↦
                    let low = so.before d.0 k 0 none (omega arith) below in absurd (omega arith)
                | inr le ↦ le
              ],
              elim (cases_lt k e) [
                | inl below ↦ below
                | inr le ↦
                    let high = so.behind (d.0 + 1) k 0 none inside le lt in absurd (omega arith)
              ],
            ),
      );
    }

-- the same of two places that were looked up
pub range_at : (ends : List SessionEnds) (starts : List ℕ) (d : DeviceId) (s e : ℕ)
    → SessionsBegin ends starts → d.0 + 1 < length starts → s ≡ get_or starts d.0 s
    → e ≡ get_or starts (d.0 + 1) e → AreFrom ends d s e
range_at ends starts d s e so inside start end =
    let a = start ∙ get_or_default starts d.0 s 0 (omega arith) in
    let b = end ∙ get_or_default starts (d.0 + 1) e 0 inside in
    subst (AreFrom ends d s) (sym b)
    (subst (λ n. AreFrom ends d n (get_or starts (d.0 + 1) 0)) (sym a)
    (between_starts ends starts d so inside))

-- a device that has no place where its sessions begin has none
pub no_device : (ends : List SessionEnds) (starts : List ℕ) (d : DeviceId)
    → All (λ e. e.from.0 + 1 < length starts) ends → length starts ≤ d.0 + 1 → AreFrom ends d 0 0
no_device ends starts d senders past = record {
  ordered = omega arith;
  within = omega arith;
  these = λ k. (
    λ (ge, lt). absurd (omega arith),
    λ t.
        let is = end_is (λ (x : SessionEnds). x.from) ends d k none t in
        let lt = is.0 in
        let below = senders k none lt in
        let same : (get_or ends k none).from.0 ≡ d.0 = ap (λ (z : DeviceId). z.0) is.1 in
        absurd (omega arith),
  );
}

-- ---- the sessions into a device

none_kept : (p : ℕ → Bool) → ((k : ℕ) → p k ≡ true → ⊥) → (xs : List ℕ) → filter p xs ≡ []
none_kept p never [] = refl
none_kept p never (x ∷ xs) =
    ap (λ b. cond b (x ∷ filter p xs) (filter p xs)) (false_from_ne_true (p x) (never x))
    ∙ none_kept p never xs

-- no session leads to a device that has no list
pub no_places : (ends : List SessionEnds) (n : ℕ) (d : DeviceId) → All (λ e. e.to.0 < n) ends
    → n ≤ d.0 → [] ≡ places_into ends d
no_places ends n d receivers past =
    sym (none_kept (leads_to ends d) (λ k t.
    let is = end_is (λ (x : SessionEnds). x.to) ends d k none t in
    let lt = is.0 in
    let below = receivers k none lt in
    let same : (get_or ends k none).to.0 ≡ d.0 = ap (λ (z : DeviceId). z.0) is.1 in
    omega arith) (range_with_len 0 (length ends)))

-- ---- the session between two devices

receivers_rise : (x y : SessionEnds) → by_sender x y ≡ Less → x.from ≡ y.from → x.to.0 < y.to.0
receivers_rise x y h same = let e = ap (λ (z : DeviceId). z.0) same in grind (arith, nat_tests)

not_fallen : (m n : ℕ) → m < n → is_lt (nat_cmp n m) ≡ false
not_fallen m n lt = grind (arith, nat_tests)

equal_from_tie : (m n : ℕ) → nat_cmp m n ≡ Equal → m ≡ n
equal_from_tie m n e = grind (arith, nat_tests)

not_less : (n : ℕ) → nat_cmp n n ≡ Less → ⊥
not_less n e = grind (arith, nat_tests)

not_greater : (n : ℕ) → nat_cmp n n ≡ Greater → ⊥
not_greater n e = grind (arith, nat_tests)

module _ (ends : List SessionEnds) (from to : DeviceId) (s e : ℕ) (up : Ascend ends)
    (so : AreFrom ends from s e) where
  -- an element of the part from s to e
  part_at : (k : ℕ) (x : SessionEnds) → s + k < e
      → (get_or (slice_range ends s e) k x ≡ get_or ends (s + k) x)
      × ((get_or ends (s + k) x).from ≡ from)
  part_at k x lt =
      let within = so.within in (
        get_or-between ends s e k x lt,
        (end_is (λ (x : SessionEnds). x.from) ends from (s + k) x
            ((so.these (s + k)).0 (omega arith, lt))).1,
      )

  part_length : length (slice_range ends s e) ≡ e - s
  part_length = length-between ends s e so.within

  pub receivers_searchable : IsNonDecreasingBy (λ y. ordering_index (nat_cmp y.to.0 to.0))
      (slice_range ends s e)
  receivers_searchable =
      searchable_from_sorted nat_cmp_total (λ (y : SessionEnds). y.to.0) (slice_range ends s e) to.0
      (λ k x low within.
      let many = part_length in
      let here = part_at k x (omega arith) in
      let next = part_at (k + 1) x (omega arith) in
      let end = so.within in
      let less =
      receivers_rise (get_or ends (s + k) x) (get_or ends (s + (k + 1)) x)
      (up (s + k) (s + (k + 1)) x (omega arith) (omega arith)) (here.1 ∙ sym next.1) in
      (λ i. is_lt (nat_cmp (next.0 i).to.0 (here.0 i).to.0))
      ∙ not_fallen (get_or ends (s + k) x).to.0 (get_or ends (s + (k + 1)) x).to.0 less)

  pub place_holds : (i : ℕ) → i < length (slice_range ends s e)
      → ((x : SessionEnds) → nat_cmp (get_or (slice_range ends s e) i x).to.0 to.0 ≡ Equal)
      → slice_get ends (s + i) ≡ Some (record { from = from; to = to })
  place_holds i within tie =
      let many = part_length in
      let end = so.within in
      let at = part_at i none (omega arith) in
      let same : (get_or ends (s + i) none).to.0 ≡ to.0 =
      sym (ap (λ (z : SessionEnds). z.to.0) at.0) ∙ equal_from_tie _ _ (tie none) in
      slice_get-get_or ends (s + i) none (omega arith)
      ∙ (λ j. Some (record { from = at.1 j; to = record { 0 = same j } }))

  pub no_place : (i : ℕ)
      → IsPartitionPoint (λ y. nat_cmp y.to.0 to.0 ≡ Less) (λ y. nat_cmp y.to.0 to.0 ≡ Greater)
      (slice_range ends s e) i
      → (k : ℕ) → slice_get ends k ≢ Some (record { from = from; to = to })
  no_place i parts k is =
      let it : SessionEnds = record { from = from; to = to } in
      elim (slice_get_cases ends k).1 [
        | inl (x, lt, here, at) ↦
            let same : get_or ends k x ≡ it = at ∙ same_Some x it (sym here ∙ is) in
            let range =
            (so.these k).1 (end_holds (λ (x : SessionEnds). x.from) ends from k x lt
            (ap (λ (z : SessionEnds). z.from) same)) in
            let low = range.0 in
            let high = range.1 in
            let many = part_length in
            let place : s + (k - s) ≡ k = omega arith in
            let receiver : (get_or (slice_range ends s e) (k - s) x).to.0 ≡ to.0 =
            ap (λ (z : SessionEnds). z.to.0)
            ((part_at (k - s) x (omega arith)).0 ∙ ap (λ n. get_or ends n x) place ∙ same) in
            elim (cases_lt (k - s) i) [
              | inl before ↦
                  not_less to.0
                  (ap (λ n. nat_cmp n to.0) (sym receiver)
                  ∙ parts.0 (k - s) x (omega arith) before)
              | inr behind ↦
                  not_greater to.0
                  (ap (λ n. nat_cmp n to.0) (sym receiver)
                  ∙ parts.1 (k - s) x behind (omega arith))
            ]
        | inr (le, here) ↦ none-some it (sym here ∙ is)
      ]

-- ---- the places of the sessions into a device, one by one

filter_contains : {X : Type 0} (p : X → Bool) (xs : List X) (x : X) → Contains xs x → p x ≡ true
    → Contains (filter p xs) x
filter_contains p [] x (k, lt, is) t = absurd (omega (arith, lt))
filter_contains p (y ∷ ys) x (zero, lt, is) t =
    subst (λ b. Contains (cond b (y ∷ filter p ys) (filter p ys)) x) (sym (ap p is ∙ t))
    (0, omega arith, is)
filter_contains p (y ∷ ys) x (suc k, lt, is) t =
    let rest = filter_contains p ys x (k, omega (arith, lt), is) t in
    elim (p y) as (λ b. Contains (cond b (y ∷ filter p ys) (filter p ys)) x) [
      | true ↦ Contains-append_right (y ∷ []) (filter p ys) x rest
      | false ↦ rest
    ]

range_ascends : (n : ℕ) → AllPairs (λ x y. x < y) (range_with_len 0 n)
range_ascends n i j d lt within =
    let many = length-range_with_len 0 n in
    let at = get_or-range_with_len 0 n i d (omega arith) in
    let at' = get_or-range_with_len 0 n j d (omega arith) in
    omega arith

-- the places into a device ascend
pub places_ascend : (ends : List SessionEnds) (d : DeviceId)
    → AllPairs (λ x y. x < y) (places_into ends d)
places_ascend ends d =
    AllPairs-filter (λ x y. x < y) (leads_to ends d) (range_with_len 0 (length ends))
    (range_ascends (length ends))

-- each is the place of a session that leads to the device
pub place_leads : (ends : List SessionEnds) (d : DeviceId) (k : ℕ) (e : SessionEnds)
    → Contains (places_into ends d) k → (k < length ends) × ((get_or ends k e).to ≡ d)
place_leads ends d k e h =
    end_is (λ (x : SessionEnds). x.to) ends d k e
    (All-contains (λ n. leads_to ends d n ≡ true) (places_into ends d) k
    (filter_passes (leads_to ends d) (range_with_len 0 (length ends))) h)

-- and the place of each such session is there
pub leads_placed : (ends : List SessionEnds) (d : DeviceId) (k : ℕ) (e : SessionEnds)
    → k < length ends → (get_or ends k e).to ≡ d → Contains (places_into ends d) k
leads_placed ends d k e lt is =
    let many = length-range_with_len 0 (length ends) in
    let at : get_or (range_with_len 0 (length ends)) k k ≡ k =
    get_or-range_with_len 0 (length ends) k k lt ∙ zero-add k in
    filter_contains (leads_to ends d) (range_with_len 0 (length ends)) k (k, omega arith, at)
    (end_holds (λ (x : SessionEnds). x.to) ends d k e lt is)
