-- What comes first of what there is to do, by the counts that the engine keeps.
use Rattle.std.proofs.Common.{◌≡◌, ℕ, suc, ◌<◌, ◌≤◌, Less, Bool, true, false, cond, List, [], ◌∷◌, length, map, get_or, Some, None, refl, sym, ap, ◌∙◌, subst, inl, inr, arith, true≢false}
use Rattle.std.specs.Prelude.{◌&&◌, ◌||◌, is_some, nat_lt, slice_get}
use Rattle.std.specs.FinMap as fin
use Rattle.std.specs.List.{find, position}
use Rattle.std.proofs.lemmas.Bool.{cases_lt}
use Rattle.std.proofs.lemmas.Bool.Decides.{nat_tests}
use Rattle.std.proofs.lemmas.List.{get_or-map, get_or_default, length-map, same_lists}
use Rattle.std.proofs.lemmas.List.FromFn.{get_or-map-range_with_len}
use Rattle.std.proofs.lemmas.List.Quantifiers.{position-Some}
use Rattle.std.proofs.lemmas.Option.{none-some, same_Some}
use Rattle.cn_lists.proofs.Finding.{All-from_find_none, find-first, find-no_position, find-none, find-position}
use Rattle.cn_base.specs.Cidr.{Cidr}
use Rattle.cn_base.specs.declared.ids.DeviceId.{DeviceId}
use Rattle.cn_rib.specs.PrefixSet as set
use Rattle.cn_rib.specs.Tally.{first_slot}
use Rattle.cn_net.specs.Network.{IsDevice, Network, device_ids, same_device}
use Rattle.cn_net.specs.Sessions.{Ascend, by_sender}
use Rattle.cn_net.specs.declared.sessions.SessionEnds.{SessionEnds}
use Rattle.cn_net.proofs.Peers.{length-device_ids}
use Rattle.cn_net.proofs.Keys.{position_or_len-map}
use Rattle.cn_core.specs.declared.owed.Owed.{Owed}
use Rattle.cn_core.specs.Order.{first_pending, is_pending, owes_from}
use Rattle.cn_core.specs.Owed.{owed_by, owes}
use Rattle.cn_core.specs.OwedLists.{IsListed, IsRight, count_of, empty_lists, has_dirty}
use Rattle.cn_core.specs.Start.{ends, ends_of}
use Rattle.cn_core.specs.State.{CoreState, SessionState, empty_rib, empty_session, rib}
use Rattle.cn_core.specs.Whole.{IsWhole}
use Rattle.cn_core.proofs.Access.{itself, some_if}
use Rattle.cn_core.proofs.Counted.{dirty_of}
use Rattle.cn_core.proofs.Listed.{listed-announced, listed-withdrawn}
use Rattle.cn_core.proofs.Messages.{len-owed}
use Rattle.cn_core.proofs.Places.{ends_ascend}

-- ---- a search, and where it ends

-- x is the first item that passes, and stands at place i
pub record IsFoundAt {A : Type 0} (t : A → Bool) (xs : List A) (x : A) (i : ℕ) : Type 0 where
  pub inside : i < length xs
  pub here : get_or xs i x ≡ x
  pub passes : t x ≡ true
  pub before : (k : ℕ) → k < i → t (get_or xs k x) ≡ false

pub found_place : {A : Type 0} (t : A → Bool) (xs : List A) (x : A) → find t xs ≡ Some x
    → (i : ℕ) × IsFoundAt t xs x i
found_place {A = A} t xs x e =
    elim (position t xs) as (λ o. position t xs ≡ o → (i : ℕ) × IsFoundAt t xs x i) [
      | None ↦ λ p. absurd (none-some x (sym (find-no_position t xs p) ∙ e))
      | Some i ↦ λ p.
          let h = position-Some t xs i x p in
          let is = same_Some (get_or xs i x) x (sym (find-position t xs i x p) ∙ e) in
          (i, record { inside = h.0; here = is; passes = ap t (sym is) ∙ h.1; before = h.2 })
    ] refl

-- ---- the first slot of counts

module _ {A : Type 0} (f : A → ℕ) (xs : List A) (counts : List ℕ) (are : counts ≡ map f xs) where
  abbrev has_some : A → Bool
  has_some x = nat_lt 0 (f x)

  slot_is : first_slot counts ≡ position has_some xs
  slot_is =
      ap first_slot are
      ∙ (λ i. cond (nat_lt (position_or_len-map (λ n. nat_lt 0 n) f xs i) (length-map xs f i))
      (Some (position_or_len-map (λ n. nat_lt 0 n) f xs i)) None)

  -- it is the place of an item
  pub slot_within : (i : ℕ) (x : A) → first_slot counts ≡ Some i → i < length xs
  slot_within i x e = (position-Some has_some xs i x (sym slot_is ∙ e)).0

  -- and that item is the first whose count isn't 0
  pub slot_found : (i : ℕ) (x : A) → first_slot counts ≡ Some i
      → find has_some xs ≡ Some (get_or xs i x)
  slot_found i x e = find-position has_some xs i x (sym slot_is ∙ e)

  -- where there is none, each count is 0
  pub slot_none : first_slot counts ≡ None → find has_some xs ≡ None
  slot_none e = find-no_position has_some xs (sym slot_is ∙ e)

-- ---- a search among the devices

module _ (net : Network) where
  id_at : (k : ℕ) (d : DeviceId) → k < length net.devices
      → get_or (device_ids net) k d ≡ record { 0 = k }
  unfolding device_ids
  id_at k d lt =
      get_or-map-range_with_len (λ n. record { 0 = n }) 0 (length net.devices) k k d lt
      (omega arith)

  module _ (t : DeviceId → Bool) where
    -- a device that passes is found where none with a lesser number does
    pub found_id : (d : DeviceId) → IsDevice net d
        → ((e : DeviceId) → e.0 < d.0 → t e ≡ false) → t d ≡ true
        → find t (device_ids net) ≡ Some d
    found_id d is before here =
        find-first t (device_ids net) d.0 d (omega (arith, is, length-device_ids net))
        (λ k lt. ap t (id_at k d (omega (arith, lt, is))) ∙ before (record { 0 = k }) lt)
        (ap t (id_at d.0 d is) ∙ here)
        ∙ ap Some (id_at d.0 d is)

    -- what is found is a device that passes, and none with a lesser number does
    pub id_found : (d : DeviceId) → find t (device_ids net) ≡ Some d
        → IsDevice net d × (t d ≡ true) × ((e : DeviceId) → e.0 < d.0 → t e ≡ false)
    id_found d e =
        let at = found_place t (device_ids net) d e in
        let i = at.0 in
        let h = at.1 in
        let within : i < length net.devices = omega (arith, h.inside, length-device_ids net) in
        let number : d.0 ≡ i =
        ap (λ (z : DeviceId). z.0) (sym h.here ∙ id_at i d within) in (
          omega (arith, within, number),
          h.passes,
          λ z lt.
              let lt' : z.0 < i = omega (arith, lt, number) in
              ap t (sym (id_at z.0 d (omega (arith, lt', within)))) ∙ h.before z.0 lt',
        )

    -- no device passes where none is found
    pub id_none : find t (device_ids net) ≡ None → (d : DeviceId) → IsDevice net d → t d ≡ false
    id_none e d is =
        ap t (sym (id_at d.0 d is))
        ∙ All-from_find_none t (device_ids net) e d.0 d (omega (arith, is, length-device_ids net))

-- ---- a search among the sessions

and_false : (b : Bool) → (b && false) ≡ false
and_false true = refl
and_false false = refl

sender_least : (e f : SessionEnds) → by_sender e f ≡ Less → e.from.0 ≤ f.from.0
sender_least e f less = grind (arith, nat_tests)

apart_from : (a b : DeviceId) → b.0 < a.0 → same_device a b ≡ false
apart_from a b lt = grind (arith, nat_tests)

module _ (t : SessionState → Bool) (xs : List SessionState) (up : Ascend (ends_of xs)) where
  -- one from d that passes
  abbrev from_it : DeviceId → SessionState → Bool
  from_it d x = same_device x.from d && t x

  not_it : (d : DeviceId) (x : SessionState) → t x ≡ false → from_it d x ≡ false
  not_it d x e = ap (λ b. same_device x.from d && b) e ∙ and_false (same_device x.from d)

  -- the first that passes is the first from its own device
  pub found_from : (x : SessionState) → find t xs ≡ Some x → find (from_it x.from) xs ≡ Some x
  found_from x e =
      let at = found_place t xs x e in
      let h = at.1 in
      find-first (from_it x.from) xs at.0 x h.inside
      (λ k lt. not_it x.from (get_or xs k x) (h.before k lt))
      (ap (from_it x.from) h.here ∙ (λ i. itself x.from i && h.passes i))
      ∙ ap Some h.here

  -- none that passes comes from a device with a lesser number
  pub none_from_below : (x : SessionState) (d : DeviceId) → find t xs ≡ Some x → d.0 < x.from.0
      → find (from_it d) xs ≡ None
  none_from_below x d e lt =
      let at = found_place t xs x e in
      let i = at.0 in
      let h = at.1 in
      find-none (from_it d) xs (λ k z within. elim (cases_lt k i) [
        | inl before ↦
            not_it d (get_or xs k z)
            (ap t (get_or_default xs k z x within) ∙ h.before k before)
        | inr behind ↦
            ap (λ b. b && t (get_or xs k z))
            (apart_from (get_or xs k z).from d
            (later i k x z h behind within lt))
      ])
    where
      later : (i k : ℕ) (x z : SessionState) → IsFoundAt t xs x i → i ≤ k → k < length xs
          → d.0 < x.from.0 → d.0 < (get_or xs k z).from.0
      later i k x z h behind within lt =
          let number : SessionState → ℕ = λ y. y.from.0 in
          let here : number (get_or xs i x) ≡ number x = ap number h.here in
          let there : number (get_or xs k z) ≡ number (get_or xs k x) =
          ap number (get_or_default xs k z x within) in
          elim (cases_lt i k) [
            | inl before ↦
                omega (
                  arith,
                  lt,
                  here,
                  there,
                  sender_least (ends (get_or xs i x)) (ends (get_or xs k x))
                      (ends_ascend x.from x.to xs up i k x before within),
                )
            | inr not ↦
                let same : k ≡ i = omega (arith, not, behind) in
                omega (arith, lt, here, there, ap (λ j. number (get_or xs j x)) same)
          ]

  -- where none passes, none from a device does
  pub none_from : find t xs ≡ None → (d : DeviceId) → find (from_it d) xs ≡ None
  none_from e d =
      find-none (from_it d) xs
      (λ k z lt. not_it d (get_or xs k z) (All-from_find_none t xs e k z lt))

-- ---- what the counts count

-- a set has a least prefix exactly where it isn't empty
has_least : (x : set.PrefixSet) → is_some (set.least x) ≡ nat_lt 0 (fin.len x)
has_least x =
    some (fin.keys x)
    ∙ ap (nat_lt 0) (length-map (fin.entries x) (λ e. e.0) ∙ sym (fin.len-entries x))
  where
    some : (ks : List Cidr) → is_some (slice_get ks 0) ≡ nat_lt 0 (length ks)
    some [] = refl
    some (k ∷ ks) = sym more
      where
        more : nat_lt 0 (suc (length ks)) ≡ true
        more = grind (arith, nat_tests)

-- how many prefixes a session owes
abbrev pub debt_of : CoreState → SessionState → ℕ
debt_of s x = fin.len (owed_by s x)

-- how many prefixes of a device are dirty
abbrev pub dirt_of : CoreState → DeviceId → ℕ
dirt_of s d = fin.len (rib s d).dirty

nobody : DeviceId
nobody = record { 0 = 0 }

module _ (s : CoreState) (index : List SessionEnds) (os : List Owed) (mail owed dirty : List ℕ)
    (is : IsRight s index os mail owed dirty) where
  abbrev debt : SessionState → ℕ
  debt = debt_of s

  abbrev dirt : DeviceId → ℕ
  dirt = dirt_of s

  -- each session's count is what it owes
  pub debts : owed ≡ map debt s.sessions
  debts =
      is.counted.owed
      ∙ same_lists (map count_of os) (map debt s.sessions)
      (length-map os count_of ∙ is.listed.many ∙ sym (length-map s.sessions debt))
      (λ k d lt.
      let x : SessionState = empty_session nobody nobody in
      let many = length-map os count_of in
      let within : k < length os = omega (arith, lt, many) in
      let inside : k < length s.sessions = omega (arith, within, is.listed.many) in
      let y = get_or os k empty_lists in
      let m = owed_by s (get_or s.sessions k x) in
      let l : IsListed m y = is.listed.each k x empty_lists inside in
      get_or-map count_of os k empty_lists d within
      ∙ sym (len-owed m y.withdrawals y.announcements (listed-withdrawn m y l)
      (listed-announced m y l))
      ∙ sym (get_or-map debt s.sessions k x d inside))

  -- each device's count is that of its dirty prefixes
  pub dirts : dirty ≡ map dirt (device_ids s.now.net)
  unfolding rib
  dirts =
      let ids = device_ids s.now.net in
      let all = length-device_ids s.now.net in
      is.counted.dirty
      ∙ same_lists (map dirty_of s.ribs) (map dirt ids)
      (length-map s.ribs dirty_of ∙ is.whole.ribs ∙ sym all ∙ sym (length-map ids dirt))
      (λ k d lt.
      let many = length-map s.ribs dirty_of in
      let within : k < length s.ribs = omega (arith, lt, many) in
      let device : k < length s.now.net.devices = omega (arith, within, is.whole.ribs) in
      get_or-map dirty_of s.ribs k empty_rib d within
      ∙ sym (get_or-map dirt ids k nobody d (omega (arith, device, all))
      ∙ ap dirt (id_at s.now.net k nobody device)))

  -- the first slot with something is the number of the first dirty device
  pub dirt_found : (i : ℕ) → first_slot dirty ≡ Some i
      → Some (record { 0 = i }) ≡ find (has_dirty s) (device_ids s.now.net)
  dirt_found i e =
      let ids = device_ids s.now.net in
      let all = length-device_ids s.now.net in
      let inside = slot_within dirt ids dirty dirts i nobody e in
      sym (slot_found dirt ids dirty dirts i nobody e
      ∙ ap Some (id_at s.now.net i nobody (omega (arith, inside, all))))

-- ---- the first pending device

module _ (s : CoreState) (whole : IsWhole s) where
  pending_dirty : (d : DeviceId) → has_dirty s d ≡ true → is_pending s d ≡ true
  pending_dirty d e =
      ap (λ b. b || is_some (find (owes_from s d) s.sessions)) (has_least (rib s d).dirty ∙ e)

  pending_owing : (d : DeviceId) (x : SessionState) → find (owes_from s d) s.sessions ≡ Some x
      → is_pending s d ≡ true
  pending_owing d x e =
      ap (λ o. is_some (set.least (rib s d).dirty) || is_some o) e
      ∙ or_true (is_some (set.least (rib s d).dirty))
    where
      or_true : (b : Bool) → (b || true) ≡ true
      or_true true = refl
      or_true false = refl

  not_pending : (d : DeviceId) → has_dirty s d ≡ false
      → find (owes_from s d) s.sessions ≡ None → is_pending s d ≡ false
  not_pending d clean none =
      (λ i. (has_least (rib s d).dirty ∙ clean) i || is_some (none i))

  sender_within : (x : SessionState) → find (owes s) s.sessions ≡ Some x
      → IsDevice s.now.net x.from
  sender_within x e =
      let at = found_place (owes s) s.sessions x e in
      subst (λ (z : SessionState). IsDevice s.now.net z.from) at.1.here
      (whole.within at.0 x at.1.inside).0

  -- the sender of the first session that owes, where no device before it is dirty
  owing_first : (x : SessionState) → find (owes s) s.sessions ≡ Some x
      → ((e : DeviceId) → e.0 < x.from.0 → has_dirty s e ≡ false)
      → first_pending s ≡ Some x.from
  owing_first x e clean =
      found_id s.now.net (is_pending s) x.from (sender_within x e)
      (λ d lt. not_pending d (clean d lt)
      (none_from_below (owes s) s.sessions whole.ascending x d e lt))
      (pending_owing x.from x (found_from (owes s) s.sessions whole.ascending x e))

  -- the sender of the first session that owes, where it is before the first dirty device
  pub pending-sender_before : (d : DeviceId) (x : SessionState)
      → find (has_dirty s) (device_ids s.now.net) ≡ Some d → find (owes s) s.sessions ≡ Some x
      → x.from.0 < d.0 → first_pending s ≡ Some x.from
  pending-sender_before d x first e lt =
      let h = id_found s.now.net (has_dirty s) d first in
      owing_first x e (λ z below. h.2 z (omega (arith, below, lt)))

  -- or where no device is dirty
  pub pending-sender : (x : SessionState) → find (has_dirty s) (device_ids s.now.net) ≡ None
      → find (owes s) s.sessions ≡ Some x → first_pending s ≡ Some x.from
  pending-sender x none e =
      let within = sender_within x e in
      owing_first x e
      (λ z below. id_none s.now.net (has_dirty s) none z (omega (arith, below, within)))

  dirty_first : (d : DeviceId) → find (has_dirty s) (device_ids s.now.net) ≡ Some d
      → ((e : DeviceId) → e.0 < d.0 → find (owes_from s e) s.sessions ≡ None)
      → first_pending s ≡ Some d
  dirty_first d first none =
      let h = id_found s.now.net (has_dirty s) d first in
      found_id s.now.net (is_pending s) d h.0
      (λ z lt. not_pending z (h.2 z lt) (none z lt)) (pending_dirty d h.1)

  -- the first dirty device, where the sender isn't before it
  pub pending-dirty_before : (d : DeviceId) (x : SessionState)
      → find (has_dirty s) (device_ids s.now.net) ≡ Some d → find (owes s) s.sessions ≡ Some x
      → d.0 ≤ x.from.0 → first_pending s ≡ Some d
  pending-dirty_before d x first e le =
      dirty_first d first
      (λ z lt. none_from_below (owes s) s.sessions whole.ascending x z e (omega (arith, lt, le)))

  -- or where no session owes
  pub pending-dirty : (d : DeviceId) → find (has_dirty s) (device_ids s.now.net) ≡ Some d
      → find (owes s) s.sessions ≡ None → first_pending s ≡ Some d
  pending-dirty d first none =
      dirty_first d first (λ z lt. none_from (owes s) s.sessions whole.ascending none z)

  -- no device is pending where none is dirty and no session owes
  pub pending-none : find (has_dirty s) (device_ids s.now.net) ≡ None
      → find (owes s) s.sessions ≡ None → first_pending s ≡ None
  pending-none clean none =
      find-none (is_pending s) (device_ids s.now.net) (λ k z lt.
      let all = length-device_ids s.now.net in
      let within : k < length s.now.net.devices = omega (arith, lt, all) in
      ap (is_pending s) (id_at s.now.net k z within)
      ∙ not_pending (record { 0 = k })
      (id_none s.now.net (has_dirty s) clean (record { 0 = k }) within)
      (none_from (owes s) s.sessions whole.ascending none (record { 0 = k })))

  -- where the first pending device has nothing dirty, the first session that owes comes from it
  pub pending-sends : (d : DeviceId) → first_pending s ≡ Some d → set.least (rib s d).dirty ≡ None
      → find (owes_from s d) s.sessions ≡ find (owes s) s.sessions
  pending-sends d first clean =
      let h = id_found s.now.net (is_pending s) d first in
      let some =
      some_if (find (owes_from s d) s.sessions)
      (sym (ap (λ o. is_some o || is_some (find (owes_from s d) s.sessions)) clean) ∙ h.1) in
      elim (find (owes s) s.sessions) as (λ o. find (owes s) s.sessions ≡ o
      → find (owes_from s d) s.sessions ≡ o) [
        | None ↦ λ e. none_from (owes s) s.sessions whole.ascending e d
        | Some x ↦ λ e.
            let own = found_from (owes s) s.sessions whole.ascending x e in
            elim (cases_lt d.0 x.from.0) [
              | inl above ↦
                  absurd (none-some some.0
                  (sym (none_from_below (owes s) s.sessions whole.ascending x d e above)
                  ∙ some.1))
              | inr le ↦ elim (cases_lt x.from.0 d.0) [
                | inl below ↦
                    absurd (true≢false (sym (pending_owing x.from x own) ∙ h.2 x.from below))
                | inr ge ↦
                    let number : x.from.0 ≡ d.0 = omega (arith, le, ge) in
                    let same : x.from ≡ d = λ i. record { 0 = number i } in
                    subst (λ z. find (owes_from s z) s.sessions ≡ Some x) same own
              ]
            ]
      ] refl

-- it is a device
pub pending_within : (s : CoreState) (d : DeviceId) → Some d ≡ first_pending s
    → IsDevice s.now.net d
pending_within s d first = (id_found s.now.net (is_pending s) d (sym first)).0
