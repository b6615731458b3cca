-- Other crates may cite this: the sessions ascend by (from, to), their ends are devices, the
-- receivers emulated, and there are few.
use Rattle.std.proofs.Common.{◌≡◌, ℕ, suc, ◌+◌, ◌*◌, ◌^◌, ◌<◌, ◌≤◌, Bool, true, List, [], ◌∷◌, ◌++◌, get_or, length, map, Less, inl, inr, ap, sym, subst, arith, length-append}
use Rattle.std.specs.List.{All, AllPairs, filter, flat_map}
use Rattle.std.specs.List.Sorted.{IsNonDecreasingBy}
use Rattle.std.proofs.lemmas.Bool.{cases_lt}
use Rattle.std.proofs.lemmas.Bool.Decides.{nat_tests}
use Rattle.std.proofs.lemmas.List.{length-map}
use Rattle.std.proofs.lemmas.List.Elements.{All-append, All-filter, All-head, All-map, All-nil, All-tail, filter_passes}
use Rattle.std.proofs.lemmas.List.Kept.{AllPairs-cons, AllPairs-filter}
use Rattle.std.proofs.lemmas.List.Sums.{count_by-le-length, length-filter}
use Rattle.cn_base.specs.declared.ids.DeviceId.{DeviceId}
use Rattle.cn_net.specs.Islands.{holds_device}
use Rattle.cn_net.specs.Network.{Network, IsDevice, device_ids, is_linked, peers_of}
use Rattle.cn_net.specs.Sessions.{ArePlaces, SessionsBegin, Ascend, IsIndexed, by_sender, receivers_of, session_ends, sessions_from}
use Rattle.cn_net.specs.declared.sessions.SessionEnds.{SessionEnds}
use Rattle.cn_net.proofs.Peers.{devices_ascend, length-device_ids, only_devices, peers_ascend}

abbrev IsBelow : SessionEnds → SessionEnds → Type 0
IsBelow x y = by_sender x y ≡ Less

abbrev IsLess : DeviceId → DeviceId → Type 0
IsLess a b = a.0 < b.0

-- ---- lists whose elements ascend

pairs_head : {X : Type 0} (R : X → X → Type 0) (x : X) (xs : List X) → AllPairs R (x ∷ xs)
    → All (R x) xs
pairs_head R x xs h = λ k d lt. h 0 (suc k) d (omega arith) (omega (arith, lt))

pairs_tail : {X : Type 0} (R : X → X → Type 0) (x : X) (xs : List X) → AllPairs R (x ∷ xs)
    → AllPairs R xs
pairs_tail R x xs h = λ i j d lt w. h (suc i) (suc j) d (omega (arith, lt)) (omega (arith, w))

pairs_none : {X : Type 0} (R : X → X → Type 0) → AllPairs R []
pairs_none R = λ i j d lt w. absurd (omega (arith, w))

pairs_append : {X : Type 0} (R : X → X → Type 0) (xs ys : List X) → AllPairs R xs → AllPairs R ys
    → All (λ x. All (R x) ys) xs → AllPairs R (xs ++ ys)
pairs_append R [] ys hx hy cross = hy
pairs_append R (x ∷ xs) ys hx hy cross =
    AllPairs-cons R x (xs ++ ys)
    (All-append (R x) xs ys (pairs_head R x xs hx) (All-head (λ z. All (R z) ys) x xs cross))
    (pairs_append R xs ys (pairs_tail R x xs hx) hy (All-tail (λ z. All (R z) ys) x xs cross))

pairs_map : {X Y : Type 0} (S : X → X → Type 0) (R : Y → Y → Type 0) (f : X → Y)
    → ((x y : X) → S x y → R (f x) (f y)) → (xs : List X) → AllPairs S xs → AllPairs R (map f xs)
pairs_map S R f keep [] h = pairs_none R
pairs_map S R f keep (x ∷ xs) h =
    AllPairs-cons R (f x) (map f xs)
    (All-map (R (f x)) f xs (λ k d lt. keep x (get_or xs k d) (pairs_head S x xs h k d lt)))
    (pairs_map S R f keep xs (pairs_tail S x xs h))

-- ---- the order of sessions

same_sender : (x y : SessionEnds) → x.from ≡ y.from → x.to.0 < y.to.0 → by_sender x y ≡ Less
same_sender x y same lt = let e = ap (λ (z : DeviceId). z.0) same in grind (arith, nat_tests)

lesser_sender : (x y : SessionEnds) → x.from.0 < y.from.0 → by_sender x y ≡ Less
lesser_sender x y lt = grind (arith, nat_tests)

not_after : (x y : SessionEnds) → by_sender x y ≡ Less → x.from.0 ≤ y.from.0
not_after x y h = grind (arith, nat_tests)

-- the senders ascend
pub senders_rise : (xs : List SessionEnds) → Ascend xs → IsNonDecreasingBy (λ e. e.from.0) xs
senders_rise xs up i j d le within =
    elim (cases_lt i j) [
      | inl lt ↦ not_after (get_or xs i d) (get_or xs j d) (up i j d lt within)
      | inr ge ↦
          let e : i ≡ j = omega arith in
          subst (λ k. (get_or xs i d).from.0 ≤ (get_or xs k d).from.0) e (omega arith)
    ]

few_kept : {X : Type 0} (keep : X → Bool) (xs : List X) → length (filter keep xs) ≤ length xs
few_kept keep xs = omega (arith, length-filter keep xs, count_by-le-length keep xs)

module _ (net : Network) (emulated : List DeviceId) where
  abbrev from_device : DeviceId → List SessionEnds
  from_device a = sessions_from net emulated a

  peers_within : (a : DeviceId) → All (IsDevice net) (peers_of net a)
  unfolding peers_of
  peers_within a = All-filter (is_linked net a) (IsDevice net) (device_ids net) (only_devices net)

  few_peers : (a : DeviceId) → length (peers_of net a) ≤ length net.devices
  unfolding peers_of
  few_peers a =
      let few = few_kept (is_linked net a) (device_ids net) in
      let all = length-device_ids net in
      omega arith

  few_from : (a : DeviceId) → length (from_device a) ≤ length net.devices
  few_from a =
      let few = few_peers a in
      let kept = few_kept (holds_device emulated) (peers_of net a) in
      let f : DeviceId → SessionEnds = λ b. record { from = a; to = b } in
      omega (arith, length-map {A = DeviceId} (receivers_of net emulated a) f)

  row_ascends : (a : DeviceId) → AllPairs IsBelow (from_device a)
  row_ascends a =
      pairs_map IsLess IsBelow (λ b. record { from = a; to = b })
      (λ b c lt. same_sender (record { from = a; to = b }) (record { from = a; to = c })
      (λ _. a) lt)
      (receivers_of net emulated a)
      (AllPairs-filter IsLess (holds_device emulated) (peers_of net a) (peers_ascend net a))

  -- what holds of a sender holds of its sessions
  all_from : (P : DeviceId → Type 0) (a : DeviceId) → P a
      → All (λ (e : SessionEnds). P e.from) (from_device a)
  all_from P a h =
      All-map (λ (e : SessionEnds). P e.from) (λ b. record { from = a; to = b })
      (receivers_of net emulated a) (λ k d lt. h)

  rows_from : (ds : List DeviceId) (P : DeviceId → Type 0) → All P ds
      → All (λ (e : SessionEnds). P e.from) (flat_map from_device ds)
  rows_from [] P all = All-nil (λ (e : SessionEnds). P e.from)
  rows_from (a ∷ ds) P all =
      All-append (λ (e : SessionEnds). P e.from) (from_device a) (flat_map from_device ds)
      (all_from P a (All-head P a ds all)) (rows_from ds P (All-tail P a ds all))

  rows_ascend : (ds : List DeviceId) → AllPairs IsLess ds
      → AllPairs IsBelow (flat_map from_device ds)
  rows_ascend [] h = pairs_none IsBelow
  rows_ascend (a ∷ ds) h =
      pairs_append IsBelow (from_device a) (flat_map from_device ds) (row_ascends a)
      (rows_ascend ds (pairs_tail IsLess a ds h))
      (All-map (λ x. All (IsBelow x) (flat_map from_device ds))
      (λ b. record { from = a; to = b }) (receivers_of net emulated a) (λ k d lt i e lt'.
      lesser_sender (record { from = a; to = get_or (receivers_of net emulated a) k d })
      (get_or (flat_map from_device ds) i e)
      (rows_from ds (IsLess a) (pairs_head IsLess a ds h) i e lt')))

  -- the sessions ascend by (from, to)
  pub ends_ascend : Ascend (session_ends net emulated)
  unfolding session_ends
  ends_ascend = rows_ascend (device_ids net) (devices_ascend net)

  -- each session comes from a device
  pub senders_within : All (λ (e : SessionEnds). IsDevice net e.from) (session_ends net emulated)
  unfolding session_ends
  senders_within = rows_from (device_ids net) (IsDevice net) (only_devices net)

  -- what holds of the receivers of each device holds of all receivers
  rows_to : (P : DeviceId → Type 0) → ((a : DeviceId) → All P (receivers_of net emulated a))
      → (ds : List DeviceId) → All (λ (e : SessionEnds). P e.to) (flat_map from_device ds)
  rows_to P each [] = All-nil (λ (e : SessionEnds). P e.to)
  rows_to P each (a ∷ ds) =
      All-append (λ (e : SessionEnds). P e.to) (from_device a) (flat_map from_device ds)
      (All-map (λ (e : SessionEnds). P e.to) (λ b. record { from = a; to = b })
      (receivers_of net emulated a) (each a))
      (rows_to P each ds)

  -- each session leads to a device
  pub receivers_within : All (λ (e : SessionEnds). IsDevice net e.to) (session_ends net emulated)
  unfolding session_ends
  receivers_within =
      rows_to (IsDevice net) (λ a.
      All-filter (holds_device emulated) (IsDevice net) (peers_of net a) (peers_within a))
      (device_ids net)

  -- each session leads to an emulated device
  pub receivers_emulated : All (λ (e : SessionEnds). holds_device emulated e.to ≡ true)
      (session_ends net emulated)
  unfolding session_ends
  receivers_emulated =
      rows_to (λ b. holds_device emulated b ≡ true)
      (λ a. filter_passes (holds_device emulated) (peers_of net a)) (device_ids net)

  few_rows : length net.devices ≤ 4096 → (ds : List DeviceId)
      → length (flat_map from_device ds) ≤ length ds * 4096
  few_rows most [] = omega arith
  few_rows most (a ∷ ds) =
      let few = few_from a in
      let rest = few_rows most ds in
      omega (arith, length-append (from_device a) (flat_map from_device ds))

  -- there are fewer sessions than a place can tell
  pub few_sessions : length net.devices ≤ 4096 → length (session_ends net emulated) < 2 ^ 32
  unfolding session_ends
  few_sessions most =
      let few = few_rows most (device_ids net) in
      let all = length-device_ids net in
      omega arith

-- ---- the whole index

-- an index of these sessions is one
pub index_made : (net : Network) (emulated : List DeviceId) (ends : List SessionEnds)
    (starts : List ℕ) (into : List (List ℕ)) (count : ℕ)
    → ends ≡ session_ends net emulated → count ≡ length net.devices
    → length starts ≡ count + 1 → SessionsBegin ends starts
    → length into ≡ count → ArePlaces ends into
    → IsIndexed ends starts into
index_made net emulated ends starts into count is all many begin lists places = record {
  ascending = subst Ascend (sym is) (ends_ascend net emulated);
  senders = λ k e lt.
      let inside = senders_within net emulated k e (subst (λ es. k < length es) is lt) in
      let here : (get_or ends k e).from.0 < length net.devices =
      subst (λ es. (get_or es k e).from.0 < length net.devices) (sym is) inside in
      omega arith;
  begin = begin;
  receivers = λ k e lt.
      let inside = receivers_within net emulated k e (subst (λ es. k < length es) is lt) in
      let here : (get_or ends k e).to.0 < length net.devices =
      subst (λ es. (get_or es k e).to.0 < length net.devices) (sym is) inside in
      omega arith;
  places = places;
}
