-- Other crates may cite this: which sessions there are, and from which devices those into a device
-- come, in order.
use Rattle.std.proofs.Common.{◌≡◌, ℕ, ◌<◌, Bool, true, List, length, get_or, map, Less, refl, ap, sym, subst, ◌∙◌, arith}
use Rattle.std.specs.List.{All, AllPairs, Contains, filter, range_with_len}
use Rattle.std.proofs.lemmas.Bool.Decides.{nat_tests}
use Rattle.std.proofs.lemmas.List.{get_or-map, get_or_default, length-map}
use Rattle.std.proofs.lemmas.List.Elements.{All-contains, filter_passes}
use Rattle.std.proofs.lemmas.List.FromFn.{get_or-range_with_len, length-range_with_len}
use Rattle.std.proofs.lemmas.List.Kept.{AllPairs-filter}
use Rattle.cn_base.specs.declared.ids.DeviceId.{DeviceId}
use Rattle.cn_lists.proofs.Finding.{Contains-filter, Contains-flat_map, Contains-from_map, Contains-map}
use Rattle.cn_net.specs.Islands.{holds_device}
use Rattle.cn_net.specs.Network.{Network, IsDevice, device_ids, is_linked, peers_of}
use Rattle.cn_net.specs.Sessions.{Ascend, by_sender, leads_to, places_into, receivers_of, session_ends, sessions_from}
use Rattle.cn_net.specs.declared.sessions.SessionEnds.{SessionEnds}
use Rattle.cn_net.proofs.Lookups.{end_holds, end_is}
use Rattle.cn_net.proofs.Peers.{all_devices, devices_ascend, same_elements}

-- ---- which sessions there are

-- there is a session from a device to each emulated device to which it is linked
pub linked_session : (net : Network) (emulated : List DeviceId) (a b : DeviceId) → IsDevice net a
    → IsDevice net b → is_linked net a b ≡ true → holds_device emulated b ≡ true
    → Contains (session_ends net emulated) (record { from = a; to = b })
unfolding session_ends peers_of
linked_session net emulated a b is_a is_b linked held =
    let it : SessionEnds = record { from = a; to = b } in
    Contains-flat_map (sessions_from net emulated) (device_ids net) a it (all_devices net a is_a)
    (Contains-map (λ (c : DeviceId). record { from = a; to = c }) (receivers_of net emulated a) b it
    (Contains-filter (holds_device emulated) (peers_of net a) b
    (Contains-filter (is_linked net a) (device_ids net) b (all_devices net b is_b) linked) held)
    refl)

-- ---- the senders

nobody : DeviceId
nobody = record { 0 = 0 }

nowhere : SessionEnds
nowhere = record { from = nobody; to = nobody }

-- the device from which the session at a place comes
pub sender_at : List SessionEnds → ℕ → DeviceId
sender_at ends k = (get_or ends k nowhere).from

-- the session at a place comes from its sender
pub sender_is : (ends : List SessionEnds) (k : ℕ) (e : SessionEnds) → k < length ends
    → e ≡ get_or ends k e → sender_at ends k ≡ e.from
unfolding sender_at
sender_is ends k e within is =
    ap (λ (x : SessionEnds). x.from) (sym (is ∙ get_or_default ends k e nowhere within))

lesser_sender : (x y : SessionEnds) → by_sender x y ≡ Less → x.to ≡ y.to → x.from.0 < y.from.0
lesser_sender x y less same = let e = ap (λ (z : DeviceId). z.0) same in grind (arith, nat_tests)

places_ascend : (n : ℕ) → AllPairs (λ i j. i < j) (range_with_len 0 n)
places_ascend n i j d lt within =
    let many = length-range_with_len 0 n in
    let at_i = get_or-range_with_len 0 n i d (omega arith) in
    let at_j = get_or-range_with_len 0 n j d (omega arith) in
    omega arith

module _ (ends : List SessionEnds) (d : DeviceId) where
  abbrev places : List ℕ
  places = places_into ends d

  -- a place among these is one of a session that leads to the device
  pub place_leads : (k : ℕ) (e : SessionEnds) → Contains places k
      → (k < length ends) × ((get_or ends k e).to ≡ d)
  place_leads k e h =
      end_is (λ (x : SessionEnds). x.to) ends d k e
      (All-contains (λ i. leads_to ends d i ≡ true) places k
      (filter_passes (leads_to ends d) (range_with_len 0 (length ends))) h)

  senders_ascend : Ascend ends → AllPairs (λ a b. a.0 < b.0) (map (sender_at ends) places)
  unfolding sender_at
  senders_ascend up i j x lt within =
      let many = length-map places (sender_at ends) in
      let at_i = get_or-map (sender_at ends) places i 0 x (omega arith) in
      let at_j = get_or-map (sender_at ends) places j 0 x (omega arith) in
      let k = get_or places i 0 in
      let l = get_or places j 0 in
      let first =
      place_leads k nowhere (i, omega arith, get_or_default places i k 0 (omega arith)) in
      let second =
      place_leads l nowhere (j, omega arith, get_or_default places j l 0 (omega arith)) in
      let below : k < l =
      AllPairs-filter (λ a b. a < b) (leads_to ends d) (range_with_len 0 (length ends))
      (places_ascend (length ends)) i j 0 lt (omega arith) in
      let less =
      lesser_sender (get_or ends k nowhere) (get_or ends l nowhere)
      (up k l nowhere below second.0) (first.1 ∙ sym second.1) in
      let e = ap (λ (z : DeviceId). z.0) at_i in
      let f = ap (λ (z : DeviceId). z.0) at_j in
      omega arith

  session_of : (a : DeviceId) → Contains (map (sender_at ends) places) a
      → Contains ends (record { from = a; to = d })
  unfolding sender_at
  session_of a h =
      let it : SessionEnds = record { from = a; to = d } in
      let at = Contains-from_map (sender_at ends) places a h in
      let leads = place_leads at.0 nowhere at.1 in (
        at.0,
        leads.0,
        get_or_default ends at.0 it nowhere leads.0
            ∙ (λ i. record { from = at.2 i; to = leads.1 i }),
      )

  sender_of : (a : DeviceId) → Contains ends (record { from = a; to = d })
      → Contains (map (sender_at ends) places) a
  unfolding sender_at
  sender_of a (k, within, is) =
      let it : SessionEnds = record { from = a; to = d } in
      let here : get_or ends k nowhere ≡ it = get_or_default ends k nowhere it within ∙ is in
      let place : Contains (range_with_len 0 (length ends)) k = (
        k,
        subst (λ n. k < n) (sym (length-range_with_len 0 (length ends))) within,
        omega (arith, get_or-range_with_len 0 (length ends) k k within),
      ) in
      Contains-map (sender_at ends) places k a
      (Contains-filter (leads_to ends d) (range_with_len 0 (length ends)) k place
      (end_holds (λ (x : SessionEnds). x.to) ends d k nowhere within
      (ap (λ (x : SessionEnds). x.to) here)))
      (ap (λ (x : SessionEnds). x.from) here)

  -- the senders are the devices from which there is a session, in the order of all devices
  pub senders_into : (net : Network) (t : DeviceId → Bool) → Ascend ends
      → All (λ (e : SessionEnds). IsDevice net e.from) ends
      → ((a : DeviceId) → t a ≡ true → Contains ends (record { from = a; to = d }))
      → ((a : DeviceId) → Contains ends (record { from = a; to = d }) → t a ≡ true)
      → map (sender_at ends) places ≡ filter t (device_ids net)
  senders_into net t up within some passes =
      same_elements (map (sender_at ends) places) (filter t (device_ids net)) (senders_ascend up)
      (AllPairs-filter (λ a b. a.0 < b.0) t (device_ids net) (devices_ascend net))
      (λ a h.
      let there = session_of a h in
      let it : SessionEnds = record { from = a; to = d } in
      Contains-filter t (device_ids net) a
      (all_devices net a
      (All-contains (λ (e : SessionEnds). IsDevice net e.from) ends it within there))
      (passes a there))
      (λ a h.
      sender_of a (some a
      (All-contains (λ (b : DeviceId). t b ≡ true) (filter t (device_ids net)) a
      (filter_passes t (device_ids net)) h)))
