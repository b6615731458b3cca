-- The devices at the other ends of a device's links are its peers.
use Rattle.std.proofs.Common.{◌≡◌, ℕ, zero, suc, ◌<◌, ◌≤◌, ◌↔◌, true, List, [], ◌∷◌, length, get_or, map, is_some, option_map, refl, sym, ◌∙◌, ap, subst, true≢false, inl, inr, arith}
use Rattle.std.specs.List.{All, AllPairs, Any, Contains, position_or_len}
use Rattle.std.proofs.lemmas.Bool.Decides.{nat_tests}
use Rattle.std.proofs.lemmas.List.{get_or-map, get_or_default, length-map}
use Rattle.std.proofs.lemmas.List.Elements.{All-contains, Contains-append_right, filter_passes}
use Rattle.std.proofs.lemmas.List.Folds.{find_at}
use Rattle.std.proofs.lemmas.List.FromFn.{get_or-map-range_with_len, length-map-range_with_len}
use Rattle.std.proofs.lemmas.List.Kept.{AllPairs-filter}
use Rattle.std.proofs.lemmas.List.Sums.{passes_at_first}
use Rattle.std.proofs.lemmas.Map.Made.{Contains-tail}
use Rattle.std.proofs.lemmas.Map.Views.{any-filter_same}
use Rattle.std.proofs.lemmas.Option.{slice_get_cases}
use Rattle.cn_base.specs.declared.ids.DeviceId.{DeviceId}
use Rattle.cn_net.specs.Network.{Network, IsDevice, IsLinked, device_ids, is_linked, joins, peers_of, same_device}
use Rattle.cn_net.specs.Valid.{IsValid, JoinsDevices}
use Rattle.cn_net.specs.declared.device.Link.{Link}
use Rattle.cn_net.specs.declared.neighbours.Neighbour.{Neighbour}
use Rattle.cn_net.proofs.Members.{contained, held, same_number}

-- ---- ascending lists with the same elements

contains_behind : (x : DeviceId) (xs : List DeviceId) (d : DeviceId) → Contains xs d
    → Contains (x ∷ xs) d
contains_behind x xs d h = Contains-append_right (x ∷ []) xs d h

tail_ascends : (x : DeviceId) (xs : List DeviceId) → AllPairs (λ a b. a.0 < b.0) (x ∷ xs)
    → AllPairs (λ a b. a.0 < b.0) xs
tail_ascends x xs up i j d lt within = up (suc i) (suc j) d (omega arith) (omega arith)

above_first : (x : DeviceId) (xs : List DeviceId) (d : DeviceId) → AllPairs (λ a b. a.0 < b.0)
    (x ∷ xs) → Contains xs d → x.0 < d.0
above_first x xs d up (k, within, is) =
    subst (λ (z : DeviceId). x.0 < z.0) is (up 0 (suc k) d (omega arith) (omega arith))

first_least : (x : DeviceId) (xs : List DeviceId) (d : DeviceId) → AllPairs (λ a b. a.0 < b.0)
    (x ∷ xs) → Contains (x ∷ xs) d → x.0 ≤ d.0
first_least x xs d up (zero, within, is) = let e : x.0 ≡ d.0 = ap (λ (z : DeviceId). z.0) is in
    omega arith
first_least x xs d up (suc k, within, is) = let l = above_first x xs d up (k, omega arith, is) in
    omega arith

tail_only : (x y : DeviceId) (xs ys : List DeviceId) (d : DeviceId) → x ≡ y
    → AllPairs (λ a b. a.0 < b.0) (x ∷ xs)
    → ((e : DeviceId) → Contains (x ∷ xs) e → Contains (y ∷ ys) e) → Contains xs d → Contains ys d
tail_only x y xs ys d same up f h =
    let l = above_first x xs d up h in
    let e : x.0 ≡ y.0 = ap (λ (z : DeviceId). z.0) same in
    Contains-tail y ys d (λ q. let g : y.0 ≡ d.0 = ap (λ (z : DeviceId). z.0) q in omega arith)
    (f d (contains_behind x xs d h))

nothing_in_none : (d : DeviceId) → Contains [] d → ⊥
nothing_in_none d (k, within, is) = omega arith

pub same_elements : (xs ys : List DeviceId) → AllPairs (λ a b. a.0 < b.0) xs
    → AllPairs (λ a b. a.0 < b.0) ys → ((d : DeviceId) → Contains xs d → Contains ys d)
    → ((d : DeviceId) → Contains ys d → Contains xs d) → xs ≡ ys
same_elements [] [] up up' f g = refl
same_elements [] (y ∷ ys) up up' f g = absurd (nothing_in_none y (g y (0, omega arith, refl)))
same_elements (x ∷ xs) [] up up' f g = absurd (nothing_in_none x (f x (0, omega arith, refl)))
same_elements (x ∷ xs) (y ∷ ys) up up' f g =
    let low = first_least x xs y up (g y (0, omega arith, refl)) in
    let high = first_least y ys x up' (f x (0, omega arith, refl)) in
    let e : x.0 ≡ y.0 = omega arith in
    let first : x ≡ y = λ i. record { 0 = e i } in
    let others = same_elements xs ys (tail_ascends x xs up) (tail_ascends y ys up')
    (λ d h. tail_only x y xs ys d first up f h)
    (λ d h. tail_only y x ys xs d (sym first) up' g h) in
    λ i. first i ∷ others i

-- ---- all devices

device_at : (net : Network) (k : ℕ) (d : DeviceId) → k < length net.devices
    → get_or (device_ids net) k d ≡ record { 0 = k }
unfolding device_ids
device_at net k d lt = get_or-map-range_with_len (λ n. record { 0 = n }) 0 (length net.devices)
    k k d lt (omega arith)

pub length-device_ids : (net : Network) → length (device_ids net) ≡ length net.devices
unfolding device_ids
length-device_ids net = length-map-range_with_len {X = DeviceId} (λ n. record { 0 = n }) 0
    (length net.devices)

pub all_devices : (net : Network) (d : DeviceId) → IsDevice net d → Contains (device_ids net) d
all_devices net d is = (d.0, rw length-device_ids is, device_at net d.0 d is)

pub only_devices : (net : Network) → All (IsDevice net) (device_ids net)
only_devices net k d lt =
    let within : k < length net.devices = rw length-device_ids at lt in
    subst (IsDevice net) (sym (device_at net k d within)) within

pub devices_ascend : (net : Network) → AllPairs (λ a b. a.0 < b.0) (device_ids net)
devices_ascend net i j d lt within =
    let in' : j < length net.devices = rw length-device_ids at within in
    let in'' : i < length net.devices = omega arith in
    let at_i : (get_or (device_ids net) i d).0 ≡ i = ap (λ (z : DeviceId). z.0)
    (device_at net i d in'') in
    let at_j : (get_or (device_ids net) j d).0 ≡ j = ap (λ (z : DeviceId). z.0)
    (device_at net j d in') in
    omega arith

-- ---- the ends of links are devices

joined_devices : (net : Network) (a b : DeviceId) (l : Link) → joins a b l ≡ true
    → JoinsDevices net l → IsDevice net a × IsDevice net b
joined_devices net a b l t h =
    let la = h.a in
    let lb = h.b in
    (grind (arith, nat_tests), grind (arith, nat_tests))

pub linked_devices : (net : Network) (a b : DeviceId) → IsValid net → IsLinked net a b
    → IsDevice net a × IsDevice net b
linked_devices net a b valid some =
    let at = position_or_len (joins a b) net.links in
    elim (slice_get_cases net.links at).1 [
      | inl (l, lt, is, here) ↦ joined_devices net a b l (ap (joins a b) (sym here)
          ∙ passes_at_first (joins a b) net.links l lt)
          (subst (JoinsDevices net) here (valid.ends at l lt))
      | inr (le, is) ↦ absurd (true≢false (sym some
          ∙ ap (λ o. is_some (option_map (λ (k : Link). k.up) o))
          (find_at (joins a b) net.links ∙ is)))
    ]

-- ---- peers

pub peers_ascend : (net : Network) (d : DeviceId) → AllPairs (λ a b. a.0 < b.0) (peers_of net d)
unfolding peers_of
peers_ascend net d = AllPairs-filter (λ a b. a.0 < b.0) (is_linked net d) (device_ids net)
    (devices_ascend net)

pub peer_linked : (net : Network) (d b : DeviceId) → Contains (peers_of net d) b → IsLinked net d b
unfolding peers_of
peer_linked net d b h = All-contains (λ x. is_linked net d x ≡ true)
    (peers_of net d) b (filter_passes (is_linked net d) (device_ids net)) h

pub linked_peer : (net : Network) (d b : DeviceId) → IsValid net → IsLinked net d b
    → Contains (peers_of net d) b
unfolding peers_of
linked_peer net d b valid linked =
    let p = is_linked net d in
    let passes = λ (k : DeviceId) (t : same_device k b ≡ true). ap p (same_number k b t) ∙ linked in
    contained (peers_of net d) b
    (any-filter_same (λ x. same_device x b) p true passes (device_ids net)
    ∙ held (device_ids net) b (all_devices net b (linked_devices net d b valid linked).1))

-- ---- the devices that a device's neighbours are

default : DeviceId → Neighbour
default d = record { of = d; device = d; link = 0 }

neighbour_at : (part : List Neighbour) (k : ℕ) (d : DeviceId) → k < length part
    → get_or (map (λ n. n.device) part) k d ≡ (get_or part k (default d)).device
unfolding default
neighbour_at part k d lt = get_or-map (λ (n : Neighbour). n.device) part k (default d) d lt

seen_ascend : (part : List Neighbour) → AllPairs (λ x y. x.device.0 < y.device.0) part
    → AllPairs (λ a b. a.0 < b.0) (map (λ n. n.device) part)
seen_ascend part up i j d lt within =
    let in' : j < length part = rw length-map at within in
    let in'' : i < length part = omega arith in
    let at_i = ap (λ (z : DeviceId). z.0) (neighbour_at part i d in'') in
    let at_j = ap (λ (z : DeviceId). z.0) (neighbour_at part j d in') in
    let less = up i j (default d) lt in' in
    omega arith

seen_any : (part : List Neighbour) (b : DeviceId) → Contains (map (λ n. n.device) part) b
    → Any (λ n. n.device ≡ b) part
seen_any part b (k, within, is) =
    let in' : k < length part = rw length-map at within in
    let x = get_or part k (default b) in
    (k, x, in', sym (get_or_default part k (default b) x in'), sym (neighbour_at part k b in') ∙ is)

any_seen : (part : List Neighbour) (b : DeviceId) → Any (λ n. n.device ≡ b) part
    → Contains (map (λ n. n.device) part) b
any_seen part b (k, x, lt, is, to) = (
  k,
  rw length-map lt,
  neighbour_at part k b lt ∙ ap (λ (n : Neighbour). n.device)
      (sym (get_or_default part k x (default b) lt) ∙ is) ∙ to,
)

pub peers_seen : (net : Network) (d : DeviceId) (part : List Neighbour) → IsValid net
    → AllPairs (λ x y. x.device.0 < y.device.0) part
    → ((b : DeviceId) → Any (λ n. n.device ≡ b) part ↔ IsLinked net d b)
    → map (λ n. n.device) part ≡ peers_of net d
peers_seen net d part valid up linked =
    same_elements (map (λ n. n.device) part) (peers_of net d) (seen_ascend part up)
    (peers_ascend net d)
    (λ b h. linked_peer net d b valid ((linked b).0 (seen_any part b h)))
    (λ b h. any_seen part b ((linked b).1 (peer_linked net d b h)))
