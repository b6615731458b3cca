-- Networks that differ in nothing but in which of their links are up: what is linked in one is
-- linked in the other, and so islands and the certificate are alike.
use Rattle.std.proofs.Common.{◌≡◌, ◌&&◌, ◌||◌, Bool, true, false, cond, List, [], ◌∷◌, map, Option, Some, option_map, is_some, find, refl, sym, ap, subst, ◌∙◌}
use Rattle.std.specs.List.{filter, flat_map, range_with_len}
use Rattle.cn_base.specs.declared.ids.DeviceId.{DeviceId}
use Rattle.cn_net.specs.declared.device.Device.{Device}
use Rattle.cn_net.specs.declared.device.Link.{Link}
use Rattle.cn_net.specs.Alike.{DifferInUp, HaveBoundariesAlike, HaveSameEnds, ends_of}
use Rattle.cn_net.specs.Certificate.{IsCertified, IsEmulatedFacing, IsOutsideFacing}
use Rattle.cn_net.specs.Islands.{IsIslandLabelling, IsIslands, IsJoined, holds_device}
use Rattle.cn_net.specs.Islands.IsJoined.{itself, link}
use Rattle.cn_net.specs.Network.{Network, IsLinked, device_ids, is_linked, joins, peers_of, same_device}
use Rattle.cn_net.specs.Sessions.{session_ends}

-- ---- links with the same ends

joins_ends : (a b : DeviceId) → DeviceId × DeviceId → Bool
joins_ends a b e =
    (same_device e.0 a && same_device e.1 b) || (same_device e.0 b && same_device e.1 a)

-- a search among links looks at their ends alone
found_by_ends : (a b : DeviceId) (links : List Link)
    → is_some (option_map (λ (l : Link). l.up) (find (joins a b) links))
    ≡ is_some (find (joins_ends a b) (map ends_of links))
unfolding joins_ends
found_by_ends a b [] = refl
found_by_ends a b (l ∷ ls) = at (joins a b l) (found_by_ends a b ls)
  where
    at : (t : Bool)
        → is_some (option_map (λ (k : Link). k.up) (find (joins a b) ls))
        ≡ is_some (find (joins_ends a b) (map ends_of ls))
        → is_some (option_map (λ (k : Link). k.up) (cond t (Some l) (find (joins a b) ls)))
        ≡ is_some (cond t (Some (ends_of l)) (find (joins_ends a b) (map ends_of ls)))
    at true e = refl
    at false e = e

-- ---- the sessions are said by the ends of the links

linked_same : (x y : Network) → HaveSameEnds x y → (a b : DeviceId)
    → is_linked x a b ≡ is_linked y a b
linked_same x y same a b =
    found_by_ends a b x.links
    ∙ ap (λ es. is_some (find (joins_ends a b) es)) same.links
    ∙ sym (found_by_ends a b y.links)

ids_same : (x y : Network) → HaveSameEnds x y → device_ids x ≡ device_ids y
unfolding device_ids
ids_same x y same = ap (λ n. map (λ k. record { 0 = k }) (range_with_len 0 n)) same.devices

peers_same : (x y : Network) → HaveSameEnds x y → (d : DeviceId) → peers_of x d ≡ peers_of y d
unfolding peers_of
peers_same x y same d = λ i. filter (λ b. linked_same x y same d b i) (ids_same x y same i)

-- as many devices, and links with the same ends: the same sessions
pub sessions_same : (x y : Network) (emulated : List DeviceId) → HaveSameEnds x y
    → session_ends x emulated ≡ session_ends y emulated
unfolding session_ends
sessions_same x y emulated same = λ i.
    flat_map (λ (a : DeviceId). map (λ (b : DeviceId). record { from = a; to = b })
    (filter (holds_device emulated) (peers_same x y same a i))) (ids_same x y same i)

-- ---- the same devices, and links with the same ends

abbrev pub network : List Device → List Link → Network
network devices links = record { devices = devices; links = links }

module _ (ds : List Device) where
  pub linked_too : (ls ms : List Link) → map ends_of ls ≡ map ends_of ms → (a b : DeviceId)
      → IsLinked (network ds ls) a b → IsLinked (network ds ms) a b
  linked_too ls ms same a b h =
      found_by_ends a b ms
      ∙ ap (λ es. is_some (find (joins_ends a b) es)) (sym same)
      ∙ sym (found_by_ends a b ls)
      ∙ h

  module _ (ls ms : List Link) (same : map ends_of ls ≡ map ends_of ms)
      (outside : DeviceId → Bool) where
    joined_too : (a b : DeviceId) → IsJoined (network ds ls) outside a b
        → IsJoined (network ds ms) outside a b
    joined_too a b itself = itself
    joined_too a b (link {b = d} s od ob l) =
        link (joined_too a d s) od ob (linked_too ls ms same d b l)

  module _ (ls ms : List Link) (same : map ends_of ls ≡ map ends_of ms) (outside : DeviceId → Bool)
      (label : DeviceId → Option DeviceId) where
    islands_too : IsIslands (network ds ls) outside label → IsIslands (network ds ms) outside label
    islands_too h = record {
      emulated = h.emulated;
      labelled = h.labelled;
      joined = λ d i is e. joined_too ls ms same outside d i (h.joined d i is e);
      least = λ d i x is e j. h.least d i x is e (joined_too ms ls (sym same) outside d x j);
    }

    labelling_too : IsIslandLabelling (network ds ls) outside label
        → IsIslandLabelling (network ds ms) outside label
    labelling_too h = record {
      emulated = h.emulated;
      labelled = h.labelled;
      linked = λ a b is_a is_b oa ob l.
          h.linked a b is_a is_b oa ob (linked_too ms ls (sym same) a b l);
    }

    emulated_facing : (i e : DeviceId) → IsEmulatedFacing (network ds ms) outside label i e
        → IsEmulatedFacing (network ds ls) outside label i e
    emulated_facing i e h = record {
      is_device = h.is_device;
      emulated = h.emulated;
      peer = h.peer;
      peer_is_device = h.peer_is_device;
      in_island = h.in_island;
      linked = linked_too ms ls (sym same) e h.peer h.linked;
    }

    outside_facing : (i d : DeviceId) → IsOutsideFacing (network ds ms) outside label i d
        → IsOutsideFacing (network ds ls) outside label i d
    outside_facing i d h = record {
      is_device = h.is_device;
      in_island = h.in_island;
      peer = h.peer;
      peer_is_device = h.peer_is_device;
      emulated = h.emulated;
      linked = linked_too ms ls (sym same) h.peer d h.linked;
    }

    certified_too : IsCertified (network ds ls) outside label
        → IsCertified (network ds ms) outside label
    certified_too h = record {
      island = λ i. record {
        emulated_side = λ x y fx fy.
            (h.island i).emulated_side x y (emulated_facing i x fx) (emulated_facing i y fy);
        outside_side = λ x y fx fy.
            (h.island i).outside_side x y (outside_facing i x fx) (outside_facing i y fy);
        origins = (h.island i).origins;
      };
    }

-- ---- networks that differ in which links are up

pub differ_back : (x y : Network) → DifferInUp x y → DifferInUp y x
differ_back x y d = record { devices = sym d.devices; links = sym d.links }

-- what holds for other links with the same ends holds of the other network
pub alike_from : (P : Network → Type 0)
    → ((ds : List Device) (ls ms : List Link) → map ends_of ls ≡ map ends_of ms
    → P (network ds ls) → P (network ds ms))
    → (x y : Network) → DifferInUp x y → P x → P y
alike_from P keeps x y differ h =
    subst (λ ds. P (network ds y.links)) differ.devices
    (keeps x.devices x.links y.links differ.links h)

pub boundaries_alike : (x y : Network) → DifferInUp x y → HaveBoundariesAlike x y
boundaries_alike x y differ =
    let back = differ_back x y differ in
    record {
      islands = λ outside label.
          let P : Network → Type 0 = λ n. IsIslands n outside label in
          let keeps =
          λ (ds : List Device) (ls ms : List Link) (e : map ends_of ls ≡ map ends_of ms).
          islands_too ds ls ms e outside label in
          (alike_from P keeps x y differ, alike_from P keeps y x back);
      labelling = λ outside label.
          let P : Network → Type 0 = λ n. IsIslandLabelling n outside label in
          let keeps =
          λ (ds : List Device) (ls ms : List Link) (e : map ends_of ls ≡ map ends_of ms).
          labelling_too ds ls ms e outside label in
          (alike_from P keeps x y differ, alike_from P keeps y x back);
      certified = λ outside label.
          let P : Network → Type 0 = λ n. IsCertified n outside label in
          let keeps =
          λ (ds : List Device) (ls ms : List Link) (e : map ends_of ls ≡ map ends_of ms).
          certified_too ds ls ms e outside label in
          (alike_from P keeps x y differ, alike_from P keeps y x back);
    }
