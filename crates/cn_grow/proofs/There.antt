-- A grown set always is there, in the sense of classical logic. Other crates may cite this module.
use Rattle.std.proofs.Common.{◌≡◌, ◌∙◌, ℕ, ◌+◌, ◌<◌, true, Bool, List, Less, length, get_or, ap, arith, filter, All}
use Rattle.std.specs.Cmp.{IsTotalOrder}
use Rattle.std.specs.Ordering.{nat_cmp, on}
use Rattle.std.proofs.lemmas.Bool.Decides.{nat_tests}
use Rattle.std.proofs.lemmas.Cmp.{nat_cmp_total, on_total}
use Rattle.std.proofs.lemmas.List.Elements.{All-contains, All-filter, filter_passes}
use Rattle.std.proofs.lemmas.List.Kept.{IsStrictlySortedBy-filter}
use Rattle.std.proofs.lemmas.Map.Keys.{sorted_from_all_adjacent}
use Rattle.std.proofs.lemmas.Map.Views.{any-filter_same}
use Rattle.cn_lists.specs.Classical.{Classically}
use Rattle.cn_lists.proofs.Classical.{Tells, test_below, with_found}
use Rattle.cn_base.specs.declared.ids.DeviceId.{DeviceId}
use Rattle.cn_net.specs.Islands.{IsAscending, holds_device}
use Rattle.cn_net.specs.Network.{Network, IsDevice, device_ids, same_device}
use Rattle.cn_net.specs.Valid.{IsValid}
use Rattle.cn_net.proofs.Members.{contained, held, same_number}
use Rattle.cn_net.proofs.Peers.{all_devices, devices_ascend, linked_devices, only_devices}
use Rattle.cn_grow.specs.Growth.{IsClosed, IsGrown, IsPartOf}

-- ---- the devices that pass a test, as a set

below_is_less : (x y : DeviceId) → x.0 < y.0 → on (λ (d : DeviceId). d.0) nat_cmp x y ≡ Less
below_is_less x y h = grind (arith, nat_tests)

abbrev passing : Network → (ℕ → Bool) → List DeviceId
passing net test = filter (λ d. test d.0) (device_ids net)

passing_ascends : (net : Network) (test : ℕ → Bool) → IsAscending (passing net test)
passing_ascends net test =
    let by_number = on (λ (d : DeviceId). d.0) nat_cmp in
    let total : IsTotalOrder by_number = on_total (λ (d : DeviceId). d.0) nat_cmp_total in
    IsStrictlySortedBy-filter by_number (λ d. test d.0) (device_ids net)
    (sorted_from_all_adjacent total (device_ids net) (record { 0 = 0 }) (λ k within.
    below_is_less (get_or (device_ids net) k (record { 0 = 0 }))
    (get_or (device_ids net) (k + 1) (record { 0 = 0 }))
    (devices_ascend net k (k + 1) (record { 0 = 0 }) (omega arith) within)))

passes : (net : Network) (test : ℕ → Bool) (d : DeviceId)
    → holds_device (passing net test) d ≡ true → test d.0 ≡ true
passes net test d h =
    All-contains (λ x. test x.0 ≡ true) (passing net test) d
    (filter_passes (λ x. test x.0) (device_ids net)) (contained (passing net test) d h)

passing_device : (net : Network) (test : ℕ → Bool) (d : DeviceId)
    → holds_device (passing net test) d ≡ true → IsDevice net d
passing_device net test d h =
    All-contains (IsDevice net) (passing net test) d
    (All-filter (λ x. test x.0) (IsDevice net) (device_ids net) (only_devices net))
    (contained (passing net test) d h)

held_passing : (net : Network) (test : ℕ → Bool) (d : DeviceId) → IsDevice net d
    → test d.0 ≡ true → holds_device (passing net test) d ≡ true
held_passing net test d is t =
    any-filter_same (λ x. same_device x d) (λ x. test x.0) true
    (λ x e. ap (λ (z : DeviceId). test z.0) (same_number x d e) ∙ t) (device_ids net)
    ∙ held (device_ids net) d (all_devices net d is)

-- a set has exactly the devices with a property
record HasExactly (net : Network) (P : DeviceId → Type 0) (set : List DeviceId) : Type 0 where
  ascending : IsAscending set
  within : All (IsDevice net) set
  so : (d : DeviceId) → holds_device set d ≡ true → P d
  all : (d : DeviceId) → IsDevice net d → P d → holds_device set d ≡ true

exactly_passing : (net : Network) (P : DeviceId → Type 0) (test : ℕ → Bool)
    → Tells (λ k. P (record { 0 = k })) (length net.devices) test
    → HasExactly net P (passing net test)
exactly_passing net P test tells = record {
  ascending = passing_ascends net test;
  within = All-filter (λ d. test d.0) (IsDevice net) (device_ids net) (only_devices net);
  so = λ d h. tells.so d.0 (passing_device net test d h) (passes net test d h);
  all = λ d is p. held_passing net test d is (tells.told d.0 is p);
}

-- ---- the grown set

-- every closed set that holds the given devices holds d
abbrev IsForced : Network → List DeviceId → DeviceId → Type 0
IsForced net must d = (other : List DeviceId) → IsPartOf must other → IsClosed net other
    → holds_device other d ≡ true

exactly_grown : (net : Network) (must set : List DeviceId) → IsValid net
    → All (IsDevice net) must → HasExactly net (IsForced net must) set → IsGrown net must set
exactly_grown net must set valid within h = record {
  given = λ d m. h.all d (All-contains (IsDevice net) must d within (contained must d m))
      (λ other given closed. given d m);
  closed = λ a b m above. h.all b (linked_devices net a b valid above.0).1
      (λ other given closed. closed a b (h.so a m other given closed) above);
  least = λ other given closed d m. h.so d m other given closed;
}

-- of given devices of a valid network a grown set can't be missing: an ascending list of devices
pub grown_there : (net : Network) (must : List DeviceId) → IsValid net → All (IsDevice net) must
    → Classically ((set : List DeviceId) × IsGrown net must set × IsAscending set
    × All (IsDevice net) set)
grown_there net must valid within =
    with_found (test_below (λ k. IsForced net must (record { 0 = k })) (length net.devices))
    (λ found.
    let set = passing net found.0 in
    let h = exactly_passing net (IsForced net must) found.0 found.1 in
    (set, exactly_grown net must set valid within h, h.ascending, h.within))
