-- In a valid network, no two devices have one BGP Identifier.
use Rattle.std.proofs.Common.{◌≡◌, ◌<◌, get_or, map, sym, ap, ◌∙◌, inl, inr, arith}
use Rattle.std.specs.List.{IsDistinct}
use Rattle.std.specs.Prelude.{unwrap_or}
use Rattle.std.proofs.lemmas.Bool.{false≢true, cases_lt}
use Rattle.std.proofs.lemmas.List.{length-map}
use Rattle.std.proofs.lemmas.Map.Keys.{apart_from_distinct}
use Rattle.std.proofs.lemmas.Option.{slice_get-map, unwrap_or-slice_get}
use Rattle.cn_base.specs.declared.ids.DeviceId.{DeviceId}
use Rattle.cn_base.specs.declared.ids.RouterId.{RouterId}
use Rattle.cn_net.specs.Network.{Network, HasDistinctIds, IsDevice, router_of}
use Rattle.cn_net.specs.Valid.{IsValid, same_router}
use Rattle.cn_net.specs.declared.device.Device.{Device}
use Rattle.cn_net.proofs.Keys.{same_router-Decides}

router_is : (net : Network) (d : DeviceId)
    → router_of net d ≡ get_or (map (λ (x : Device). x.id) net.devices) d.0 (record { 0 = 0 })
router_is net d =
    let none : RouterId = record { 0 = 0 } in
    ap (λ o. unwrap_or o none) (sym (slice_get-map (λ (x : Device). x.id) net.devices d.0))
    ∙ unwrap_or-slice_get (map (λ (x : Device). x.id) net.devices) d.0 none

earlier : (net : Network) (a b : DeviceId) → IsDistinct same_router (map (λ d. d.id) net.devices)
    → IsDevice net b → router_of net a ≡ router_of net b → a.0 < b.0 → ⊥
earlier net a b distinct is_b same lt =
    let none : RouterId = record { 0 = 0 } in
    let ids = map (λ (x : Device). x.id) net.devices in
    let apart = apart_from_distinct same_router ids a.0 b.0 none distinct lt
    (omega (arith, length-map net.devices (λ (x : Device). x.id))) in
    let e : get_or ids a.0 none ≡ get_or ids b.0 none =
    sym (router_is net a) ∙ same ∙ router_is net b in
    false≢true (sym apart ∙ (same_router-Decides (get_or ids a.0 none) (get_or ids b.0 none)).1 e)

pub distinct_ids : (net : Network) → IsValid net → HasDistinctIds net
distinct_ids net valid a b is_a is_b same =
    let e : a.0 ≡ b.0 =
    elim (cases_lt a.0 b.0) [
      | inl lt ↦ absurd (earlier net a b valid.ids is_b same lt)
      | inr le ↦ elim (cases_lt b.0 a.0) [
        | inl lt ↦ absurd (earlier net b a valid.ids is_a (sym same) lt)
        | inr ge ↦ omega arith
      ]
    ] in
    λ i. record { 0 = e i }
