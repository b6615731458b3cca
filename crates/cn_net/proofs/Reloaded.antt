-- A network in which a device has another body: all else stays.
use Rattle.std.proofs.Common.{◌≡◌, ◌≢◌, ℕ, zero, suc, ◌<◌, ◌≤◌, List, [], ◌∷◌, length, get_or, set, map, Some, option_map, unwrap_or, refl, sym, ◌∙◌, ap, subst, inl, inr, arith}
use Rattle.std.specs.List.{slice_get}
use Rattle.std.proofs.Math.Seq.{map-set_same}
use Rattle.std.proofs.lemmas.Bool.{cases_lt}
use Rattle.std.proofs.lemmas.List.{get_or-set_same, length-set}
use Rattle.std.proofs.lemmas.Option.{get_or_from_slice_get, none-some, slice_get-get_or, slice_get_past}
use Rattle.cn_base.specs.declared.ids.DeviceId.{DeviceId}
use Rattle.cn_net.specs.Changed.{reloaded, with_body}
use Rattle.cn_net.specs.Network.{Network, IsDevice, device_of}
use Rattle.cn_net.specs.Valid.{IsValid, OriginatesOnce}
use Rattle.cn_net.specs.declared.device.Body.{Body}
use Rattle.cn_net.specs.declared.device.Device.{Device}

module _ (net : Network) (d : DeviceId) (body : Body) where
  -- a device to name where there is none
  nobody : Device
  nobody = record {
    name = [];
    layer = 0;
    id = record { 0 = 0 };
    body = body;
  }

  -- the devices are as they were but for one in the place of d
  pub devices-with_body : (x : Device) → IsDevice net d
      → (with_body net d body).devices
      ≡ set net.devices d.0 (reloaded body (get_or net.devices d.0 x))
  devices-with_body x is =
      ap (λ o. unwrap_or (option_map (λ y. set net.devices d.0 (reloaded body y)) o) net.devices)
      (slice_get-get_or net.devices d.0 x is)

  devices-without : length net.devices ≤ d.0 → (with_body net d body).devices ≡ net.devices
  devices-without past =
      ap (λ o. unwrap_or (option_map (λ y. set net.devices d.0 (reloaded body y)) o) net.devices)
      (slice_get_past net.devices d.0 past)

  -- what a device has beside its body stays
  pub map-with_body : {Y : Type 0} (f : Device → Y) → ((x : Device) → f (reloaded body x) ≡ f x)
      → map f (with_body net d body).devices ≡ map f net.devices
  map-with_body f keeps =
      elim (cases_lt d.0 (length net.devices)) [
        | inl lt ↦
            let at = map-set_same f net.devices d.0
            (reloaded body (get_or net.devices d.0 nobody)) nobody
            (keeps (get_or net.devices d.0 nobody)) in
            ap (map f) (devices-with_body nobody lt) ∙ at
        | inr le ↦ ap (map f) (devices-without le)
      ]

  -- the device has the body
  pub device_of-with_body : (x : Device) → device_of net d ≡ Some x
      → device_of (with_body net d body) d ≡ Some (reloaded body x)
  device_of-with_body x is =
      let within = inside net.devices d.0 x is in
      let at = get_or_from_slice_get net.devices d.0 x x is in
      let y = reloaded body x in
      let many : length (set net.devices d.0 y) ≡ length net.devices =
      length-set net.devices d.0 y in
      ap (λ ds. slice_get ds d.0)
      (devices-with_body x within ∙ ap (λ z. set net.devices d.0 (reloaded body z)) at)
      ∙ slice_get-get_or (set net.devices d.0 y) d.0 y (omega arith)
      ∙ ap Some (get_or-set_same net.devices d.0 y y within)
    where
      inside : (xs : List Device) (i : ℕ) (z : Device) → slice_get xs i ≡ Some z → i < length xs
      inside xs i z e =
          elim (cases_lt i (length xs)) [
            | inl lt ↦ lt
            | inr le ↦ absurd (none-some z (sym (slice_get_past xs i le) ∙ e))
          ]

  -- other devices stay
  pub device_of-with_body_other : (e : DeviceId) → e ≢ d
      → device_of (with_body net d body) e ≡ device_of net e
  device_of-with_body_other e apart =
      elim (cases_lt d.0 (length net.devices)) [
        | inl lt ↦
            ap (λ ds. slice_get ds e.0) (devices-with_body nobody lt)
            ∙ slice_get-set_other net.devices d.0 e.0
            (reloaded body (get_or net.devices d.0 nobody))
            (λ same. apart (λ i. record { 0 = same i }))
        | inr le ↦ ap (λ ds. slice_get ds e.0) (devices-without le)
      ]
    where
      slice_get-set_other : (xs : List Device) (i j : ℕ) (y : Device) → (j ≡ i → ⊥)
          → slice_get (set xs i y) j ≡ slice_get xs j
      slice_get-set_other [] i j y ne = refl
      slice_get-set_other (x ∷ xs) zero zero y ne = absurd (ne refl)
      slice_get-set_other (x ∷ xs) zero (suc j) y ne = refl
      slice_get-set_other (x ∷ xs) (suc i) zero y ne = refl
      slice_get-set_other (x ∷ xs) (suc i) (suc j) y ne =
          slice_get-set_other xs i j y (λ e. ne (ap suc e))

  -- the body of a valid network originates each prefix once
  pub OriginatesOnce-with_body : IsDevice net d → IsValid (with_body net d body)
      → OriginatesOnce body
  OriginatesOnce-with_body is valid =
      let y = reloaded body (get_or net.devices d.0 nobody) in
      let same = devices-with_body nobody is in
      let many : length (with_body net d body).devices ≡ length net.devices =
      ap length same ∙ length-set net.devices d.0 y in
      let at : get_or (with_body net d body).devices d.0 y ≡ y =
      ap (λ ds. get_or ds d.0 y) same ∙ get_or-set_same net.devices d.0 y y is in
      subst (λ (z : Device). OriginatesOnce z.body) at (valid.own d.0 y (omega arith))
