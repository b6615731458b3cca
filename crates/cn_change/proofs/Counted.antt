-- The distinct prefixes of a network in which a device has another body, as they are counted.
use Rattle.std.proofs.Common.{◌≡◌, ℕ, ◌+◌, ◌<◌, ◌==◌, ◌||◌, ◌++◌, ◌∷◌, [], if◌then◌else◌, List, length, get_or, set, take, map, sym, ap, ◌∙◌, inl, inr, arith}
use Rattle.std.specs.List.{flat_map, list_any}
use Rattle.std.proofs.lemmas.Bool.{cases_eq, eq-eqb, ne_eqb}
use Rattle.std.proofs.lemmas.Grind.{flat_map-append}
use Rattle.std.proofs.lemmas.List.{append-nil, get_or-set_other, get_or-set_same, length-set, take_more}
use Rattle.std.proofs.lemmas.List.Folds.{list_any-append}
use Rattle.cn_base.specs.Cidr.{Cidr, same_prefix}
use Rattle.cn_base.specs.declared.ids.DeviceId.{DeviceId}
use Rattle.cn_net.specs.Changed.{reloaded, with_body}
use Rattle.cn_net.specs.Network.{Network, IsDevice}
use Rattle.cn_net.specs.declared.device.Body.{Body}
use Rattle.cn_net.specs.declared.device.Device.{Device}
use Rattle.cn_net.specs.declared.device.Own.{Own}
use Rattle.cn_net.proofs.Reloaded.{devices-with_body}

-- the prefixes of a device
abbrev pub prefixes_of : Device → List Cidr
prefixes_of d = map (λ o. o.prefix) d.body.own

-- keys are those of the first devices
abbrev pub AreOfFirst : List Device → ℕ → List Cidr → Type 0
AreOfFirst devices i keys =
    (q : Cidr)
    → list_any (same_prefix q) keys
    ≡ list_any (same_prefix q) (flat_map prefixes_of (take i devices))

-- and of one more, once its prefixes are added
of_more : (ds : List Device) (i : ℕ) (x : Device) (keys new : List Cidr) → i < length ds
    → AreOfFirst ds i keys
    → ((q : Cidr) → list_any (same_prefix q) new
    ≡ (list_any (same_prefix q) keys || list_any (same_prefix q) (prefixes_of (get_or ds i x))))
    → AreOfFirst ds (i + 1) new
of_more ds i x keys new within so put q =
    let y = get_or ds i x in
    let more : flat_map prefixes_of (take (i + 1) ds)
    ≡ flat_map prefixes_of (take i ds) ++ prefixes_of y =
    ap (flat_map prefixes_of) (take_more ds i x within)
    ∙ flat_map-append prefixes_of (take i ds) (y ∷ [])
    ∙ ap (λ zs. flat_map prefixes_of (take i ds) ++ zs) (append-nil (prefixes_of y)) in
    put q
    ∙ ap (λ b. b || list_any (same_prefix q) (prefixes_of y)) (so q)
    ∙ sym (list_any-append (same_prefix q) (flat_map prefixes_of (take i ds)) (prefixes_of y))
    ∙ ap (list_any (same_prefix q)) (sym more)

module _ (net : Network) (d : DeviceId) (body : Body) (is : IsDevice net d) where
  -- as many devices
  pub length-with_body : length (with_body net d body).devices ≡ length net.devices
  length-with_body =
      let x : Device = record { name = []; layer = 0; id = record { 0 = 0 }; body = body } in
      ap length (devices-with_body net d body x is)
      ∙ length-set net.devices d.0 (reloaded body (get_or net.devices d.0 x))

  -- what a device has in the place of d and elsewhere
  own_in : (i : ℕ) (x : Device) → i < length net.devices → x ≡ get_or net.devices i x
      → (get_or (with_body net d body).devices i x).body.own
      ≡ (if i == d.0 then body.own else x.body.own)
  own_in i x within here =
      let y = reloaded body (get_or net.devices d.0 x) in
      let same : get_or (with_body net d body).devices i x ≡ get_or (set net.devices d.0 y) i x =
      ap (λ ds. get_or ds i x) (devices-with_body net d body x is) in
      elim (cases_eq i d.0) [
        | inl e ↦
            ap (λ (z : Device). z.body.own)
            (same ∙ ap (λ k. get_or (set net.devices d.0 y) k x) e
            ∙ get_or-set_same net.devices d.0 y x is)
            ∙ ap (λ t. if t then body.own else x.body.own) (sym (eq-eqb i d.0 e))
        | inr ne ↦
            ap (λ (z : Device). z.body.own)
            (same ∙ get_or-set_other net.devices d.0 i y x ne ∙ sym here)
            ∙ ap (λ t. if t then body.own else x.body.own) (sym (ne_eqb i d.0 ne))
      ]

  -- one more device of the network with the new body
  pub AreOfFirst-more : (i : ℕ) (x : Device) (own : List Own) (keys new : List Cidr)
      → i < length net.devices → x ≡ get_or net.devices i x
      → own ≡ (if i == d.0 then body.own else x.body.own)
      → AreOfFirst (with_body net d body).devices i keys
      → ((q : Cidr) → list_any (same_prefix q) new
      ≡ (list_any (same_prefix q) keys || list_any (same_prefix q) (map (λ o. o.prefix) own)))
      → AreOfFirst (with_body net d body).devices (i + 1) new
  AreOfFirst-more i x own keys new within here has so put =
      let many = length-with_body in
      let listed : own ≡ (get_or (with_body net d body).devices i x).body.own =
      has ∙ sym (own_in i x within here) in
      of_more (with_body net d body).devices i x keys new (omega arith) so
      (λ q.
      let had = list_any (same_prefix q) keys in
      put q ∙ ap (λ os. had || list_any (same_prefix q) (map (λ o. o.prefix) os)) listed)
