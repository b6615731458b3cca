-- Who originates which prefix.
use Rattle.std.proofs.Common.{◌≡◌, ℕ, ◌+◌, ◌<◌, List, ◌++◌, map, length, Some, is_some, find, sym, ap, subst, ◌∙◌, inl, inr, arith, ◌⊎◌}
use Rattle.std.proofs.lemmas.List.Elements.{Contains-append_left, Contains-append_right, Contains-append_cases}
use Rattle.std.specs.List.{Contains}
use Rattle.std.specs.Prelude.{◌↔◌, IsSome}
use Rattle.std.specs.Option.{option_and_then}
use Rattle.cn_base.specs.Cidr.{Cidr, same_prefix}
use Rattle.cn_base.specs.declared.ids.DeviceId.{DeviceId}
use Rattle.cn_net.specs.declared.device.Body.{Body}
use Rattle.cn_net.specs.declared.device.Device.{Device}
use Rattle.cn_net.specs.declared.device.Own.{Own}
use Rattle.cn_net.specs.Certificate.{Originates}
use Rattle.cn_net.specs.Network.{Network, device_of, own_of, own_origin}
use Rattle.cn_cert.specs.Steps.{HasMember, member}
use Rattle.cn_cert.specs.declared.members.Member.{Member}
use Rattle.cn_cert.proofs.Lists.{prefix_is, prefix_itself, map_has, map_from, find_some, find_has, map_some, some_map}

-- a device's own members are those of the prefixes that it originates
own_are : (body : Body) (device : DeviceId) (p : Cidr) (d : DeviceId)
    → HasMember (map (λ (o : Own). member o.prefix device) body.own) p d ↔
    ((d ≡ device) × IsSome (own_of body p))
own_are body device p d = (from, to)
  where
    from : HasMember (map (λ (o : Own). member o.prefix device) body.own) p d
        → (d ≡ device) × IsSome (own_of body p)
    from h =
        let s = map_from (λ (o : Own). member o.prefix device) body.own (member p d) h in
        let o = s.0 in (
          sym (ap (λ m. m.device) s.2),
          map_some (λ (o : Own). o.origin) (find (λ (o : Own). same_prefix o.prefix p) body.own)
              (find_some (λ (o : Own). same_prefix o.prefix p) body.own o s.1
              (prefix_itself o.prefix p (ap (λ m. m.key) s.2))),
        )

    to : (d ≡ device) × IsSome (own_of body p)
        → HasMember (map (λ (o : Own). member o.prefix device) body.own) p d
    to h =
        let f =
        find_has (λ (o : Own). same_prefix o.prefix p) body.own
        (some_map (λ (o : Own). o.origin) (find (λ (o : Own). same_prefix o.prefix p) body.own)
        h.1) in
        let o = f.0 in
        let e = prefix_is o.prefix p f.2 in
        map_has (λ (o : Own). member o.prefix device) body.own o (member p d) f.1
        (ap (λ z. member z device) e ∙ ap (member p) (sym h.0))

-- the members after a device was added
pub device_added : (net : Network) (device : DeviceId) (found : Device) (xs ys : List (Member Cidr))
    → Some found ≡ device_of net device
    → ys ≡ xs ++ map (λ (o : Own). member o.prefix device) found.body.own
    → (p : Cidr) (d : DeviceId)
    → HasMember ys p d ↔ (HasMember xs p d ⊎ ((d ≡ device) × IsSome (own_origin net device p)))
device_added net device found xs ys is e p d = (from, to)
  where
    own : own_origin net device p ≡ own_of found.body p
    own = ap (option_and_then (λ x. own_of x.body p)) (sym is)

    from : HasMember ys p d → HasMember xs p d ⊎ ((d ≡ device) × IsSome (own_origin net device p))
    from h =
        elim (Contains-append_cases xs (map (λ (o : Own). member o.prefix device) found.body.own)
        (member p d) (subst (λ z. Contains z (member p d)) e h)) [
          | inl r ↦ inl r
          | inr r ↦ let s = (own_are found.body device p d).0 r in inr (s.0, ap is_some own ∙ s.1)
        ]

    to : HasMember xs p d ⊎ ((d ≡ device) × IsSome (own_origin net device p)) → HasMember ys p d
    to h = subst (λ z. Contains z (member p d)) (sym e) (elim h [
      | inl r ↦
          Contains-append_left xs (map (λ (o : Own). member o.prefix device) found.body.own)
          (member p d) r
      | inr r ↦
          Contains-append_right xs (map (λ (o : Own). member o.prefix device) found.body.own)
          (member p d) ((own_are found.body device p d).1 (r.0, sym (ap is_some own) ∙ r.1))
    ])

below_or : (i n : ℕ) → i < n + 1 → (i < n) ⊎ (i ≡ n)
below_or i n h = grind arith

number_is : (d : DeviceId) (n : ℕ) → d.0 ≡ n → d ≡ record { 0 = n }
number_is d n e = λ i. record { 0 = e i }

-- one turn of the loop over all numbers
pub devices_more : (net : Network) (n : ℕ) (xs ys : List (Member Cidr))
    → ((p : Cidr) (d : DeviceId) → HasMember xs p d ↔ ((d.0 < n) × IsSome (own_origin net d p)))
    → ((p : Cidr) (d : DeviceId)
    → HasMember ys p d ↔
    (HasMember xs p d ⊎ ((d ≡ record { 0 = n }) × IsSome (own_origin net (record { 0 = n }) p))))
    → (p : Cidr) (d : DeviceId) → HasMember ys p d ↔ ((d.0 < n + 1) × IsSome (own_origin net d p))
devices_more net n xs ys old new p d = (from, to)
  where
    from : HasMember ys p d → (d.0 < n + 1) × IsSome (own_origin net d p)
    from h = elim ((new p d).0 h) [
      | inl r ↦ let s = (old p d).0 r in let lt : d.0 < n = s.0 in (omega arith, s.1)
      | inr r ↦
          let e : d.0 ≡ n = ap (λ z. z.0) r.0 in
          (omega arith, subst (λ z. IsSome (own_origin net z p)) (sym r.0) r.1)
    ]

    to : (d.0 < n + 1) × IsSome (own_origin net d p) → HasMember ys p d
    to h = (new p d).1 (elim (below_or d.0 n h.0) [
      | inl r ↦ inl ((old p d).1 (r, h.1))
      | inr r ↦ let e = number_is d n r in inr (e, subst (λ z. IsSome (own_origin net z p)) e h.1)
    ])

pub devices_all : (net : Network) (n : ℕ) (xs : List (Member Cidr)) → n ≡ length net.devices
    → ((p : Cidr) (d : DeviceId) → HasMember xs p d ↔ ((d.0 < n) × IsSome (own_origin net d p)))
    → (p : Cidr) (d : DeviceId) → HasMember xs p d ↔ Originates net d p
devices_all net n xs e h p d = (
  λ m. let s = (h p d).0 m in (subst (λ z. d.0 < z) e s.0, s.1),
  λ o. (h p d).1 (subst (λ z. d.0 < z) (sym e) o.0, o.1),
)
