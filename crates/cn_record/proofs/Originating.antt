-- How prefixes are gathered with the devices that originate them or have a row for them.
use Rattle.std.proofs.Common.{◌≡◌, ℕ, ◌+◌, ◌<◌, ◌++◌, true, List, length, map, is_some, find, Some, refl, sym, ap, subst, ◌∙◌, arith}
use Rattle.std.specs.Prelude.{Contains, IsSome}
use Rattle.std.specs.List.{filter}
use Rattle.std.specs.List.Sorted.{IsPermutation}
use Rattle.std.specs.Option.{option_and_then}
use Rattle.std.specs.Ordering.{is_eq}
use Rattle.std.proofs.lemmas.Bool.{and_parts}
use Rattle.std.proofs.lemmas.List.Elements.{Contains-append_left, Contains-append_right}
use Rattle.std.proofs.lemmas.List.Sorted.{Contains-permutation}
use Rattle.cn_base.specs.Cidr.{Cidr, same_prefix}
use Rattle.cn_base.specs.declared.ids.DeviceId.{DeviceId}
use Rattle.cn_lists.proofs.Finding.{Contains-filter, Contains-from_is_some_find, Contains-map, is_some-option_map}
use Rattle.cn_net.specs.Network.{Network, device_of, own_of, own_origin}
use Rattle.cn_net.specs.declared.device.Device.{Device}
use Rattle.cn_net.specs.declared.device.Own.{Own}
use Rattle.cn_net.proofs.Members.{same_number}
use Rattle.cn_record.specs.Places.{AddsOwn, HasOriginators, HasRowDevices, at_device, is_at, place_of}
use Rattle.cn_record.specs.Rows.{is_row}
use Rattle.cn_record.specs.declared.places.PrefixDevice.{PrefixDevice}
use Rattle.cn_record.specs.declared.saved.Row.{Row}
use Rattle.cn_record.proofs.Gathering.{same_is}
use Rattle.cn_record.proofs.Lookups.{ties_itself}
use Rattle.cn_record.proofs.Numbers.{one_more}

-- ---- who originates

module _ (net : Network) (d : DeviceId) where
  pub own_places : (found : Device) (old new : List PrefixDevice) → Some found ≡ device_of net d
      → new ≡ old ++ map (λ o. at_device d o.prefix) found.body.own → AddsOwn net d old new
  own_places found old new is e =
      let more = map (λ (o : Own). at_device d o.prefix) found.body.own in
      subst (AddsOwn net d old) (sym e) (record {
        kept = λ x h. Contains-append_left old more x h;
        added = λ p some.
            let own : own_origin net d p ≡ own_of found.body p =
            ap (option_and_then (λ (x : Device). own_of x.body p)) (sym is) in
            let there =
            Contains-from_is_some_find (λ (o : Own). same_prefix o.prefix p) found.body.own
            (sym (is_some-option_map (λ (o : Own). o.origin)
            (find (λ (o : Own). same_prefix o.prefix p) found.body.own))
            ∙ sym (ap is_some own) ∙ some) in
            Contains-append_right old more (at_device d p)
            (Contains-map (λ (o : Own). at_device d o.prefix) found.body.own there.0 (at_device d p)
            there.1 (ap (at_device d) (same_is there.0.prefix p there.2)));
      })

-- the devices below n have their prefixes in the list
abbrev pub HasOriginatorsBelow : Network → ℕ → List PrefixDevice → Type 0
HasOriginatorsBelow net n list =
    (d : DeviceId) → d.0 < n → (p : Cidr) → IsSome (own_origin net d p)
    → Contains list (at_device d p)

pub originators_more : (net : Network) (n : ℕ) (old new : List PrefixDevice)
    → HasOriginatorsBelow net n old → AddsOwn net (record { 0 = n }) old new
    → HasOriginatorsBelow net (n + 1) new
originators_more net n old new so adds =
    one_more (λ d. (p : Cidr) → IsSome (own_origin net d p) → Contains new (at_device d p)) n
    (λ d lt p some. adds.kept (at_device d p) (so d lt p some)) adds.added

pub originators_sorted : (net : Network) (n : ℕ) (xs ys : List PrefixDevice)
    → n ≡ length net.devices → IsPermutation xs ys → HasOriginatorsBelow net n xs
    → HasOriginators net ys
originators_sorted net n xs ys all moves so d p is some =
    Contains-permutation xs ys (at_device d p) moves (so d (omega arith) p some)

-- ---- of which devices there is a row

row_place : (d : DeviceId) (p : Cidr) (r : Row) → is_row d p r ≡ true → place_of r ≡ at_device d p
row_place d p r t =
    let both = and_parts _ _ t in
    let device = same_number r.device d both.0 in
    let prefix = same_is r.prefix p both.1 in
    λ i. record { prefix = prefix i; device = device i }

pub rows_sorted : (rows : List Row) (ys : List PrefixDevice) → IsPermutation (map place_of rows) ys
    → HasRowDevices rows ys
rows_sorted rows ys moves d p some =
    let there =
    Contains-from_is_some_find (is_row d p) rows
    (sym (is_some-option_map (λ (r : Row). r.choice) (find (is_row d p) rows)) ∙ some) in
    Contains-permutation (map place_of rows) ys (at_device d p) moves
    (Contains-map place_of rows there.0 (at_device d p) there.1 (row_place d p there.0 there.2))

-- ---- the places of one prefix

-- a place of the prefix is one of those that are cut out
pub Contains-part : (list part : List PrefixDevice) (d : DeviceId) (p : Cidr)
    → part ≡ filter (is_at p) list → Contains list (at_device d p) → Contains part (at_device d p)
Contains-part list part d p cut h =
    let here : is_at p (at_device d p) ≡ true = ap is_eq (ties_itself p) in
    subst (λ (ps : List PrefixDevice). Contains ps (at_device d p)) (sym cut)
    (Contains-filter (is_at p) list (at_device d p) h here)

-- and its device one of their devices
pub Contains-of_prefix : (list part : List PrefixDevice) (d : DeviceId) (p : Cidr)
    → part ≡ filter (is_at p) list → Contains list (at_device d p)
    → Contains (map (λ x. x.device) part) d
Contains-of_prefix list part d p cut h =
    Contains-map (λ (x : PrefixDevice). x.device) part (at_device d p) d
    (Contains-part list part d p cut h) refl
