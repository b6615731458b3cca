-- What is offered of a choice, in the words of the network.
use Rattle.std.proofs.Common.{◌≡◌, ◌↔◌, ℕ, Bool, true, false, List, Option, Some, None, refl, sym, ap, ◌∙◌, true≢false}
use Rattle.std.specs.Prelude.{is_some, option_map}
use Rattle.std.specs.FinMap as fin
use Rattle.std.proofs.lemmas.Bool.{false_from_ne_true}
use Rattle.std.proofs.lemmas.Option.{none-some, same_Some}
use Rattle.cn_lists.proofs.Finding.{None-from_is_some}
use Rattle.cn_base.specs.Cidr.{Cidr}
use Rattle.cn_base.specs.declared.ids.Asn.{Asn}
use Rattle.cn_base.specs.declared.ids.DeviceId.{DeviceId}
use Rattle.cn_base.specs.declared.ids.Origin.{Origin}
use Rattle.cn_base.specs.declared.route.Choice.{Choice}
use Rattle.cn_base.specs.declared.route.Route.{Route}
use Rattle.cn_base.specs.declared.route.Attributes.{Attributes}
use Rattle.cn_net.specs.Exchange.{offer}
use Rattle.cn_net.specs.Network.{Network}
use Rattle.cn_net.specs.Stable.{offer_of, route_of}
use Rattle.cn_net.proofs.Offering.{offer-gives}
use Rattle.cn_pack.specs.Packing.{is_same}
use Rattle.cn_pack.proofs.Same.{wants_is_equal}
use Rattle.cn_core.specs.Machine.{route_with}
use Rattle.cn_core.specs.declared.owed.Due.TheVariants.{Nothing, Announcement}
use Rattle.cn_core.specs.Owed.{advertised, attributes_of, offered_attributes, pair_of, unless_sent}
use Rattle.cn_core.specs.OwedLists.{attrs_with, due_of, shares}
use Rattle.cn_core.specs.State.{LocRib}
use Rattle.cn_core.proofs.Owes.{nothing_offered, unless_sent-other, unless_sent-same}

-- what is offered of a choice is what the network offers of its route
pub offered_some : (net : Network) (a b : DeviceId) (p : Cidr) (c : Choice)
    → offered_attributes net a b p (Some c) ≡ option_map attributes_of
    (offer net a b (route_of p c))
unfolding offered_attributes offer_of
offered_some net a b p c = refl

-- ---- what is owed for a prefix

-- nothing is offered of a choice that isn't offered
pub offered_unless : (net : Network) (a b : DeviceId) (p : Cidr) (c : Choice)
    → is_some (offer net a b (route_of p c)) ≡ false
    → offered_attributes net a b p (Some c) ≡ None
offered_unless net a b p c none =
    offered_some net a b p c
    ∙ ap (option_map attributes_of) (None-from_is_some (offer net a b (route_of p c)) none)

unsent : (f : Option Route) → is_some f ≡ true
    → Announcement ≡ due_of (unless_sent None (option_map attributes_of f))
unsent None some = absurd (true≢false (sym some))
unsent (Some r) some = refl

-- what is offered and wasn't sent is to be announced
pub due-unsent : (net : Network) (a b : DeviceId) (p : Cidr) (c : Choice)
    → is_some (offer net a b (route_of p c)) ≡ true
    → Announcement ≡ due_of (unless_sent None (offered_attributes net a b p (Some c)))
due-unsent net a b p c some =
    unsent (offer net a b (route_of p c)) some
    ∙ ap (λ o. due_of (unless_sent None o)) (sym (offered_some net a b p c))

-- what was sent isn't owed
pub due-same : (net : Network) (a b : DeviceId) (p : Cidr) (c : Choice) (g : Attributes)
    → offer net a b (route_of p c) ≡ Some (route_with p g)
    → Nothing ≡ due_of (unless_sent (Some g) (offered_attributes net a b p (Some c)))
due-same net a b p c g is =
    sym (ap due_of (unless_sent-same (Some g) (offered_attributes net a b p (Some c))
    (sym (offered_some net a b p c ∙ ap (option_map attributes_of) is))))

other : (net : Network) (a b : DeviceId) (p : Cidr) (c : Choice) (g : Attributes)
    (f : Option Route)
    → offer net a b (route_of p c) ≡ f → is_some f ≡ true
    → (offer net a b (route_of p c) ≡ Some (route_with p g) → ⊥)
    → Announcement ≡ due_of (unless_sent (Some g) (option_map attributes_of f))
other net a b p c g None e some not = absurd (true≢false (sym some))
other net a b p c g (Some x) e some not =
    let prefix : x.prefix ≡ p = (offer-gives net a b (route_of p c) x e).prefix in
    sym (ap due_of (unless_sent-other (Some g) (Some (attributes_of x)) (λ is.
    let same : g ≡ attributes_of x = same_Some g (attributes_of x) is in
    not (e ∙ (λ i. Some
    (record { prefix = prefix i; path = (sym same i).path; origin = (sym same i).origin }))))))

-- what is offered and isn't what was sent is to be announced
pub due-other : (net : Network) (a b : DeviceId) (p : Cidr) (c : Choice) (g : Attributes)
    → is_some (offer net a b (route_of p c)) ≡ true
    → (offer net a b (route_of p c) ≡ Some (route_with p g) → ⊥)
    → Announcement ≡ due_of (unless_sent (Some g) (offered_attributes net a b p (Some c)))
due-other net a b p c g some not =
    other net a b p c g (offer net a b (route_of p c)) refl some not
    ∙ ap (λ o. due_of (unless_sent (Some g) o)) (sym (offered_some net a b p c))

-- ---- what a message says of it

same_tests : (a b : Bool) → (a ≡ true → b ≡ true) → (b ≡ true → a ≡ true) → a ≡ b
same_tests true b f g = sym (f refl)
same_tests false true f g = g refl
same_tests false false f g = refl

-- what a test answers that holds exactly where the network offers the route with this path and this
-- ORIGIN
module _ (net : Network) (a b : DeviceId) (best : LocRib) (path : List Asn) (origin : Origin)
    (p : Cidr) where
  pub shares-held : (c : Choice) (t : Bool) → fin.get best p ≡ Some c
      → (t ≡ true) ↔
      (offer net a b (route_of p c) ≡ Some (route_with p (record { path = path; origin = origin })))
      → t ≡ shares net a b best path origin p
  shares-held c t held tells =
      by_offer (offer net a b (route_of p c)) refl
      ∙ sym (ap (λ o. is_same path origin
      (option_map pair_of (offered_attributes net a b p o))) held
      ∙ ap (λ o. is_same path origin (option_map pair_of o)) (offered_some net a b p c))
    where
      by_offer : (f : Option Route) → offer net a b (route_of p c) ≡ f
          → t ≡ is_same path origin (option_map pair_of (option_map attributes_of f))
      by_offer None e =
          false_from_ne_true t
          (λ h. none-some (route_with p (record { path = path; origin = origin }))
          (sym e ∙ tells.0 h))
      by_offer (Some x) e =
          let prefix : x.prefix ≡ p = (offer-gives net a b (route_of p c) x e).prefix in
          let same =
          wants_is_equal path origin (record { prefix = p; wanted = Some (x.path, x.origin) }) in
          same_tests t (is_same path origin (Some (x.path, x.origin)))
          (λ h.
          let is : x ≡ route_with p (record { path = path; origin = origin }) =
          same_Some x _ (sym e ∙ tells.0 h) in
          same.1 (λ i. Some ((is i).path, (is i).origin)))
          (λ h.
          let is : (x.path, x.origin) ≡ (path, origin) =
          same_Some (x.path, x.origin) (path, origin) (same.0 h) in
          tells.1 (e ∙ (λ i. Some
          (record { prefix = prefix i; path = (is i).0; origin = (is i).1 }))))

  -- nothing is offered where nothing is held
  pub shares-none : fin.get best p ≡ None → false ≡ shares net a b best path origin p
  shares-none none =
      sym (ap (λ o. is_same path origin (option_map pair_of (offered_attributes net a b p o))) none
      ∙ ap (λ o. is_same path origin (option_map pair_of o)) (nothing_offered net a b p))

-- the path attributes of what is offered
module _ (net : Network) (a b : DeviceId) (best : LocRib) (p : Cidr) (next_hop : ℕ) where
  pub attrs-held : (c : Choice) (f : Option Route) → fin.get best p ≡ Some c
      → f ≡ offer net a b (route_of p c)
      → option_map (attrs_with next_hop) (option_map attributes_of f)
      ≡ option_map (attrs_with next_hop) (advertised net a b best p)
  attrs-held c f held is =
      ap (λ o. option_map (attrs_with next_hop) (option_map attributes_of o)) is
      ∙ ap (option_map (attrs_with next_hop)) (sym (offered_some net a b p c))
      ∙ ap (λ o. option_map (attrs_with next_hop) (offered_attributes net a b p o)) (sym held)

  pub attrs-none : fin.get best p ≡ None
      → None ≡ option_map (attrs_with next_hop) (advertised net a b best p)
  attrs-none none =
      sym (ap (λ o. option_map (attrs_with next_hop) (offered_attributes net a b p o)) none
      ∙ ap (option_map (attrs_with next_hop)) (nothing_offered net a b p))
