-- Where a device can't use anything of what another one holds, and so decides as before.
use Rattle.std.proofs.Common.{◌≡◌, ◌||◌, ◌==◌, ◌++◌, true, false, List, [], ◌∷◌, length, is_some, Option, Some, None, inl, inr, refl, sym, ap, subst, ◌∙◌, arith}
use Rattle.std.specs.Prelude.{All}
use Rattle.std.specs.List.{fold}
use Rattle.std.proofs.lemmas.Bool.{cases_Bool, cases_eq, cond-false, false≢true}
use Rattle.std.proofs.lemmas.Option.{none-some}
use Rattle.cn_base.specs.Cidr.{Cidr}
use Rattle.cn_base.specs.Paths.{holds_asn}
use Rattle.cn_base.specs.declared.ids.Asn.{Asn}
use Rattle.cn_base.specs.declared.ids.DeviceId.{DeviceId}
use Rattle.cn_base.specs.declared.route.Choice.{Choice}
use Rattle.cn_base.specs.declared.route.Route.{Route}
use Rattle.cn_net.specs.Candidates.{IsBest, best_of, better_of, choice_from, own_choice, usable}
use Rattle.cn_net.specs.Exchange.{accept}
use Rattle.cn_net.specs.Network.{Network, asn_of, device_ids, is_linked, own_origin}
use Rattle.cn_net.specs.Stable.{offer_of, offers_to, route_of}
use Rattle.cn_net.proofs.Chains.{linked_back}
use Rattle.cn_net.proofs.Offering.{accept-new, offer-gives, offer_of-gives}
use Rattle.cn_net.proofs.OneState.{source_of}
use Rattle.cn_net.proofs.Restricted.{up_linked}
use Rattle.cn_net.proofs.Rounds.{decided_best}
use Rattle.cn_record.specs.Rounds.{begins_with, is_deaf}
use Rattle.cn_record.specs.Tables.{decided, candidate_from, held_of, turn}
use Rattle.cn_record.proofs.Converging.{empty_at, turn_elsewhere}

-- ---- what can't be used

-- nothing, or a route that isn't accepted
unusable : (net : Network) (d a : DeviceId) (came : Option Route)
    → ((r : Route) → came ≡ Some r → accept net d a r ≡ false) → usable net d a came ≡ None
unfolding usable
unusable net d a None refused = refl
unusable net d a (Some r) refused =
    cond-false (accept net d a r) (Some (choice_from a r)) None (refused r refl)

-- a number in the path stands in a longer path that ends with it
holds_behind : (more path : List Asn) (n : Asn) → holds_asn path n ≡ true
    → holds_asn (more ++ path) n ≡ true
holds_behind [] path n h = h
holds_behind (x ∷ more) path n h =
    elim (x.0 == n.0) as (λ b. (b || holds_asn (more ++ path) n) ≡ true) [
      | true ↦ refl
      | false ↦ holds_behind more path n h
    ]

-- the number with which a path begins stands in it
pub holds_first : (path : List Asn) (n : Asn) → begins_with path n ≡ true → holds_asn path n ≡ true
holds_first [] n h = absurd (false≢true h)
holds_first (x ∷ path) n h = ap (λ b. b || holds_asn path n) h

module _ (net : Network) (p : Cidr) (table : List (Option Choice)) (d a : DeviceId) where
  -- a device that isn't linked offers nothing
  pub candidate_from-unlinked : is_linked net d a ≡ false → candidate_from net p table d a ≡ None
  candidate_from-unlinked f =
      unusable net d a (offers_to net (held_of table) d p a) (λ r e.
      let h = offer_of-gives net a d p (held_of table a p) r e in
      let u = up_linked net a d (offer-gives net a d (route_of p h.source) r h.offered).up in
      absurd (false≢true (sym f ∙ linked_back net a d (ap is_some u.1))))

  -- an offer ends with the path, in front of which the receiver's own number stands
  offer_refused : (o : Option Choice) (r : Route) → is_deaf net d o ≡ true
      → offer_of net a d p o ≡ Some r → accept net d a r ≡ false
  offer_refused o r deaf e =
      let h = offer_of-gives net a d p o r e in
      let given = offer-gives net a d (route_of p h.source) r h.offered in
      let begins : begins_with h.source.path (asn_of net d) ≡ true =
      sym (ap (is_deaf net d) h.holds) ∙ deaf in
      let holds : holds_asn r.path (asn_of net d) ≡ true =
      ap (λ (q : List Asn). holds_asn q (asn_of net d)) given.path
      ∙ holds_behind (asn_of net a ∷ given.more) h.source.path (asn_of net d)
      (holds_first h.source.path (asn_of net d) begins) in
      elim (cases_Bool (accept net d a r)) [
        | inl t ↦ absurd (false≢true (sym (accept-new net a d r t) ∙ holds))
        | inr f ↦ f
      ]

  -- nothing that a neighbour offers can be used where the device is deaf to what it holds
  pub candidate_from-deaf : is_deaf net d (held_of table a p) ≡ true
      → candidate_from net p table d a ≡ None
  candidate_from-deaf deaf =
      unusable net d a (offers_to net (held_of table) d p a) (λ r e.
      offer_refused (held_of table a p) r deaf e)

-- ---- who decides as before

-- a device that hears the same decides the same
decided_alike : (net : Network) (p : Cidr) (x y : List (Option Choice)) (d : DeviceId)
    → ((a : DeviceId) → candidate_from net p x d a ≡ candidate_from net p y d a)
    → decided net p x d ≡ decided net p y d
unfolding best_of
decided_alike net p x y d same =
    ap (λ (h : DeviceId → Option Choice).
    fold (λ best a. better_of net best (h a)) (own_choice net d p) (device_ids net))
    (λ i a. same a i)

-- after a turn of d, a device that hears the same of d decides as before
pub decided_apart : (net : Network) (p : Cidr) (table : List (Option Choice)) (d b : DeviceId)
    → candidate_from net p (turn net p table d) b d ≡ candidate_from net p table b d
    → decided net p (turn net p table d) b ≡ decided net p table b
decided_apart net p table d b same =
    decided_alike net p (turn net p table d) table b (λ a. elim (cases_eq a.0 d.0) [
      | inl q ↦
          let is : d ≡ a = λ i. record { 0 = sym q i } in
          subst (λ z. candidate_from net p (turn net p table d) b z
          ≡ candidate_from net p table b z) is same
      | inr other ↦
          ap (λ (o : Option Choice). usable net b a (offer_of net a b p o))
          (turn_elsewhere net p table d a other)
    ])

-- ---- the first round

none_best : (net : Network) (p : Cidr) (table : List (Option Choice)) (d : DeviceId)
    → own_origin net d p ≡ None → length table ≡ length net.devices
    → All (λ o. o ≡ None) table
    → (o : Option Choice) → IsBest net (offers_to net (held_of table) d p) d p o → o ≡ None
none_best net p table d own size empty None h = refl
none_best net p table d own size empty (Some c) (inl u, h) =
    absurd (none-some c.origin (sym own ∙ u.own))
none_best net p table d own size empty (Some c) (inr u, h) =
    let s = source_of net (held_of table) d p c u in
    absurd (none-some s.source
    (sym (empty_at table empty u.sender p (omega (arith, u.is_device))) ∙ s.holds))

-- over an empty table a device that doesn't originate the prefix decides nothing
pub decided_first : (net : Network) (p : Cidr) (table : List (Option Choice)) (d : DeviceId)
    → own_origin net d p ≡ None → length table ≡ length net.devices
    → All (λ o. o ≡ None) table → decided net p table d ≡ None
decided_first net p table d own size empty =
    none_best net p table d own size empty (decided net p table d)
    (decided_best net (held_of table) d p)
