-- What one more offer adds to a decision, and the decision of a device that looks at its neighbours
-- alone.
use Rattle.std.proofs.Common.{◌≡◌, ℕ, ◌+◌, ◌<◌, ◌≤◌, Bool, true, false, not, min, cond, List, [], length, get_or, is_some, Option, Some, None, option_map, refl, sym, ap, ◌∙◌, arith}
use Rattle.std.specs.List.{fold}
use Rattle.std.specs.Ordering.{bool_cmp, is_lt, nat_cmp, ordering_then}
use Rattle.std.specs.declared.cmp.Ordering.{Ordering}
use Rattle.std.proofs.lemmas.Bool.{cond-false, not-true}
use Rattle.std.proofs.lemmas.Bool.Decides.{nat_tests}
use Rattle.std.proofs.lemmas.List.{get_or_default}
use Rattle.cn_base.specs.Cidr.{Cidr}
use Rattle.cn_base.specs.Paths.{holds_asn}
use Rattle.cn_base.specs.Rank.{origin_code, ranks_before}
use Rattle.cn_base.specs.declared.ids.DeviceId.{DeviceId}
use Rattle.cn_base.specs.declared.ids.Origin.{Origin}
use Rattle.cn_base.specs.declared.rank.Rank.{Rank}
use Rattle.cn_base.specs.declared.route.Choice.{Choice}
use Rattle.cn_base.specs.declared.route.Route.{Route}
use Rattle.cn_decide.specs.Decide.{better, outranks_by, with_rank}
use Rattle.cn_decide.specs.declared.Ranked.{Ranked}
use Rattle.cn_decide.proofs.Steps.{better_by_none}
use Rattle.cn_net.specs.Candidates.{choice_from, rank_of, usable}
use Rattle.cn_net.specs.Exchange.{accept, offer}
use Rattle.cn_net.specs.Network.{Network, asn_of, is_linked, own_origin, peers_of, router_of}
use Rattle.cn_net.specs.Stable.{offer_of, offers_to, route_of}
use Rattle.cn_net.proofs.Boundary.{refused_as_loop}
use Rattle.cn_net.proofs.Chains.{linked_back}
use Rattle.cn_net.proofs.Deciding as deciding
use Rattle.cn_net.proofs.Offering.{offer-gives, offer-longer, offer_of-gives}
use Rattle.cn_net.proofs.Restricted.{up_linked}
use Rattle.cn_record.specs.Tables.{decided, candidate_from, ranked_candidate, held_of, no_offer_outranks, shortest_rank}

-- ---- nothing more

-- a choice that may be there, beside its rank
abbrev beside_rank : Network → Option Choice → Option (Ranked Choice)
beside_rank net o = option_map (with_rank (rank_of net)) o

adds_nothing : (net : Network) (best : Option (Ranked Choice)) (next : Option Choice)
    → next ≡ None → best ≡ better best (beside_rank net next)
adds_nothing net best next e =
    sym (ap (λ o. better best (beside_rank net o)) e ∙ better_by_none (λ r. r.rank) best)

-- ---- offers that can't win

longer_last : (b : Bool) (m n l : ℕ) (o : Ordering) → m ≤ n
    → is_lt (ordering_then (bool_cmp true b) (ordering_then (nat_cmp m l) o)) ≡ false
    → is_lt (ordering_then (bool_cmp true b) (ordering_then (nat_cmp n l) o)) ≡ false
longer_last true m n l o le h = grind (arith, nat_tests)
longer_last false m n l o le h = refl

-- a route of at least this length, with the same ORIGIN
never_before : (net : Network) (best : Rank) (c : Choice) (a : DeviceId) (r : Route)
    → not (ranks_before (shortest_rank net a c) best) ≡ true → length c.path < length r.path
    → r.origin ≡ c.origin → ranks_before (rank_of net (choice_from a r)) best ≡ false
never_before net best c a r behind longer origin =
    let last : Origin → Ordering = λ q. ordering_then
    (nat_cmp (origin_code q) (origin_code best.origin))
    (nat_cmp (router_of net a).0 best.sender.0) in
    let first : Origin → Bool = λ q. is_lt (ordering_then (bool_cmp true best.learnt)
    (ordering_then (nat_cmp (min (length c.path + 1) 255) best.length) (last q))) in
    longer_last best.learnt (min (length c.path + 1) 255) (length r.path) best.length
    (last r.origin) (omega arith) (ap first origin ∙ not-true _ behind)

module _ (net : Network) (p : Cidr) (table : List (Option Choice)) (d a : DeviceId) where
  -- a device that holds nothing offers nothing
  candidate_from-held_none : held_of table a p ≡ None → candidate_from net p table d a ≡ None
  unfolding offer_of
  candidate_from-held_none e =
      ap (usable net d a) (ap (offer_of net a d p) e) ∙ deciding.usable-none net d a

  -- where the neighbour holds nothing
  pub better-held_none : (best : Option (Ranked Choice)) (x : Option Choice) → a.0 < length table
      → x ≡ get_or table a.0 x → x ≡ None → best ≡ better best (ranked_candidate net p table d a)
  better-held_none best x within at none =
      adds_nothing net best _
      (candidate_from-held_none (get_or_default table a.0 None x within ∙ sym at ∙ none))

  module _ (best : Option (Ranked Choice)) (x : Option Choice) (c : Choice)
      (within : a.0 < length table) (at : x ≡ get_or table a.0 x) (is : x ≡ Some c) where
    holds : held_of table a p ≡ Some c
    holds = get_or_default table a.0 None x within ∙ sym at ∙ is

    offer_is : offers_to net (held_of table) d p a ≡ offer net a d (route_of p c)
    unfolding offer_of
    offer_is = ap (offer_of net a d p) holds

    -- where this is what it offers
    pub better-offered : (o : Option Route) → o ≡ offer net a d (route_of p c)
        → better best (beside_rank net (usable net d a o))
        ≡ better best (ranked_candidate net p table d a)
    better-offered o e =
        ap (λ z. better best (beside_rank net (usable net d a z))) (e ∙ sym offer_is)

    -- where it offers nothing
    pub better-not_offered : None ≡ offer net a d (route_of p c)
        → best ≡ better best (ranked_candidate net p table d a)
    better-not_offered e =
        adds_nothing net best _
        (ap (usable net d a) (offer_is ∙ sym e) ∙ deciding.usable-none net d a)

    looped : (o : Option Route) → holds_asn c.path (asn_of net d) ≡ true
        → offer net a d (route_of p c) ≡ o → usable net d a o ≡ None
    unfolding usable
    looped None h e = refl
    looped (Some r) h e =
        cond-false (accept net d a r) (Some (choice_from a r)) None
        (refused_as_loop net a d d p c r e h refl)

    -- where what it holds went through the device's AS number
    pub better-loop : holds_asn c.path (asn_of net d) ≡ true
        → best ≡ better best (ranked_candidate net p table d a)
    better-loop h =
        adds_nothing net best _ (ap (usable net d a) offer_is ∙ looped _ h refl)

  -- an offer that can't win changes nothing
  better-behind : (b : Ranked Choice) (c : Choice) (o : Option Route)
      → not (ranks_before (shortest_rank net a c) b.rank) ≡ true
      → offer net a d (route_of p c) ≡ o
      → better (Some b) (beside_rank net (usable net d a o)) ≡ Some b
  unfolding usable outranks_by
  better-behind b c None h e = refl
  better-behind b c (Some r) h e =
      let given = offer-gives net a d (route_of p c) r e in
      let longer = offer-longer net a d (route_of p c) r given in
      let next = choice_from a r in
      elim (accept net d a r) as
      (λ t. better (Some b) (beside_rank net (cond t (Some next) None)) ≡ Some b) [
        | true ↦
            cond-false (ranks_before (rank_of net next) b.rank)
            (Some (with_rank (rank_of net) next)) (Some b)
            (never_before net b.rank c a r h longer given.origin)
        | false ↦ refl
      ]

  -- where no offer of what it holds outranks the best so far
  pub better-no_offer_outranks : (best : Option (Ranked Choice)) (x : Option Choice) (c : Choice)
      → a.0 < length table → x ≡ get_or table a.0 x → x ≡ Some c
      → no_offer_outranks net best a c ≡ true
      → best ≡ better best (ranked_candidate net p table d a)
  better-no_offer_outranks None x c within at is h = absurd (let never : false ≡ true = h in cc)
  better-no_offer_outranks (Some b) x c within at is h =
      sym (ap (λ z. better (Some b) (beside_rank net (usable net d a z)))
      (offer_is (Some b) x c within at is)
      ∙ better-behind b c (offer net a d (route_of p c)) h refl)

-- ---- a device that looks at its neighbours alone

linked_by_offer : (net : Network) (held : Option Choice) (a d : DeviceId) (p : Cidr) (r : Route)
    → offer_of net a d p held ≡ Some r → is_linked net d a ≡ true
linked_by_offer net held a d p r e =
    let h = offer_of-gives net a d p held r e in
    let u = up_linked net a d (offer-gives net a d (route_of p h.source) r h.offered).up in
    linked_back net a d (ap is_some u.1)

module _ (net : Network) (p : Cidr) (table : List (Option Choice)) (d : DeviceId) where
  unlinked : (a : DeviceId) (o : Option Route) → is_linked net d a ≡ false
      → offers_to net (held_of table) d p a ≡ o → o ≡ None
  unlinked a None f e = refl
  unlinked a (Some r) f e =
      absurd (let never : true ≡ false =
      sym (linked_by_offer net (held_of table a p) a d p r e) ∙ f in cc)

  -- an own route is decided
  pub own_decided : (o : Origin) → Some o ≡ own_origin net d p
      → Some (record { from = None; path = []; origin = o }) ≡ decided net p table d
  own_decided o e = deciding.own_decided net (offers_to net (held_of table) d p) d p o e

  -- else the best of what the neighbours offer is
  pub learnt_decided : None ≡ own_origin net d p → (best : Option (Ranked Choice))
      → best ≡ fold (λ x a. better x (ranked_candidate net p table d a)) None (peers_of net d)
      → option_map (λ (r : Ranked Choice). r.item) best ≡ decided net p table d
  learnt_decided e best is =
      deciding.learnt_decided net (offers_to net (held_of table) d p) d p
      (λ a f. unlinked a _ f refl) e best is
