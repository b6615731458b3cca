-- Nothing that the emulated devices say changes what an island holds of its own prefixes, and an
-- island passes on nothing else.
use Rattle.std.proofs.Common.{◌≡◌, Bool, true, false, not, cond, Option, Some, None, is_some, inl, inr, refl, sym, ap, subst, ◌∙◌, arith}
use Rattle.std.proofs.lemmas.Option.{none-some}
use Rattle.std.proofs.lemmas.Bool.{cases_Bool, eqb-true, eq-eqb, false_from_ne_true, false≢true, true≢false, not-true, not-false, not_from_false, cond-true, cond-false}
use Rattle.cn_base.specs.Cidr.{Cidr}
use Rattle.cn_base.specs.Paths.{holds_asn}
use Rattle.cn_base.specs.declared.ids.DeviceId.{DeviceId}
use Rattle.cn_base.specs.declared.ids.Origin.{Origin}
use Rattle.cn_base.specs.declared.route.Choice.{Choice}
use Rattle.cn_base.specs.declared.route.Route.{Route}
use Rattle.cn_net.specs.Boundary.{NoForeignOffer, OutsideAsRecorded}
use Rattle.cn_net.specs.Candidates.{IsCandidate, IsBest}
use Rattle.cn_net.specs.Certificate.{IsCertified, IsEmulatedFacing, IsOutsideFacing}
use Rattle.cn_net.specs.Exchange.{offer, accept}
use Rattle.cn_net.specs.Islands.{IsIslandLabelling}
use Rattle.cn_net.specs.Network.{Network, HasDistinctIds, IsDevice, IsLinked, asn_of, own_origin, same_device}
use Rattle.cn_net.specs.OneState.{IsStableFor}
use Rattle.cn_net.specs.Records.{AreSound, IsOfIsland}
use Rattle.cn_net.specs.Restriction.{restricted}
use Rattle.cn_net.specs.Stable.{Assignment, IsStable, offers_to, route_of}
use Rattle.cn_net.proofs.Chains.{linked_back}
use Rattle.cn_net.proofs.Crossing.{crossing, offer_holds}
use Rattle.cn_net.proofs.Offering.{IsOffered, accept-new, offer-gives, offer_of-back, offer_of-gives}
use Rattle.cn_net.proofs.OneState.{one_state_for, source_of}
use Rattle.cn_net.proofs.Restricted.{length_restricted, own_origin_restricted, distinct_restricted, link_between_kept, link_between_restricted, offer_kept, accept_restricted, up_linked, outranks_restricted}
use Rattle.cn_net.proofs.States.{has_one_state}

-- ---- offers and links

linked_by_offer : (net : Network) (a b : DeviceId) (r r' : Route) → IsOffered net a b r r'
    → IsLinked net a b
linked_by_offer net a b r r' o = let u = up_linked net a b o.up in ap is_some u.1

-- what a device offers of what it holds goes over a link
linked_by_held : (net : Network) (held : Assignment) (a b : DeviceId) (p : Cidr) (r : Route)
    → offers_to net held b p a ≡ Some r → IsLinked net a b
linked_by_held net held a b p r e =
    let h = offer_of-gives net a b p (held a p) r e in
    linked_by_offer net a b (route_of p h.source) r
    (offer-gives net a b (route_of p h.source) r h.offered)

-- a device refuses what went through a device of its own AS number
pub refused_as_loop : (net : Network) (a b x : DeviceId) (p : Cidr) (c : Choice) (r : Route)
    → offer net a b (route_of p c) ≡ Some r → holds_asn c.path (asn_of net x) ≡ true
    → asn_of net x ≡ asn_of net b → accept net b a r ≡ false
refused_as_loop net a b x p c r e h same =
    let o = offer-gives net a b (route_of p c) r e in
    let held = offer_holds net a b (route_of p c) r (asn_of net x) o h in
    false_from_ne_true (accept net b a r) (λ t.
    false≢true (sym (accept-new net a b r t) ∙ subst (λ z. holds_asn r.path z ≡ true) same held))

-- ---- islands

is_labelled : Option DeviceId → DeviceId → Bool
is_labelled None i = false
is_labelled (Some j) i = same_device j i

-- d is in the island with label i
pub in_island : (DeviceId → Option DeviceId) → DeviceId → DeviceId → Bool
in_island label i d = is_labelled (label d) i

pub in_island-true : (label : DeviceId → Option DeviceId) (i d : DeviceId)
    → in_island label i d ≡ true → label d ≡ Some i
unfolding in_island is_labelled
in_island-true label i d h = go (label d) refl h
  where
    go : (o : Option DeviceId) → label d ≡ o → is_labelled o i ≡ true → label d ≡ Some i
    go None e q = absurd (false≢true q)
    go (Some j) e q = e ∙ ap Some (λ k. record { 0 = eqb-true j.0 i.0 q k })

pub in_island-same : (label : DeviceId → Option DeviceId) (i d : DeviceId) → label d ≡ Some i
    → in_island label i d ≡ true
unfolding in_island is_labelled
in_island-same label i d e = ap (λ o. is_labelled o i) e ∙ eq-eqb i.0 i.0 refl

no_own : (net : Network) (d : DeviceId) (p : Cidr) → (is_some (own_origin net d p) ≡ true → ⊥)
    → own_origin net d p ≡ None
no_own net d p h = go (own_origin net d p) refl h
  where
    go : (o : Option Origin) → own_origin net d p ≡ o → (is_some o ≡ true → ⊥)
        → own_origin net d p ≡ None
    go None e q = e
    go (Some x) e q = absurd (q refl)

module _ (net : Network) (outside : DeviceId → Bool) (label : DeviceId → Option DeviceId)
    (fits : IsIslandLabelling net outside label) where
  outside_if_labelled : (d i : DeviceId) → IsDevice net d → label d ≡ Some i → outside d ≡ true
  outside_if_labelled d i is e = elim (cases_Bool (outside d)) [
    | inl t ↦ t
    | inr f ↦ absurd (none-some i (sym (fits.emulated d is f) ∙ e))
  ]

  -- what is linked to a device of an island is emulated or of the same island
  emulated_beside : (a d i : DeviceId) → IsDevice net a → IsDevice net d → label d ≡ Some i
      → IsLinked net a d → in_island label i a ≡ false → outside a ≡ false
  emulated_beside a d i is_a is_d e l f =
      elim (cases_Bool (outside a)) [
        | inl t ↦
            absurd (true≢false
            (sym (in_island-same label i a
            (fits.linked a d is_a is_d t (outside_if_labelled d i is_d e) l ∙ e))
            ∙ f))
        | inr n ↦ n
      ]

  module _ (certified : IsCertified net outside label) (held : Assignment)
      (stable : IsStable net held) where
    -- ---- an island passes on nothing that comes from elsewhere

    pub refused_by_emulated : NoForeignOffer net outside label held
    refused_by_emulated a e i p route is_a is_e emulated in_i elsewhere offered =
        let s : DeviceId → Bool = in_island label i in
        let none : (d : DeviceId) → IsDevice net d → s d ≡ true → own_origin net d p ≡ None =
        λ d is t. no_own net d p (λ h. elsewhere
        (record { device = d; in_island = in_island-true label i d t; originates = (is, h) })) in
        let o = offer_of-gives net a e p (held a p) route offered in
        let x =
        crossing net s held p (λ b is t. stable b p is) none a o.source is_a
        (in_island-same label i a in_i) o.holds in
        let into_i = in_island-true label i x.into x.into_set in
        let linked = linked_by_held net held x.from x.into p x.route x.offered in
        let far =
        emulated_beside x.from x.into i x.from_is_device x.into_is_device into_i linked
        x.from_elsewhere in
        let face_x : IsEmulatedFacing net outside label i x.from =
        record {
          is_device = x.from_is_device;
          emulated = far;
          peer = x.into;
          peer_is_device = x.into_is_device;
          in_island = into_i;
          linked = linked;
        } in
        let face_e : IsEmulatedFacing net outside label i e =
        record {
          is_device = is_e;
          emulated = emulated;
          peer = a;
          peer_is_device = is_a;
          in_island = in_i;
          linked = linked_back net a e (linked_by_held net held a e p route offered);
        } in
        refused_as_loop net a e x.from p o.source route o.offered x.passed
        ((certified.island i).emulated_side x.from e face_x face_e)

    -- ---- an island takes in nothing that it originates

    refused_by_island : (a b i : DeviceId) (p : Cidr) (route : Route) → IsDevice net a
        → IsDevice net b → outside a ≡ false → label b ≡ Some i → IsOfIsland net label i p
        → offers_to net held b p a ≡ Some route → accept net b a route ≡ false
    refused_by_island a b i p route is_a is_b emulated in_i of_i offered =
        let s : DeviceId → Bool = λ d. not (in_island label i d) in
        let none : (d : DeviceId) → IsDevice net d → s d ≡ true → own_origin net d p ≡ None =
        λ d is t. no_own net d p (λ h. true≢false
        (sym (in_island-same label i d
        ((certified.island i).origins of_i.device d p of_i.in_island of_i.originates (is, h)))
        ∙ not-true _ t)) in
        let a_in : s a ≡ true =
        not_from_false (in_island label i a) (elim (cases_Bool (in_island label i a)) [
          | inl t ↦
              absurd (true≢false
              (sym (outside_if_labelled a i is_a (in_island-true label i a t)) ∙ emulated))
          | inr f ↦ f
        ]) in
        let o = offer_of-gives net a b p (held a p) route offered in
        let x = crossing net s held p (λ d is t. stable d p is) none a o.source is_a a_in o.holds in
        let from_i = in_island-true label i x.from (not-false _ x.from_elsewhere) in
        let linked = linked_by_held net held x.from x.into p x.route x.offered in
        let far =
        emulated_beside x.into x.from i x.into_is_device x.from_is_device from_i
        (linked_back net x.from x.into linked) (not-true _ x.into_set) in
        let faces_x : IsOutsideFacing net outside label i x.from =
        record {
          is_device = x.from_is_device;
          in_island = from_i;
          peer = x.into;
          peer_is_device = x.into_is_device;
          emulated = far;
          linked = linked_back net x.from x.into linked;
        } in
        let faces_b : IsOutsideFacing net outside label i b =
        record {
          is_device = is_b;
          in_island = in_i;
          peer = a;
          peer_is_device = is_a;
          emulated = emulated;
          linked = linked_by_held net held a b p route offered;
        } in
        refused_as_loop net a b x.from p o.source route o.offered x.passed
        ((certified.island i).outside_side x.from b faces_x faces_b)

    -- ---- the island's devices hold of its prefixes what they hold where there are no emulated
    -- devices

    module _ (i : DeviceId) (p : Cidr) (of_i : IsOfIsland net label i p) (alone : Assignment) where
      -- held in the island, alone elsewhere
      mixed : Assignment
      mixed b q = cond (in_island label i b) (held b q) (alone b q)

      mixed_in : (b : DeviceId) → label b ≡ Some i → mixed b p ≡ held b p
      unfolding mixed
      mixed_in b e = cond-true (in_island label i b) _ _ (in_island-same label i b e)

      mixed_out : (b : DeviceId) → in_island label i b ≡ false → mixed b p ≡ alone b p
      unfolding mixed
      mixed_out b f = cond-false (in_island label i b) _ _ f

      -- a candidate in the whole network is one in the outside alone
      into_alone : (b : DeviceId) (c : Choice) → IsDevice net b → label b ≡ Some i
          → IsCandidate net (offers_to net held b p) b p c
          → IsCandidate (restricted net outside) (offers_to (restricted net outside) mixed b p) b p
          c
      into_alone b c is e (inl u) =
          inl (record {
            own = own_origin_restricted net outside b p (outside_if_labelled b i is e) ∙ u.own;
            none = u.none;
            empty = u.empty;
          })
      into_alone b c is e (inr u) =
          let o = source_of net held b p c u in
          let n = length_restricted net outside in
          elim (cases_Bool (outside u.sender)) [
            | inl t ↦
                let ob = outside_if_labelled b i is e in
                let e' =
                fits.linked u.sender b u.is_device is t ob
                (linked_by_held net held u.sender b p u.route u.came_in)
                ∙ e in
                inr (record {
                  sender = u.sender;
                  route = u.route;
                  is_device = omega (arith, u.is_device);
                  came_in =
                      offer_of-back (restricted net outside) u.sender b p (mixed u.sender p)
                      o.source u.route (mixed_in u.sender e' ∙ o.holds)
                      (offer_kept net outside u.sender b (route_of p o.source) t ob ∙ o.offered);
                  accepted = accept_restricted net outside b u.sender u.route ∙ u.accepted;
                  is = u.is;
                })
            | inr f ↦
                absurd (true≢false
                (sym u.accepted
                ∙ refused_by_island u.sender b i p u.route u.is_device is f e of_i u.came_in))
          ]

      -- and the other way round
      from_alone : (b : DeviceId) (c : Choice) → IsDevice net b → label b ≡ Some i
          → IsCandidate (restricted net outside) (offers_to (restricted net outside) mixed b p) b p
          c
          → IsCandidate net (offers_to net held b p) b p c
      from_alone b c is e (inl u) =
          inl (record {
            own =
                sym (own_origin_restricted net outside b p (outside_if_labelled b i is e)) ∙ u.own;
            none = u.none;
            empty = u.empty;
          })
      from_alone b c is e (inr u) =
          let h = source_of (restricted net outside) mixed b p c u in
          let n = length_restricted net outside in
          let o =
          offer-gives (restricted net outside) u.sender b (route_of p h.source) u.route h.offered in
          let up = up_linked (restricted net outside) u.sender b o.up in
          let ends = link_between_restricted net outside u.sender b up.0 up.1 in
          let is_a : IsDevice net u.sender = omega (arith, u.is_device) in
          let linked : IsLinked net u.sender b =
          ap is_some (sym (link_between_kept net outside u.sender b ends.0 ends.1) ∙ up.1) in
          let e' = fits.linked u.sender b is_a is ends.0 ends.1 linked ∙ e in
          inr (record {
            sender = u.sender;
            route = u.route;
            is_device = is_a;
            came_in =
                offer_of-back net u.sender b p (held u.sender p) h.source u.route
                (sym (mixed_in u.sender e') ∙ h.holds)
                (sym (offer_kept net outside u.sender b (route_of p h.source) ends.0 ends.1)
                ∙ h.offered);
            accepted = sym (accept_restricted net outside b u.sender u.route) ∙ u.accepted;
            is = u.is;
          })

      best_alone : (b : DeviceId) → IsDevice net b → label b ≡ Some i → (o : Option Choice)
          → IsBest net (offers_to net held b p) b p o
          → IsBest (restricted net outside) (offers_to (restricted net outside) mixed b p) b p o
      best_alone b is e None h = λ x u. h x (from_alone b x is e u)
      best_alone b is e (Some c) h = (
        into_alone b c is e h.0,
        λ x u. outranks_restricted net outside x c ∙ h.1 x (from_alone b x is e u),
      )

      pub held_alone : HasDistinctIds net → IsStable (restricted net outside) alone → (d : DeviceId)
          → IsDevice net d → label d ≡ Some i → held d p ≡ alone d p
      held_alone ids alone_stable d is e =
          let n = length_restricted net outside in
          let is' : IsDevice (restricted net outside) d = omega (arith, is) in
          let whole : IsStableFor (restricted net outside) (in_island label i) p mixed =
          λ b is_b t.
          let in_i = in_island-true label i b t in
          let is_b' : IsDevice net b = omega (arith, is_b) in
          subst (IsBest (restricted net outside) (offers_to (restricted net outside) mixed b p) b p)
          (sym (mixed_in b in_i)) (best_alone b is_b' in_i (held b p) (stable b p is_b')) in
          sym (mixed_in d e)
          ∙ one_state_for (restricted net outside) (in_island label i) p mixed alone
          (distinct_restricted net outside ids) (λ b _ f. mixed_out b f) whole
          (λ b is_b _. alone_stable b p is_b) d is'

pub held_as_recorded : (net : Network) (outside : DeviceId → Bool)
    (label : DeviceId → Option DeviceId) (said held : Assignment)
    → HasDistinctIds net → IsIslandLabelling net outside label → IsCertified net outside label
    → IsStable net held → AreSound net outside label said → OutsideAsRecorded net label said held
held_as_recorded net outside label said held ids fits certified stable sound d i p is e of_i =
    let s = has_one_state (restricted net outside) (distinct_restricted net outside ids) in
    held_alone net outside label fits certified held stable i p of_i s.state ids s.stable d is e
    ∙ sym (sound s.state s.stable d i p is e of_i)
