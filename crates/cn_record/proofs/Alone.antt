-- What the devices of an island hold where nobody else says anything is what they hold in the
-- stable state of the outside devices alone.
use Rattle.std.proofs.Common.{◌≡◌, Bool, true, false, cond, is_some, Option, Some, None, inl, inr, sym, ap, subst, ◌∙◌, arith}
use Rattle.std.proofs.lemmas.Bool.{cases_Bool, cond-false, cond-true}
use Rattle.std.proofs.lemmas.Option.{none-some}
use Rattle.cn_base.specs.Cidr.{Cidr}
use Rattle.cn_base.specs.declared.ids.DeviceId.{DeviceId}
use Rattle.cn_base.specs.declared.route.Choice.{Choice}
use Rattle.cn_net.specs.Candidates.{IsBest, IsCandidate}
use Rattle.cn_net.specs.Islands.{IsIslandLabelling}
use Rattle.cn_net.specs.Network.{Network, HasDistinctIds, IsDevice, IsLinked}
use Rattle.cn_net.specs.OneState.{IsStableFor}
use Rattle.cn_net.specs.Restriction.{restricted}
use Rattle.cn_net.specs.Stable.{Assignment, IsStable, offers_to, route_of}
use Rattle.cn_net.proofs.Offering.{offer-gives, offer_of-back}
use Rattle.cn_net.proofs.OneState.{one_state_for, source_of}
use Rattle.cn_net.proofs.Restricted.{accept_restricted, distinct_restricted, length_restricted, link_between_kept, link_between_restricted, offer_kept, outranks_restricted, own_origin_restricted, up_linked}

-- below, s tells the devices of the island i, and nobody else holds anything
module _ (net : Network) (outside : DeviceId → Bool) (label : DeviceId → Option DeviceId)
    (fits : IsIslandLabelling net outside label) (i : DeviceId) (s : DeviceId → Bool)
    (inside : (d : DeviceId) → IsDevice net d → s d ≡ true → label d ≡ Some i)
    (each : (d : DeviceId) → IsDevice net d → label d ≡ Some i → s d ≡ true)
    (p : Cidr) (held : Assignment)
    (nothing : (d : DeviceId) → IsDevice net d → s d ≡ false → held d p ≡ None)
    (alone : Assignment) where
  -- held in the island, alone elsewhere
  mixed : Assignment
  mixed b q = cond (s b) (held b q) (alone b q)

  mixed_in : (b : DeviceId) → s b ≡ true → mixed b p ≡ held b p
  unfolding mixed
  mixed_in b t = cond-true (s b) (held b p) (alone b p) t

  mixed_out : (b : DeviceId) → s b ≡ false → mixed b p ≡ alone b p
  unfolding mixed
  mixed_out b f = cond-false (s b) (held b p) (alone b p) f

  outside_in : (b : DeviceId) → IsDevice net b → s b ≡ true → outside b ≡ true
  outside_in b is t = elim (cases_Bool (outside b)) [
    | inl o ↦ o
    | inr f ↦
        absurd (none-some i (sym (fits.emulated b is f) ∙ inside b is t))
  ]

  -- a device that holds something is of the island
  holder_in : (b : DeviceId) (c : Choice) → IsDevice net b → held b p ≡ Some c → s b ≡ true
  holder_in b c is e = elim (cases_Bool (s b)) [
    | inl t ↦ t
    | inr f ↦
        absurd (none-some c (sym (nothing b is f) ∙ e))
  ]

  -- a candidate in the whole network is one in the outside alone
  into_alone : (b : DeviceId) (c : Choice) → IsDevice net b → s b ≡ true
      → IsCandidate net (offers_to net held b p) b p c → IsCandidate (restricted net outside)
      (offers_to (restricted net outside) mixed b p) b p c
  into_alone b c is t (inl u) =
      inl (record {
        own = own_origin_restricted net outside b p (outside_in b is t) ∙ u.own;
        none =
            u.none;
        empty = u.empty;
      })
  into_alone b c is t (inr u) =
      let o = source_of net held b p c u in
      let n = length_restricted net outside in
      let from = holder_in u.sender o.source u.is_device o.holds in
      inr (record {
        sender = u.sender;
        route = u.route;
        is_device = omega (arith, u.is_device);
        came_in = offer_of-back (restricted net outside) u.sender b p (mixed u.sender p)
            o.source u.route (mixed_in u.sender from ∙ o.holds)
            (offer_kept net outside u.sender b (route_of p o.source)
            (outside_in u.sender u.is_device from) (outside_in b is t) ∙ o.offered);
        accepted = accept_restricted net outside b u.sender u.route ∙ u.accepted;
        is = u.is;
      })

  -- and the other way round
  from_alone : (b : DeviceId) (c : Choice) → IsDevice net b → s b ≡ true
      → IsCandidate (restricted net outside) (offers_to (restricted net outside) mixed b p) b p c
      → IsCandidate net (offers_to net held b p) b p c
  from_alone b c is t (inl u) =
      inl (record {
        own = sym (own_origin_restricted net outside b p (outside_in b is t))
            ∙ u.own;
        none = u.none;
        empty = u.empty;
      })
  from_alone b c is t (inr u) =
      let h = source_of (restricted net outside) mixed b p c u in
      let n = length_restricted net outside in
      let o = offer-gives (restricted net outside) u.sender b (route_of p h.source)
      u.route h.offered in
      let up = up_linked (restricted net outside) u.sender b o.up in
      let ends = link_between_restricted net outside u.sender b up.0 up.1 in
      let is_a : IsDevice net u.sender = omega (arith, u.is_device) in
      let linked : IsLinked net u.sender b =
      ap is_some (sym (link_between_kept net outside u.sender b ends.0 ends.1) ∙ up.1) in
      let from = each u.sender is_a (fits.linked u.sender b is_a is ends.0 ends.1 linked
      ∙ inside b is t) in
      inr (record {
        sender = u.sender;
        route = u.route;
        is_device = is_a;
        came_in = offer_of-back net u.sender b p (held u.sender p) h.source u.route
            (sym (mixed_in u.sender from) ∙ h.holds)
            (sym (offer_kept net outside u.sender b (route_of p h.source) ends.0 ends.1)
            ∙ h.offered);
        accepted = sym (accept_restricted net outside b u.sender u.route) ∙ u.accepted;
        is = u.is;
      })

  best_alone : (b : DeviceId) → IsDevice net b → s b ≡ true → (o : Option Choice)
      → IsBest net (offers_to net held b p) b p o → IsBest (restricted net outside)
      (offers_to (restricted net outside) mixed b p) b p o
  best_alone b is t None h = λ x u. h x (from_alone b x is t u)
  best_alone b is t (Some c) h = (
    into_alone b c is t h.0,
    λ x u. outranks_restricted net outside x c
        ∙ h.1 x (from_alone b x is t u),
  )

  pub settled_alone : HasDistinctIds net → IsStableFor net s p held
      → IsStable (restricted net outside) alone → (d : DeviceId) → IsDevice net d → s d ≡ true
      → held d p ≡ alone d p
  settled_alone ids stable alone_stable d is t =
      let n = length_restricted net outside in
      let is' : IsDevice (restricted net outside) d = omega (arith, is) in
      let whole : IsStableFor (restricted net outside) s p mixed =
      λ b is_b t_b.
      let is_b' : IsDevice net b = omega (arith, is_b) in
      subst (IsBest (restricted net outside) (offers_to (restricted net outside) mixed b p) b p)
      (sym (mixed_in b t_b)) (best_alone b is_b' t_b (held b p) (stable b is_b' t_b)) in
      sym (mixed_in d t)
      ∙ one_state_for (restricted net outside) s p mixed alone (distinct_restricted net outside ids)
      (λ b _ f. mixed_out b f) whole (λ b is_b _. alone_stable b p is_b) d is'
