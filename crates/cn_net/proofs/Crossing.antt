-- A route that devices hold which don't originate its prefix came in from the others.
use Rattle.std.proofs.Common.{◌≡◌, ℕ, suc, zero, ◌<◌, ◌==◌, Bool, true, List, ◌∷◌, ◌++◌, [], length, Option, Some, None, inl, inr, refl, sym, ap, subst, ◌∙◌, arith, append_assoc}
use Rattle.std.proofs.lemmas.Option.{none-some, same_Some}
use Rattle.std.proofs.lemmas.Bool.{cases_Bool, eq-eqb, or_left, or_right}
use Rattle.std.proofs.lemmas.List.Folds.{list_any-append}
use Rattle.cn_base.specs.Cidr.{Cidr}
use Rattle.cn_base.specs.Paths.{holds_asn}
use Rattle.cn_base.specs.declared.ids.Asn.{Asn}
use Rattle.cn_base.specs.declared.ids.DeviceId.{DeviceId}
use Rattle.cn_base.specs.declared.route.Choice.{Choice}
use Rattle.cn_base.specs.declared.route.Route.{Route}
use Rattle.cn_net.specs.Boundary.{IsCrossing}
use Rattle.cn_net.specs.Candidates.{IsCandidate, IsBest}
use Rattle.cn_net.specs.Network.{Network, IsDevice, asn_of, own_origin}
use Rattle.cn_net.specs.OneState.{IsStableFor}
use Rattle.cn_net.specs.Stable.{Assignment, offers_to, route_of}
use Rattle.cn_net.proofs.Offering.{IsOffered, offer-gives}
use Rattle.cn_net.proofs.OneState.{source_of, source_shorter}

-- ---- numbers in paths

holds_front : (n : Asn) (path : List Asn) → holds_asn (n ∷ path) n ≡ true
holds_front n path = or_left (n.0 == n.0) (holds_asn path n) (eq-eqb n.0 n.0 refl)

pub holds_behind : (front path : List Asn) (n : Asn) → holds_asn path n ≡ true
    → holds_asn (front ++ path) n ≡ true
holds_behind front path n h =
    list_any-append (λ x. x.0 == n.0) front path ∙ or_right (holds_asn front n) (holds_asn path n) h

-- an offer holds the number of the device that makes it
offer_holds_sender : (net : Network) (a b : DeviceId) (r r' : Route) → IsOffered net a b r r'
    → holds_asn r'.path (asn_of net a) ≡ true
offer_holds_sender net a b r r' o =
    subst (λ z. holds_asn z (asn_of net a) ≡ true) (sym o.path)
    (holds_front (asn_of net a) (o.more ++ r.path))

-- and each number of the path that is offered
pub offer_holds : (net : Network) (a b : DeviceId) (r r' : Route) (n : Asn)
    → IsOffered net a b r r' → holds_asn r.path n ≡ true → holds_asn r'.path n ≡ true
offer_holds net a b r r' n o h =
    subst (λ z. holds_asn z n ≡ true) (sym o.path) (holds_behind (asn_of net a ∷ o.more) r.path n h)

-- ---- the law

-- what is held is a candidate
held_candidate : (net : Network) (held : Assignment) (b : DeviceId) (p : Cidr) (o : Option Choice)
    → IsBest net (offers_to net held b p) b p o → (c : Choice) → o ≡ Some c
    → IsCandidate net (offers_to net held b p) b p c
held_candidate net held b p None h c e = absurd (none-some c e)
held_candidate net held b p (Some d) h c e =
    subst (IsCandidate net (offers_to net held b p) b p) (same_Some d c e) h.0

module _ (net : Network) (s : DeviceId → Bool) (held : Assignment) (p : Cidr)
    (stable : IsStableFor net s p held)
    (none : (d : DeviceId) → IsDevice net d → s d ≡ true → own_origin net d p ≡ None) where
  crossing_within : (n : ℕ) (d : DeviceId) (c : Choice) → length c.path < n → IsDevice net d
      → s d ≡ true → held d p ≡ Some c → IsCrossing net s held p c
  crossing_within zero d c l is t e = absurd (omega arith)
  crossing_within (suc n) d c l is t e =
      go (λ x y. crossing_within n x y) (held_candidate net held d p (held d p) (stable d is t) c e)
    where
      go : ((x : DeviceId) (y : Choice) → length y.path < n → IsDevice net x → s x ≡ true
          → held x p ≡ Some y → IsCrossing net s held p y)
          → IsCandidate net (offers_to net held d p) d p c → IsCrossing net s held p c
      go ih (inl u) = absurd (none-some c.origin (sym (none d is t) ∙ u.own))
      go ih (inr u) =
          let same : c.path ≡ u.route.path = ap (λ (z : Choice). z.path) u.is in
          let from = source_of net held d p c u in
          let shorter = source_shorter net held d p c u in
          let o = offer-gives net u.sender d (route_of p from.source) u.route from.offered in
          elim (cases_Bool (s u.sender)) [
            | inl ts ↦
                let x = ih u.sender from.source (omega arith) u.is_device ts from.holds in
                record {
                  from = x.from;
                  into = x.into;
                  from_is_device = x.from_is_device;
                  into_is_device = x.into_is_device;
                  from_elsewhere = x.from_elsewhere;
                  into_set = x.into_set;
                  route = x.route;
                  offered = x.offered;
                  accepted = x.accepted;
                  front = (asn_of net u.sender ∷ o.more) ++ x.front;
                  path =
                      same ∙ o.path ∙ ap (λ z. asn_of net u.sender ∷ (o.more ++ z)) x.path
                      ∙ ap (λ z. asn_of net u.sender ∷ z)
                      (sym (append_assoc o.more x.front x.route.path));
                  passed =
                      subst (λ z. holds_asn z (asn_of net x.from) ≡ true) (sym same)
                      (offer_holds net u.sender d (route_of p from.source) u.route
                      (asn_of net x.from) o x.passed);
                }
            | inr fs ↦ record {
              from = u.sender;
              into = d;
              from_is_device = u.is_device;
              into_is_device = is;
              from_elsewhere = fs;
              into_set = t;
              route = u.route;
              offered = u.came_in;
              accepted = u.accepted;
              front = [];
              path = same;
              passed =
                  subst (λ z. holds_asn z (asn_of net u.sender) ≡ true) (sym same)
                  (offer_holds_sender net u.sender d (route_of p from.source) u.route o);
            }
          ]

  pub crossing : (d : DeviceId) (c : Choice) → IsDevice net d → s d ≡ true → held d p ≡ Some c
      → IsCrossing net s held p c
  crossing d c is t e = crossing_within (suc (length c.path)) d c (omega arith) is t e
