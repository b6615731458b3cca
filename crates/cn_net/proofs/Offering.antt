-- Other crates may cite this: the four laws of what is offered and accepted. A new rule of BGP has
-- to prove this file and `Restricted.antt` again, and nothing above them.
use Rattle.std.proofs.Common.{◌≡◌, suc, ◌-◌, ◌<◌, ◌≤◌, true, false, List, ◌∷◌, ◌++◌, length, replicate, Some, None, Option, ◌⊎◌, inl, inr, unwrap_or, option_map, option_and_then, refl, sym, ap, ◌∙◌, arith, length-append}
use Rattle.std.proofs.lemmas.Option.{cond_some, none-some}
use Rattle.std.proofs.lemmas.Bool.{and_parts, leb-true, not-true, cases_Bool, cond-true, cond-false, false≢true}
use Rattle.cn_base.specs.Cidr.{Cidr}
use Rattle.cn_base.specs.Paths.{holds_asn}
use Rattle.cn_base.specs.declared.ids.Asn.{Asn}
use Rattle.cn_base.specs.declared.ids.DeviceId.{DeviceId}
use Rattle.cn_base.specs.declared.route.Choice.{Choice}
use Rattle.cn_base.specs.declared.route.Route.{Route}
use Rattle.cn_net.specs.Exchange.{offer, accept, offered, accepts, offered_path, copies, is_up}
use Rattle.cn_net.specs.Network.{Network, asn_of, device_of}
pub use Rattle.cn_net.specs.Offered.{IsOffered}
use Rattle.cn_net.specs.Stable.{offer_of, route_of}
use Rattle.cn_net.specs.declared.device.Body.{Body}
use Rattle.cn_net.specs.declared.device.Device.{Device}

-- the number is put in front at least once
once : (body : Body) (b : DeviceId) (r : Route) → suc (copies body b r - 1) ≡ copies body b r
unfolding copies
once body b r = omega arith

offered_path_is :
    (body : Body) (b : DeviceId) (r : Route)
    → offered_path body b r ≡ body.asn ∷ (replicate (copies body b r - 1) body.asn ++ r.path)
unfolding offered_path
offered_path_is body b r = ap (λ n. replicate n body.asn ++ r.path) (sym (once body b r))

offered-gives : (net : Network) (a b : DeviceId) (d : Device) (r r' : Route) → is_up net a b ≡ true
    → device_of net a ≡ Some d → offered d.body b r ≡ Some r' → IsOffered net a b r r'
unfolding offered
offered-gives net a b d r r' up is e =
    let s = cond_some _ _ _ e in
    let fits = and_parts _ _ s.0 in
    let path : r'.path ≡ offered_path d.body b r = sym (ap (λ (x : Route). x.path) s.1) in
    let asn : d.body.asn ≡ asn_of net a =
    sym (ap (λ (o : Option Device).
    unwrap_or (option_map (λ (x : Device). x.body.asn) o) (record { 0 = 0 })) is) in
    record {
      up = up;
      prefix = sym (ap (λ (x : Route). x.prefix) s.1);
      origin = sym (ap (λ (x : Route). x.origin) s.1);
      more = replicate (copies d.body b r - 1) d.body.asn;
      path =
          path
          ∙ offered_path_is d.body b r
          ∙ ap (λ n. n ∷ (replicate (copies d.body b r - 1) d.body.asn ++ r.path)) asn;
      short = rw path (leb-true _ _ fits.1);
    }

pub offer-gives : (net : Network) (a b : DeviceId) (r r' : Route) → offer net a b r ≡ Some r'
    → IsOffered net a b r r'
unfolding offer
offer-gives net a b r r' e = go (cases_Bool (is_up net a b))
  where
    at_device : is_up net a b ≡ true → (o : Option Device) → device_of net a ≡ o
        → option_and_then (λ d. offered d.body b r) o ≡ Some r' → IsOffered net a b r r'
    at_device up None is f = absurd (none-some r' f)
    at_device up (Some d) is f = offered-gives net a b d r r' up is f

    go : (is_up net a b ≡ true) ⊎ (is_up net a b ≡ false) → IsOffered net a b r r'
    go (inl up) = at_device up (device_of net a) refl (sym (cond-true _ _ _ up) ∙ e)
    go (inr down) = absurd (none-some r' (sym (cond-false _ _ _ down) ∙ e))

-- an offer is longer than what is offered
pub offer-longer : (net : Network) (a b : DeviceId) (r r' : Route) → IsOffered net a b r r'
    → length r.path < length r'.path
offer-longer net a b r r' o = rw o.path (omega (arith, length-append o.more r.path))

-- what is accepted doesn't hold the receiver's AS number
pub accept-new : (net : Network) (a b : DeviceId) (r : Route) → accept net b a r ≡ true
    → holds_asn r.path (asn_of net b) ≡ false
unfolding accept accepts
accept-new net a b r h = go (device_of net b) refl h
  where
    go : (o : Option Device) → device_of net b ≡ o
        → unwrap_or (option_map (λ d. accepts d.body a r) o) false ≡ true
        → holds_asn r.path (asn_of net b) ≡ false
    go None is e = absurd (false≢true e)
    go (Some d) is e =
        let asn : asn_of net b ≡ d.body.asn =
        ap (λ (o : Option Device).
        unwrap_or (option_map (λ (x : Device). x.body.asn) o) (record { 0 = 0 })) is in
        ap (holds_asn r.path) asn ∙ not-true _ (and_parts _ _ e).0

-- ---- offers of what is held

-- where something is offered, something is held
pub record IsHeldOffer (net : Network) (a b : DeviceId) (p : Cidr) (held : Option Choice)
    (r : Route) : Type 0 where
  pub source : Choice
  pub holds : held ≡ Some source
  pub offered : offer net a b (route_of p source) ≡ Some r

pub offer_of-gives : (net : Network) (a b : DeviceId) (p : Cidr) (held : Option Choice) (r : Route)
    → offer_of net a b p held ≡ Some r → IsHeldOffer net a b p held r
unfolding offer_of
offer_of-gives net a b p None r e = absurd (none-some r e)
offer_of-gives net a b p (Some c) r e = record { source = c; holds = refl; offered = e }

pub offer_of-back : (net : Network) (a b : DeviceId) (p : Cidr) (held : Option Choice) (c : Choice)
    (r : Route)
    → held ≡ Some c → offer net a b (route_of p c) ≡ Some r → offer_of net a b p held ≡ Some r
unfolding offer_of
offer_of-back net a b p held c r h e =
    ap (λ o. option_and_then (λ (x : Choice). offer net a b (route_of p x)) o) h ∙ e
