-- Networks that differ inside alone: what the outside devices hold by themselves is the same.
use Rattle.std.proofs.Common.{◌≡◌, Bool, true, false, cond, is_some, List, length, Option, Some, None, inl, inr, refl, sym, ap, ◌∙◌, arith, option_map, option_and_then, unwrap_or, find}
use Rattle.std.proofs.lemmas.Option.{none-some}
use Rattle.std.proofs.lemmas.Bool.{cases_Bool}
use Rattle.cn_base.specs.Cidr.{Cidr}
use Rattle.cn_base.specs.Rank.{ranks_before}
use Rattle.cn_base.specs.declared.ids.DeviceId.{DeviceId}
use Rattle.cn_base.specs.declared.route.Choice.{Choice}
use Rattle.cn_base.specs.declared.route.Route.{Route}
use Rattle.cn_net.specs.declared.device.Device.{Device}
use Rattle.cn_net.specs.declared.device.Link.{Link}
use Rattle.cn_net.specs.Alike.{DifferInside, HaveRecordsAlike, LabelsOutside, links_outside}
use Rattle.cn_decide.specs.Decide.{outranks_by}
use Rattle.cn_net.specs.Candidates.{IsBest, IsCandidate, IsLearnt, IsOwn, outranks, rank_of}
use Rattle.cn_net.specs.Exchange.{accept, accepts, offer, offered}
use Rattle.cn_net.specs.Network.{Network, IsDevice, device_of, joins, link_between, own_of, own_origin, router_of}
use Rattle.cn_net.specs.Records.{AreSound, IsOfIsland}
use Rattle.cn_net.specs.Restriction.{restricted, without_origins}
use Rattle.cn_net.specs.Stable.{Assignment, IsStable, offers_to, route_of}
use Rattle.cn_net.proofs.Offering.{offer-gives, offer_of-back}
use Rattle.cn_net.proofs.OneState.{source_of}
use Rattle.cn_net.proofs.Restricted.{device_of_restricted, length_restricted, link_between_restricted, own_origin_without_origins, up_linked}

-- ---- what an offer looks at

-- an offer is of the sender and of the link alone
offer_by_link : (x y : Network) (a b : DeviceId) (r : Route)
    → link_between x a b ≡ link_between y a b
    → device_of x a ≡ device_of y a → offer x a b r ≡ offer y a b r
unfolding offer
offer_by_link x y a b r link device =
    λ i. cond (unwrap_or (link i) false) (option_and_then (λ d. offered d.body b r) (device i)) None

-- whether a route is accepted is of the receiver alone
accept_by_device : (x y : Network) (b a : DeviceId) (r : Route) → device_of x b ≡ device_of y b
    → accept x b a r ≡ accept y b a r
unfolding accept
accept_by_device x y b a r device =
    λ i. unwrap_or (option_map (λ (d : Device). accepts d.body a r) (device i)) false

-- ---- two networks in which nothing happens but among the same devices

-- the devices of s are the same, and so are the links, which are all among these; the others
-- originate nothing
pub record AgreeWithin (x y : Network) (s : DeviceId → Bool) : Type 0 where
  pub count : length x.devices ≡ length y.devices
  pub devices : (d : DeviceId) → s d ≡ true → device_of x d ≡ device_of y d
  pub links : (a b : DeviceId) → link_between x a b ≡ link_between y a b
  pub within : (a b : DeviceId) (up : Bool) → link_between x a b ≡ Some up
      → (s a ≡ true) × (s b ≡ true)
  pub silent : (d : DeviceId) (p : Cidr) → s d ≡ false → own_origin x d p ≡ None

module _ (x y : Network) (s : DeviceId → Bool) (agree : AgreeWithin x y s) (held : Assignment)
    (b : DeviceId) (p : Cidr) where
  -- the device's own routes are the same
  own_too : (c : Choice) → IsOwn x b p c → IsOwn y b p c
  own_too c own = elim (cases_Bool (s b)) [
    | inl t ↦ record {
      own =
          sym (ap (option_and_then (λ (d : Device). own_of d.body p)) (agree.devices b t))
          ∙ own.own;
      none = own.none;
      empty = own.empty;
    }
    | inr f ↦ absurd (none-some c.origin (sym (agree.silent b p f) ∙ own.own))
  ]

  -- the sender of what came in, and the receiver, are of s
  ends_within : (c : Choice) (u : IsLearnt x (offers_to x held b p) b c)
      → (s u.sender ≡ true) × (s b ≡ true)
  ends_within c u =
      let o = source_of x held b p c u in
      let up = up_linked x u.sender b (offer-gives x u.sender b (route_of p o.source) u.route
      o.offered).up in
      agree.within u.sender b up.0 up.1

  learnt_too : (c : Choice) → IsLearnt x (offers_to x held b p) b c
      → IsLearnt y (offers_to y held b p) b c
  learnt_too c u =
      let o = source_of x held b p c u in
      let ends = ends_within c u in
      let count = agree.count in
      let is = u.is_device in
      let offers = offer_by_link x y u.sender b (route_of p o.source) (agree.links u.sender b)
      (agree.devices u.sender ends.0) in
      let takes = accept_by_device x y b u.sender u.route (agree.devices b ends.1) in
      record {
        sender = u.sender;
        route = u.route;
        is_device = omega arith;
        came_in =
            offer_of-back y u.sender b p (held u.sender p) o.source u.route o.holds
            (sym offers ∙ o.offered);
        accepted = sym takes ∙ u.accepted;
        is = u.is;
      }

  candidate_too : (c : Choice) → IsCandidate x (offers_to x held b p) b p c
      → IsCandidate y (offers_to y held b p) b p c
  candidate_too c (inl own) = inl (own_too c own)
  candidate_too c (inr u) = inr (learnt_too c u)

  -- the BGP Identifier of a candidate's sender
  sender_too : (c : Choice) → IsCandidate x (offers_to x held b p) b p c
      → option_map (router_of x) c.from ≡ option_map (router_of y) c.from
  sender_too c (inl own) =
      ap (option_map (router_of x)) own.none ∙ sym (ap (option_map (router_of y)) own.none)
  sender_too c (inr u) =
      let from : c.from ≡ Some u.sender = ap (λ (z : Choice). z.from) u.is in
      let same = agree.devices u.sender (ends_within c u).0 in
      ap (option_map (router_of x)) from
      ∙ ap (λ (o : Option Device). Some (unwrap_or (option_map (λ (d : Device). d.id) o)
      (record { 0 = 0 }))) same
      ∙ sym (ap (option_map (router_of y)) from)

  rank_too : (c : Choice) → IsCandidate x (offers_to x held b p) b p c → rank_of x c ≡ rank_of y c
  rank_too c is = λ i. record {
    learnt = is_some c.from;
    length = length c.path;
    origin = c.origin;
    sender = unwrap_or (sender_too c is i) (record { 0 = 0 });
  }

  outranks_too : (c d : Choice) → IsCandidate x (offers_to x held b p) b p c
      → IsCandidate x (offers_to x held b p) b p d → outranks x c d ≡ outranks y c d
  unfolding outranks_by
  outranks_too c d of_c of_d = λ i. ranks_before (rank_too c of_c i) (rank_too d of_d i)

-- what is best in one is best in the other
best_too : (x y : Network) (s : DeviceId → Bool) → AgreeWithin x y s → AgreeWithin y x s
    → (held : Assignment) (b : DeviceId) (p : Cidr) (o : Option Choice)
    → IsBest x (offers_to x held b p) b p o → IsBest y (offers_to y held b p) b p o
best_too x y s agree back held b p None best =
    λ c is. best c (candidate_too y x s back held b p c is)
best_too x y s agree back held b p (Some c) best = (
  candidate_too x y s agree held b p c best.0,
  λ d is.
      let here = candidate_too y x s back held b p d is in
      sym (outranks_too x y s agree held b p d c here best.0) ∙ best.1 d here,
)

stable_too : (x y : Network) (s : DeviceId → Bool) → AgreeWithin x y s → AgreeWithin y x s
    → (held : Assignment) → IsStable x held → IsStable y held
stable_too x y s agree back held stable = λ b p is.
    let count = agree.count in
    best_too x y s agree back held b p (held b p) (stable b p (omega arith))

-- ---- networks that differ inside

pub inside_back : (x y : Network) (s : DeviceId → Bool) → DifferInside x y s → DifferInside y x s
inside_back x y s differ = record {
  ends = record { devices = sym differ.ends.devices; links = sym differ.ends.links };
  devices = λ d t. sym (differ.devices d t);
  links = sym differ.links;
}

restricted_links : (net : Network) (s : DeviceId → Bool)
    → (restricted net s).links ≡ links_outside s net
unfolding restricted
restricted_links net s = refl

outside_agree : (x y : Network) (s : DeviceId → Bool) → DifferInside x y s
    → AgreeWithin (restricted x s) (restricted y s) s
outside_agree x y s differ =
    let links : (restricted x s).links ≡ (restricted y s).links =
    restricted_links x s ∙ differ.links ∙ sym (restricted_links y s) in
    record {
      count = length_restricted x s ∙ differ.ends.devices ∙ sym (length_restricted y s);
      devices = λ d t.
          device_of_restricted x s d
          ∙ ap (option_map (without_origins (s d))) (differ.devices d t)
          ∙ sym (device_of_restricted y s d);
      links =
          λ a b. ap (λ (ls : List Link). option_map (λ (l : Link). l.up) (find (joins a b) ls))
          links;
      within = λ a b up e. link_between_restricted x s a b up e;
      silent = λ d p f. own_origin_without_origins x s d p f;
    }

pub stable_outside : (x y : Network) (s : DeviceId → Bool) → DifferInside x y s
    → (held : Assignment)
    → IsStable (restricted x s) held → IsStable (restricted y s) held
stable_outside x y s differ held =
    stable_too (restricted x s) (restricted y s) s (outside_agree x y s differ)
    (outside_agree y x s (inside_back x y s differ)) held

-- a device with a label is outside
outside_labelled : (net : Network) (s : DeviceId → Bool) (label : DeviceId → Option DeviceId)
    → LabelsOutside net s label → (d i : DeviceId) → IsDevice net d → label d ≡ Some i → s d ≡ true
outside_labelled net s label only d i is e = elim (cases_Bool (s d)) [
  | inl t ↦ t
  | inr f ↦ absurd (none-some i (sym (only d is f) ∙ e))
]

of_island_too : (x y : Network) (s : DeviceId → Bool) (label : DeviceId → Option DeviceId)
    → DifferInside x y s → LabelsOutside x s label → (i : DeviceId) (p : Cidr)
    → IsOfIsland x label i p → IsOfIsland y label i p
of_island_too x y s label differ only i p h =
    let count = differ.ends.devices in
    let is = h.originates.0 in
    let t = outside_labelled x s label only h.device i is h.in_island in
    record {
      device = h.device;
      in_island = h.in_island;
      originates = (
        omega arith,
        sym (ap (λ (o : Option Device). is_some
            (option_and_then (λ (d : Device). own_of d.body p) o))
            (differ.devices h.device t))
            ∙ h.originates.1,
      );
    }

labels_too : (x y : Network) (s : DeviceId → Bool) (label : DeviceId → Option DeviceId)
    → DifferInside x y s → LabelsOutside x s label → LabelsOutside y s label
labels_too x y s label differ only d is f =
    let count = differ.ends.devices in only d (omega arith) f

sound_too : (x y : Network) (s : DeviceId → Bool) (label : DeviceId → Option DeviceId)
    (said : Assignment)
    → DifferInside x y s → LabelsOutside y s label → AreSound x s label said
    → AreSound y s label said
sound_too x y s label said differ only sound = λ state stable d i p is labelled here.
    let back = inside_back x y s differ in
    let count = differ.ends.devices in
    sound state (stable_outside y x s back state stable) d i p (omega arith) labelled
    (of_island_too y x s label back only i p here)

pub records_alike : (x y : Network) (s : DeviceId → Bool) → DifferInside x y s
    → HaveRecordsAlike x y s
records_alike x y s differ =
    let back = inside_back x y s differ in
    record {
      stable = λ held. (stable_outside x y s differ held, stable_outside y x s back held);
      sound = λ label said only. (
        sound_too x y s label said differ (labels_too x y s label differ only),
        sound_too y x s label said back only,
      );
    }
