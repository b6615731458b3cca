-- What is known of a change in which no fault is found.
use Rattle.std.proofs.Common.{◌≡◌, ◌≢◌, ℕ, ◌≤◌, ◌==◌, ◌&&◌, ◌⊎◌, Bool, true, false, not, nat_lt, List, [], length, map, find, Option, Some, None, option_map, inl, inr, refl, ap}
use Rattle.std.specs.Cmp.{IsEquivalence}
use Rattle.std.specs.List.{All, IsDistinct, list_any}
use Rattle.std.proofs.lemmas.Bool.{eqb-false, ltb-false, ltb-true, not-false}
use Rattle.std.proofs.lemmas.List.Elements.{All-contains}
use Rattle.std.proofs.lemmas.Map.Keys.{IsDistinct-push}
use Rattle.cn_base.specs.Cidr.{same_prefix}
use Rattle.cn_base.specs.declared.ids.Asn.{Asn}
use Rattle.cn_base.specs.declared.ids.DeviceId.{DeviceId}
use Rattle.cn_lists.proofs.Finding.{All-from_find_none}
use Rattle.cn_change.specs.Journal.{above_fault, cut_fault, ends_fault, first_twice, is_device, limit_fault, link_fault, most_prefixes, number_fault, outside_fault, own_fault, pair_fault, unknown_peer_fault, place_fault, policy_fault, reach_fault, reload_fault, reset_fault, restore_fault, same_system_fault}
use Rattle.cn_change.specs.declared.change.ChangeFault.TheVariants.{AlreadyDown, AlreadyUp, DuplicateOwn, DuplicatePeer, IsDown, LinkOutside, NoDevice, NoLink, NotEmulated, SameAs, TooMany}
use Rattle.cn_net.specs.Alike.{IsLinkInside}
use Rattle.cn_net.specs.Changed.{with_body}
use Rattle.cn_net.specs.Exchange.{is_up}
use Rattle.cn_net.specs.Faults.{◌or_else◌, fault_if}
use Rattle.cn_net.specs.Islands.{outside_of}
use Rattle.cn_net.specs.Limits.{most_rows, prefix_count, row_count}
use Rattle.cn_net.specs.Network.{Network, IsDevice, IsLinked, asn_of, is_linked, peers_of, same_device}
use Rattle.cn_net.specs.Valid.{IsValid, ListsDevices, ListsPeersOnce, OriginatesOnce}
use Rattle.cn_net.specs.declared.device.Body.{Body}
use Rattle.cn_net.specs.declared.device.Peer.{Peer}
use Rattle.cn_net.specs.declared.fault.What.{What}
use Rattle.cn_net.specs.declared.fault.What.TheVariants.{Prefixes, Rows}
use Rattle.cn_net.proofs.First.{built, neither, not_found}
use Rattle.cn_net.proofs.Keys.{equivalence, same_device-Decides, same_prefix-Decides}
use Rattle.cn_net.proofs.Peers.{linked_peer}

-- ---- one fault

no_option : {X F : Type 0} (f : X → F) (o : Option X) → option_map f o ≡ None → o ≡ None
no_option f None e = refl
no_option f (Some x) e = absurd cc

-- a number without a fault is that of a device
pub is_number : (net : Network) (d : DeviceId) → number_fault net d ≡ None → IsDevice net d
is_number net d e =
    ltb-true d.0 (length net.devices)
    (not-false (is_device net d) (not_found (not (is_device net d)) (NoDevice d) e))

are_numbers : (net : Network) (peers : List Peer) → unknown_peer_fault net peers ≡ None
    → All (λ p. IsDevice net p.device) peers
are_numbers net peers e =
    let found = find (λ (p : Peer). not (is_device net p.device)) peers in
    let none = no_option (λ (p : Peer). NoDevice p.device) found e in
    let all = All-from_find_none (λ (p : Peer). not (is_device net p.device)) peers none in
    λ k p lt. ltb-true _ (length net.devices) (not-false _ (all k p lt))

not_both : (s t : Bool) → (s && t) ≡ false → (s ≡ false) ⊎ (t ≡ false)
not_both true t e = inr e
not_both false t e = inl e

once : {K : Type 0} {same : K → K → Bool} → IsEquivalence same → (keys : List K)
    → first_twice same keys ≡ None → IsDistinct same keys
unfolding IsDistinct
once {same} laws keys e =
    built (λ before k. fault_if (list_any (same k) before) k) (IsDistinct same)
    (λ before k so none. IsDistinct-push laws before k so
    (not_found (list_any (same k) before) k none))
    [] keys tt e

within : (what : What) (limit count : ℕ) → above_fault what limit count ≡ None → count ≤ limit
within what limit count e =
    ltb-false limit count (not_found (nat_lt limit count) (TooMany what count) e)

-- ---- a change of a link

pub record PairFits (net : Network) (emulated : List DeviceId) (a b : DeviceId) : Type 0 where
  pub first : IsDevice net a
  pub second : IsDevice net b
  pub linked : IsLinked net a b
  pub inside : IsLinkInside (outside_of emulated) a b

pub pair_fits : (net : Network) (emulated : List DeviceId) (a b : DeviceId)
    → pair_fault net emulated a b ≡ None → PairFits net emulated a b
unfolding pair_fault
pair_fits net emulated a b e =
    let ends = ends_fault net a b in
    let link = link_fault net a b in
    let reach = reach_fault emulated a b in
    let first = neither ends (link or_else reach) e in
    let second = neither link reach first.1 in
    let numbers = neither (number_fault net a) (number_fault net b) first.0 in
    record {
      first = is_number net a numbers.0;
      second = is_number net b numbers.1;
      linked =
          not-false (is_linked net a b)
          (not_found (not (is_linked net a b)) (NoLink a b) second.0);
      inside =
          not_both (outside_of emulated a) (outside_of emulated b)
          (not_found (outside_of emulated a && outside_of emulated b) (LinkOutside a b) second.1);
    }

module _ (net : Network) (emulated : List DeviceId) (a b : DeviceId) where
  pub cut_fits : cut_fault net emulated a b ≡ None → PairFits net emulated a b
  unfolding cut_fault
  cut_fits e =
      let state = fault_if (not (is_up net a b)) (AlreadyDown a b) in
      pair_fits net emulated a b (neither (pair_fault net emulated a b) state e).0

  pub restore_fits : restore_fault net emulated a b ≡ None → PairFits net emulated a b
  unfolding restore_fault
  restore_fits e =
      let state = fault_if (is_up net a b) (AlreadyUp a b) in
      pair_fits net emulated a b (neither (pair_fault net emulated a b) state e).0

  pub reset_fits : reset_fault net emulated a b ≡ None → PairFits net emulated a b
  unfolding reset_fault
  reset_fits e =
      let state = fault_if (not (is_up net a b)) (IsDown a b) in
      pair_fits net emulated a b (neither (pair_fault net emulated a b) state e).0

-- ---- a reload

-- the device and its peers are devices, it is emulated, and no device with its new AS number is
-- linked to it
pub record PlaceFits (net : Network) (emulated : List DeviceId) (d : DeviceId)
    (body : Body) : Type 0 where
  pub device : IsDevice net d
  pub peers : ListsDevices net body
  pub inside : outside_of emulated d ≡ false
  pub systems : same_system_fault net d body.asn ≡ None

-- its lists repeat nothing, and after it neither limit is passed
pub record ReloadFits (net : Network) (emulated : List DeviceId) (d : DeviceId)
    (body : Body) : Type 0 where
  pub place : PlaceFits net emulated d body
  pub own : OriginatesOnce body
  pub one_policy : ListsPeersOnce body
  pub few_prefixes : prefix_count (with_body net d body) ≤ most_prefixes
  pub few_rows : row_count (with_body net d body) emulated ≤ most_rows

pub place_fits : (net : Network) (emulated : List DeviceId) (d : DeviceId) (body : Body)
    → place_fault net emulated d body ≡ None → PlaceFits net emulated d body
unfolding place_fault
place_fits net emulated d body e =
    let number = number_fault net d in
    let peers = unknown_peer_fault net body.peers in
    let outside = outside_fault emulated d in
    let systems = same_system_fault net d body.asn in
    let first = neither number (peers or_else outside or_else systems) e in
    let second = neither peers (outside or_else systems) first.1 in
    let third = neither outside systems second.1 in
    record {
      device = is_number net d first.0;
      peers = are_numbers net body.peers second.0;
      inside = not_found (outside_of emulated d) (NotEmulated d) third.0;
      systems = third.1;
    }

pub reload_fits : (net : Network) (emulated : List DeviceId) (d : DeviceId) (body : Body)
    → reload_fault net emulated d body ≡ None → ReloadFits net emulated d body
unfolding reload_fault limit_fault
reload_fits net emulated d body e =
    let n = with_body net d body in
    let place = place_fault net emulated d body in
    let own = own_fault body.own in
    let policy = policy_fault body.peers in
    let few = above_fault Prefixes most_prefixes (prefix_count n) in
    let rows = above_fault Rows most_rows (row_count n emulated) in
    let first = neither place (own or_else policy or_else few or_else rows) e in
    let second = neither own (policy or_else few or_else rows) first.1 in
    let third = neither policy (few or_else rows) second.1 in
    let fourth = neither few rows third.1 in
    record {
      place = place_fits net emulated d body first.0;
      own =
          once (equivalence same_prefix same_prefix-Decides) (map (λ o. o.prefix) body.own)
          (no_option DuplicateOwn (first_twice same_prefix (map (λ o. o.prefix) body.own))
          second.0);
      one_policy =
          once (equivalence same_device same_device-Decides) (map (λ p. p.device) body.peers)
          (no_option DuplicatePeer (first_twice same_device (map (λ p. p.device) body.peers))
          third.0);
      few_prefixes = within Prefixes most_prefixes (prefix_count n) fourth.0;
      few_rows = within Rows most_rows (row_count n emulated) fourth.1;
    }

-- no device that is linked to it has its new AS number
pub other_system : (net : Network) (d p : DeviceId) (asn : Asn) → IsValid net
    → same_system_fault net d asn ≡ None → IsLinked net d p → asn_of net p ≢ asn
unfolding same_system_fault
other_system net d p asn valid none linked same =
    let test : DeviceId → Bool = λ q. (asn_of net q).0 == asn.0 in
    let all = All-from_find_none test (peers_of net d)
    (no_option SameAs (find test (peers_of net d)) none) in
    let differ : test p ≡ false =
    All-contains (λ q. test q ≡ false) (peers_of net d) p all (linked_peer net d p valid linked) in
    eqb-false (asn_of net p).0 asn.0 differ (ap (λ (s : Asn). s.0) same)
