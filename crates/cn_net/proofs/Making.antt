-- A draft without a fault stands for the network that is made of it, and no other draft for any.
use Rattle.std.proofs.Common.{◌≡◌, ◌≢◌, ℕ, ◌≤◌, List, length, map, sym, ◌∙◌, ap, subst, arith, Option, None, Result, Ok, Err, IfErr}
use Rattle.std.specs.List.{IsDistinct, All, flat_map}
use Rattle.std.specs.Set.{distinct_count}
use Rattle.std.specs.Str.{bytes_eq}
use Rattle.std.proofs.lemmas.List.{length-map}
use Rattle.std.proofs.lemmas.List.Elements.{All-map, All-weaker}
use Rattle.std.proofs.lemmas.List.Folds.{flat_map-map}
use Rattle.std.proofs.lemmas.Simd.{map-map}
use Rattle.cn_base.specs.Cidr.{same_prefix}
use Rattle.cn_net.specs.Drafted.{IfFault, StandsForNone, StandsForOne, device_draft, draft_of, link_draft, peer_draft}
use Rattle.cn_net.specs.Faults.{◌or_else◌, IsFirstNetFault, TellsFirst, device_fault, fault_of, first_in, link_fault, many_fault, parts_fault, peers_fault, prefixes_fault}
use Rattle.cn_net.specs.Kept.{names_of}
use Rattle.cn_net.specs.Network.{Network, IsDevice, originated, same_device}
use Rattle.cn_net.specs.Numbered.{device_made, link_made, peer_made, written_names}
use Rattle.cn_net.specs.Valid.{IsValid, JoinsDevices, ListsDevices, ListsPeersOnce, OriginatesOnce, same_router}
use Rattle.cn_net.specs.declared.device.Device.{Device}
use Rattle.cn_net.specs.declared.device.Link.{Link}
use Rattle.cn_net.specs.declared.device.Peer.{Peer}
use Rattle.cn_net.specs.declared.draft.Draft.{Draft}
use Rattle.cn_net.specs.declared.fault.NetAnswer.{NetAnswer}
use Rattle.cn_net.specs.declared.fault.NetAnswer.TheVariants.{Fault, Memory}
use Rattle.cn_net.specs.declared.fault.NetFault.{NetFault}
use Rattle.cn_net.specs.declared.fault.What.TheVariants.{Devices, Links, Prefixes}
use Rattle.cn_net.proofs.Faultless.{AreJoined, JoinsAmong, ListsOwnOnce, devices_distinct, devices_faultless, links_faultless, links_joined}
use Rattle.cn_net.proofs.Finding.{few_enough, not_many}
use Rattle.cn_net.proofs.First.{is_second, later, neither, sooner}
use Rattle.cn_net.proofs.Known.{AreKnown, HasKnown, IsKnown, all_faultless, all_known, peer_number}
use Rattle.cn_net.proofs.Places.{length-names, number_back}
use Rattle.cn_net.proofs.Remade.{devices_made, devices_redrafted, devices_remade, links_made, links_redrafted, links_remade, lists_devices, names_made, network_made, peers_remade}

-- ---- the faults of a draft, one step after another

abbrev pub parts_of : Draft → Option NetFault
parts_of draft = parts_fault (length draft.devices) (length draft.links)

abbrev pub devices_of : Draft → Option NetFault
devices_of draft = first_in device_fault draft.devices

abbrev pub prefixes_of : Draft → Option NetFault
prefixes_of draft = prefixes_fault draft.devices

abbrev pub peers_of : Draft → Option NetFault
peers_of draft = first_in (peers_fault (written_names draft.devices)) draft.devices

abbrev pub links_of : Draft → Option NetFault
links_of draft = first_in (link_fault (devices_made draft)) draft.links

abbrev from_peers : Draft → Option NetFault
from_peers draft = peers_of draft or_else links_of draft

abbrev from_prefixes : Draft → Option NetFault
from_prefixes draft = prefixes_of draft or_else from_peers draft

abbrev from_devices : Draft → Option NetFault
from_devices draft = devices_of draft or_else from_prefixes draft

-- no step finds a fault
pub record IsFaultless (draft : Draft) : Type 0 where
  pub parts : parts_of draft ≡ None
  pub devices : devices_of draft ≡ None
  pub prefixes : prefixes_of draft ≡ None
  pub peers : peers_of draft ≡ None
  pub links : links_of draft ≡ None

pub no_fault : (draft : Draft) → IsFaultless draft → fault_of draft ≡ None
unfolding fault_of
no_fault draft none =
    is_second (parts_of draft) (from_devices draft) none.parts
    ∙ is_second (devices_of draft) (from_prefixes draft) none.devices
    ∙ is_second (prefixes_of draft) (from_peers draft) none.prefixes
    ∙ is_second (peers_of draft) (links_of draft) none.peers
    ∙ none.links

faultless_from : (draft : Draft) → fault_of draft ≡ None → IsFaultless draft
unfolding fault_of
faultless_from draft none =
    let one = neither (parts_of draft) (from_devices draft) none in
    let two = neither (devices_of draft) (from_prefixes draft) one.1 in
    let three = neither (prefixes_of draft) (from_peers draft) two.1 in
    let four = neither (peers_of draft) (links_of draft) three.1 in
    record {
      parts = one.0;
      devices = two.0;
      prefixes = three.0;
      peers = four.0;
      links = four.1;
    }

module _ (draft : Draft) (e : NetAnswer) where
  pub parts_told : IsFirstNetFault (parts_of draft) e → IsFirstNetFault (fault_of draft) e
  unfolding fault_of
  parts_told so = sooner (parts_of draft) (from_devices draft) e so

  module _ (parts : parts_of draft ≡ None) where
    from_devices_told : IsFirstNetFault (from_devices draft) e → IsFirstNetFault (fault_of draft) e
    unfolding fault_of
    from_devices_told so = later (parts_of draft) (from_devices draft) e parts so

    pub devices_told : IsFirstNetFault (devices_of draft) e → IsFirstNetFault (fault_of draft) e
    devices_told so = from_devices_told (sooner (devices_of draft) (from_prefixes draft) e so)

    module _ (devices : devices_of draft ≡ None) where
      from_prefixes_told : IsFirstNetFault (from_prefixes draft) e
          → IsFirstNetFault (fault_of draft) e
      from_prefixes_told so =
          from_devices_told (later (devices_of draft) (from_prefixes draft) e devices so)

      pub prefixes_told : IsFirstNetFault (prefixes_of draft) e → IsFirstNetFault (fault_of draft) e
      prefixes_told so =
          from_prefixes_told (sooner (prefixes_of draft) (from_peers draft) e so)

      module _ (prefixes : prefixes_of draft ≡ None) where
        from_peers_told : IsFirstNetFault (from_peers draft) e → IsFirstNetFault (fault_of draft) e
        from_peers_told so =
            from_prefixes_told (later (prefixes_of draft) (from_peers draft) e prefixes so)

        pub peers_told : IsFirstNetFault (peers_of draft) e → IsFirstNetFault (fault_of draft) e
        peers_told so = from_peers_told (sooner (peers_of draft) (links_of draft) e so)

        pub links_told : peers_of draft ≡ None → IsFirstNetFault (links_of draft) e
            → IsFirstNetFault (fault_of draft) e
        links_told peers so = from_peers_told (later (peers_of draft) (links_of draft) e peers so)

-- ---- where no step finds a fault, the network that is made is valid and reads as the draft

few_devices : (devices links : ℕ) → parts_fault devices links ≡ None → devices ≤ 4096
few_devices devices links e =
    let both = neither (many_fault Devices 4096 devices) (many_fault Links 16384 links) e in
    not_many Devices 4096 devices both.0

few_links : (devices links : ℕ) → parts_fault devices links ≡ None → links ≤ 16384
few_links devices links e =
    let both = neither (many_fault Devices 4096 devices) (many_fault Links 16384 links) e in
    not_many Links 16384 links both.1

among : (net : Network) (l : Link) → JoinsDevices net l → JoinsAmong net.devices l
among net l j = record { a = j.a; b = j.b; apart = j.apart; systems = j.systems }

between : (net : Network) (l : Link) → JoinsAmong net.devices l → JoinsDevices net l
between net l j = record { a = j.a; b = j.b; apart = j.apart; systems = j.systems }

module _ (draft : Draft) (none : IsFaultless draft) where
  ends_made : All (JoinsDevices (network_made draft)) (links_made draft)
  ends_made =
      let net = network_made draft in
      All-weaker (JoinsAmong net.devices) (JoinsDevices net) (between net) net.links
      (links_joined net.devices draft.links none.links).ends

  pub valid_made : IsValid (network_made draft)
  valid_made =
      let net = network_made draft in
      let names = written_names draft.devices in
      let made = device_made names in
      let ds = draft.devices in
      let named = names_made names ds in
      let distinct = devices_distinct ds none.devices in
      let has = all_known names ds none.peers in
      let prefixes : originated net ≡ flat_map (λ d. map (λ o. o.prefix) d.body.own) ds =
      flat_map-map (λ d. map (λ o. o.prefix) d.body.own) made ds in
      let few = not_many Prefixes 16384
      (distinct_count same_prefix (flat_map (λ d. map (λ o. o.prefix) d.body.own) ds))
      none.prefixes in
      let devices = few_devices (length ds) (length draft.links) none.parts in
      let links = few_links (length ds) (length draft.links) none.parts in
      record {
        few_devices = omega (arith, length-map ds made, devices);
        few_links =
            omega (arith, length-map draft.links (link_made (names_of net.devices)), links);
        few_prefixes = subst (λ ps. distinct_count same_prefix ps ≤ 16384) (sym prefixes) few;
        names = subst (IsDistinct bytes_eq) (sym named) distinct.names;
        ids = subst (IsDistinct same_router) (sym (map-map (λ d. d.id) made ds)) distinct.ids;
        own = All-map (λ d. OriginatesOnce d.body) made ds distinct.own;
        peers =
            All-map (λ d. ListsDevices net d.body) made ds
            (All-weaker (HasKnown names) (λ d. ListsDevices net (made d).body)
            (lists_devices net names named) ds has);
        one_policy =
            All-map (λ d. ListsPeersOnce d.body) made ds
            (All-weaker (HasKnown names) (λ d. ListsPeersOnce (made d).body)
            (λ d known.
            subst (IsDistinct same_device)
            (sym (map-map (λ p. p.device) (peer_made names) d.body.peers)) known.once)
            ds has);
        ends = ends_made;
        one_link = (links_joined net.devices draft.links none.links).one_link;
      }

  pub reads_back : draft_of (network_made draft) ≡ draft
  reads_back =
      let net = network_made draft in
      let names = written_names draft.devices in
      let has = all_known names draft.devices none.peers in
      let ds = devices_redrafted net names (names_made names draft.devices) draft.devices has in
      let ls = links_redrafted net draft.links ends_made in
      λ j. record { devices = ds j; links = ls j }

-- ---- what a valid network reads as has no fault, and makes the network again

names_drafted : (net : Network) (ds : List Device)
    → written_names (map (device_draft net) ds) ≡ names_of ds
names_drafted net ds = map-map (λ d. d.name) (device_draft net) ds

module _ (net : Network) (valid : IsValid net) where
  devices_again : devices_made (draft_of net) ≡ net.devices
  devices_again =
      ap (λ ns. map (device_made ns) (map (device_draft net) net.devices))
      (names_drafted net net.devices)
      ∙ devices_remade net valid.names net.devices valid.peers

  pub remade : network_made (draft_of net) ≡ net
  remade =
      let links : links_made (draft_of net) ≡ net.links =
      ap (λ ds. map (link_made (names_of ds)) (map (link_draft net) net.links)) devices_again
      ∙ links_remade net valid.names net.links valid.ends in
      λ j. record { devices = devices_again j; links = links j }

  -- the numbers of the peers that are read as names
  numbers_again : (ps : List Peer) → All (λ p. IsDevice net p.device) ps
      → map (peer_number (names_of net.devices)) (map (peer_draft net) ps) ≡ map (λ p. p.device) ps
  numbers_again ps all =
      let names = names_of net.devices in
      sym (map-map (λ p. p.device) (peer_made names) (map (peer_draft net) ps))
      ∙ ap (map (λ p. p.device)) (peers_remade net valid.names ps all)

  known_again : (ps : List Peer) → All (λ p. IsDevice net p.device) ps
      → IsDistinct same_device (map (λ p. p.device) ps)
      → AreKnown (names_of net.devices) (map (peer_draft net) ps)
  known_again ps all once =
      let names = names_of net.devices in
      record {
        devices =
            All-map (IsKnown names) (peer_draft net) ps
            (All-weaker (λ p. IsDevice net p.device) (λ p. IsKnown names (peer_draft net p))
            (λ p is.
            let place = ap (λ d. d.0) (number_back net valid.names p.device is) in
            omega (arith, place, length-names net, is))
            ps all);
        once = subst (IsDistinct same_device) (sym (numbers_again ps all)) once;
      }

  all_again : All (HasKnown (names_of net.devices)) (map (device_draft net) net.devices)
  all_again =
      let names = names_of net.devices in
      All-map (HasKnown names) (device_draft net) net.devices
      (λ k d below. known_again _ (valid.peers k d below) (valid.one_policy k d below))

  faultless_again : IsFaultless (draft_of net)
  faultless_again =
      let draft = draft_of net in
      let drafted = device_draft net in
      let named = names_drafted net net.devices in
      let devices : length net.devices ≡ length draft.devices =
      sym (length-map net.devices drafted) in
      let links : length net.links ≡ length draft.links =
      sym (length-map net.links (link_draft net)) in
      let prefixes : flat_map (λ d. map (λ o. o.prefix) d.body.own) draft.devices ≡ originated net =
      flat_map-map (λ d. map (λ o. o.prefix) d.body.own) drafted net.devices in
      let ends = links_remade net valid.names net.links valid.ends in
      let joined : AreJoined net.devices net.links = record {
        ends =
            All-weaker (JoinsDevices net) (JoinsAmong net.devices) (among net) net.links valid.ends;
        one_link = valid.one_link;
      } in
      record {
        parts =
            is_second (many_fault Devices 4096 (length draft.devices))
            (many_fault Links 16384 (length draft.links))
            (few_enough Devices 4096 (length net.devices) (length draft.devices) devices
            valid.few_devices)
            ∙ few_enough Links 16384 (length net.links) (length draft.links) links valid.few_links;
        devices = devices_faultless draft.devices (record {
          names = subst (IsDistinct bytes_eq) (sym named) valid.names;
          ids =
              subst (IsDistinct same_router) (sym (map-map (λ d. d.id) drafted net.devices))
              valid.ids;
          own = All-map ListsOwnOnce drafted net.devices valid.own;
        });
        prefixes =
            few_enough Prefixes 16384 (distinct_count same_prefix (originated net))
            (distinct_count same_prefix
            (flat_map (λ d. map (λ o. o.prefix) d.body.own) draft.devices))
            (ap (distinct_count same_prefix) (sym prefixes)) valid.few_prefixes;
        peers =
            all_faultless (written_names draft.devices) draft.devices
            (subst (λ ns. All (HasKnown ns) draft.devices) (sym named) all_again);
        links =
            subst (λ ds. first_in (link_fault ds) draft.links ≡ None) (sym devices_again)
            (links_faultless net.devices draft.links
            (subst (AreJoined net.devices) (sym ends) joined));
      }

-- ---- a draft without a fault stands for a valid network, and no other draft does

pub stands_for : (draft : Draft) → fault_of draft ≡ None → StandsForOne draft
stands_for draft e =
    let none = faultless_from draft e in
    (network_made draft, valid_made draft none, reads_back draft none)

pub faultless_where : (draft : Draft) → StandsForOne draft → fault_of draft ≡ None
faultless_where draft (net, valid, reads) =
    ap fault_of (sym reads) ∙ no_fault (draft_of net) (faultless_again net valid)

stands_none : (draft : Draft) (e : NetAnswer) → IsFirstNetFault (fault_of draft) e
    → IfFault (StandsForNone draft) e
stands_none draft (Fault f) so = λ net valid reads.
    let none : fault_of draft ≡ None = faultless_where draft (net, valid, reads) in
    cc
stands_none draft Memory so = tt

-- an answer that tells of the first fault says that there is no network
pub none_told : {T : Type 0} (draft : Draft) (r : Result T NetAnswer)
    → TellsFirst (fault_of draft) r
    → IfErr r (IfFault (StandsForNone draft))
none_told draft (Ok x) so = tt
none_told draft (Err e) so = stands_none draft e so

-- ---- what the list of neighbours asks

pub ends_apart : (devices : List Device) (links : List Link) → AreJoined devices links
    → All (λ l. l.a ≢ l.b) links
ends_apart devices links joined =
    All-weaker (JoinsAmong devices) (λ l. l.a ≢ l.b) (λ l j. j.apart) links joined.ends
