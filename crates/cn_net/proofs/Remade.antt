-- What is made of a draft reads as the draft, and what is made of what a network reads as is the
-- network: devices, peers and links one by one.
use Rattle.std.proofs.Common.{◌≡◌, ℕ, ◌<◌, List, [], ◌∷◌, length, map, refl, ap, subst, arith}
use Rattle.std.specs.List.{IsDistinct, All}
use Rattle.std.specs.Str.{bytes_eq}
use Rattle.std.proofs.lemmas.List.Elements.{All-head, All-map, All-tail, All-weaker}
use Rattle.std.proofs.lemmas.Simd.{map-map}
use Rattle.cn_net.specs.Drafted.{device_draft, link_draft, peer_draft}
use Rattle.cn_net.specs.Kept.{names_of}
use Rattle.cn_net.specs.Network.{Network, IsDevice, name_of}
use Rattle.cn_net.specs.Numbered.{device_made, link_made, number_in, peer_made, place_of, written_names}
use Rattle.cn_net.specs.Valid.{JoinsDevices, ListsDevices}
use Rattle.cn_net.specs.declared.device.Device.{Device}
use Rattle.cn_net.specs.declared.device.Link.{Link}
use Rattle.cn_net.specs.declared.device.Peer.{Peer}
use Rattle.cn_net.specs.declared.draft.DeviceDraft.{DeviceDraft}
use Rattle.cn_net.specs.declared.draft.Draft.{Draft}
use Rattle.cn_net.specs.declared.draft.LinkDraft.{LinkDraft}
use Rattle.cn_net.specs.declared.draft.PeerDraft.{PeerDraft}
use Rattle.cn_net.proofs.Known.{HasKnown, IsKnown, peer_number}
use Rattle.cn_net.proofs.Places.{length-names, name_back, number_back}

-- ---- the network that is made

abbrev pub devices_made : Draft → List Device
devices_made draft = map (device_made (written_names draft.devices)) draft.devices

abbrev pub links_made : Draft → List Link
links_made draft = map (link_made (names_of (devices_made draft))) draft.links

abbrev pub network_made : Draft → Network
network_made draft = record { devices = devices_made draft; links = links_made draft }

-- its devices' names are those that are written
pub names_made : (names : List (List ℕ)) (ds : List DeviceDraft)
    → names_of (map (device_made names) ds) ≡ written_names ds
names_made names ds = map-map (λ d. d.name) (device_made names) ds

-- ---- there and back

-- where two functions undo one another at each element, they do so at the list
back : {X Y : Type 0} (f : X → Y) (g : Y → X) (xs : List X) → All (λ x. g (f x) ≡ x) xs
    → map g (map f xs) ≡ xs
back f g [] all = refl
back {X} f g (x ∷ xs) all =
    let Undone : X → Type 0 = λ y. g (f y) ≡ y in
    λ j. All-head Undone x xs all j ∷ back f g xs (All-tail Undone x xs all) j

module _ (net : Network) (distinct : IsDistinct bytes_eq (names_of net.devices)) where
  pub peers_remade : (ps : List Peer) → All (λ p. IsDevice net p.device) ps
      → map (peer_made (names_of net.devices)) (map (peer_draft net) ps) ≡ ps
  peers_remade ps all =
      let names = names_of net.devices in
      back (peer_draft net) (peer_made names) ps
      (All-weaker (λ p. IsDevice net p.device)
      (λ p. peer_made names (peer_draft net p) ≡ p)
      (λ p is j. record { device = number_back net distinct p.device is j; policy = p.policy })
      ps all)

  device_remade : (d : Device) → ListsDevices net d.body
      → device_made (names_of net.devices) (device_draft net d) ≡ d
  device_remade d lists = λ j. record {
    name = d.name;
    layer = d.layer;
    id = d.id;
    body = record {
      asn = d.body.asn;
      own = d.body.own;
      peers = peers_remade d.body.peers lists j;
    };
  }

  pub devices_remade : (ds : List Device) → All (λ d. ListsDevices net d.body) ds
      → map (device_made (names_of net.devices)) (map (device_draft net) ds) ≡ ds
  devices_remade ds all =
      let made = device_made (names_of net.devices) in
      back (device_draft net) made ds
      (All-weaker (λ d. ListsDevices net d.body)
      (λ d. made (device_draft net d) ≡ d) device_remade ds all)

  link_remade : (l : Link) → JoinsDevices net l
      → link_made (names_of net.devices) (link_draft net l) ≡ l
  link_remade l joins = λ j. record {
    a = number_back net distinct l.a joins.a j;
    b = number_back net distinct l.b joins.b j;
    up = l.up;
  }

  pub links_remade : (ls : List Link) → All (JoinsDevices net) ls
      → map (link_made (names_of net.devices)) (map (link_draft net) ls) ≡ ls
  links_remade ls all =
      let made = link_made (names_of net.devices) in
      back (link_draft net) made ls
      (All-weaker (JoinsDevices net) (λ l. made (link_draft net l) ≡ l) link_remade ls all)

module _ (net : Network) (names : List (List ℕ)) (named : names_of net.devices ≡ names) where
  name_again : (name : List ℕ) → place_of names name < length net.devices
      → name_of net (number_in names name) ≡ name
  name_again =
      subst (λ ns. (name : List ℕ) → place_of ns name < length net.devices
      → name_of net (number_in ns name) ≡ name) named (name_back net)

  within : (p : PeerDraft) → IsKnown names p → place_of names p.name < length net.devices
  within p known = omega (arith, known, length-names net, ap length named)

  peers_redrafted : (ps : List PeerDraft) → All (IsKnown names) ps
      → map (peer_draft net) (map (peer_made names) ps) ≡ ps
  peers_redrafted ps all =
      back (peer_made names) (peer_draft net) ps
      (All-weaker (IsKnown names) (λ p. peer_draft net (peer_made names p) ≡ p)
      (λ p known j. record { name = name_again p.name (within p known) j; policy = p.policy })
      ps all)

  device_redrafted : (d : DeviceDraft) → HasKnown names d
      → device_draft net (device_made names d) ≡ d
  device_redrafted d has = λ j. record {
    name = d.name;
    layer = d.layer;
    id = d.id;
    body = record {
      asn = d.body.asn;
      own = d.body.own;
      peers = peers_redrafted d.body.peers has.devices j;
    };
  }

  pub devices_redrafted : (ds : List DeviceDraft) → All (HasKnown names) ds
      → map (device_draft net) (map (device_made names) ds) ≡ ds
  devices_redrafted ds all =
      back (device_made names) (device_draft net) ds
      (All-weaker (HasKnown names) (λ d. device_draft net (device_made names d) ≡ d)
      device_redrafted ds all)

  -- the peers that are made are devices
  pub lists_devices : (d : DeviceDraft) → HasKnown names d
      → ListsDevices net (device_made names d).body
  lists_devices d has =
      All-map (λ p. IsDevice net p.device) (peer_made names) d.body.peers
      (All-weaker (IsKnown names) (λ p. IsDevice net (peer_number names p)) within
      d.body.peers has.devices)

pub links_redrafted : (net : Network) (ls : List LinkDraft)
    → All (JoinsDevices net) (map (link_made (names_of net.devices)) ls)
    → map (link_draft net) (map (link_made (names_of net.devices)) ls) ≡ ls
links_redrafted net [] all = refl
links_redrafted net (l ∷ ls) all =
    let made = link_made (names_of net.devices) in
    let joins = All-head (JoinsDevices net) (made l) (map made ls) all in
    let others = All-tail (JoinsDevices net) (made l) (map made ls) all in
    let here : link_draft net (made l) ≡ l =
    λ j. record { a = name_back net l.a joins.a j; b = name_back net l.b joins.b j; up = l.up } in
    λ j. here j ∷ links_redrafted net ls others j
