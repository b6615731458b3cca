-- What a network always is.
use Rattle.std.specs.Prelude.{◌≢◌, ◌≤◌, ◌==◌, Bool, length, map, All}
use Rattle.std.specs.List.{IsDistinct}
use Rattle.std.specs.Set.{distinct_count}
use Rattle.std.specs.Str.{bytes_eq}
use Rattle.cn_base.specs.Cidr.{same_prefix}
use Rattle.cn_base.specs.declared.ids.RouterId.{RouterId}
use Rattle.cn_net.specs.Network.{Network, IsDevice, asn_of, joins, originated, same_device}
use Rattle.cn_net.specs.declared.device.Body.{Body}
use Rattle.cn_net.specs.declared.device.Link.{Link}

abbrev pub same_router : RouterId → RouterId → Bool
same_router x y = x.0 == y.0

-- two links have the same two ends, in either order
abbrev pub same_ends : Link → Link → Bool
same_ends k l = joins l.a l.b k

-- no prefix stands twice in what a device originates
abbrev pub OriginatesOnce : Body → Type 0
OriginatesOnce body = IsDistinct same_prefix (map (λ o. o.prefix) body.own)

-- no peer stands twice in a body
abbrev pub ListsPeersOnce : Body → Type 0
ListsPeersOnce body = IsDistinct same_device (map (λ p. p.device) body.peers)

-- each peer of a body is a device of the network, be it linked or not
abbrev pub ListsDevices : Network → Body → Type 0
ListsDevices net body = All (λ p. IsDevice net p.device) body.peers

-- l joins two different devices of the network, whose AS numbers differ: its session is eBGP
-- (RFC 4271, 3)
pub record JoinsDevices (net : Network) (l : Link) : Type 0 where
  pub a : IsDevice net l.a
  pub b : IsDevice net l.b
  pub apart : l.a ≢ l.b
  pub systems : asn_of net l.a ≢ asn_of net l.b

-- A valid network: within the limits, with distinct names and router ids, no prefix and no peer
-- twice in one device, all peers devices of its own, and between two devices at most one link.
pub record IsValid (net : Network) : Type 0 where
  pub few_devices : length net.devices ≤ 4096
  pub few_links : length net.links ≤ 16384
  pub few_prefixes : distinct_count same_prefix (originated net) ≤ 16384
  pub names : IsDistinct bytes_eq (map (λ d. d.name) net.devices)
  pub ids : IsDistinct same_router (map (λ d. d.id) net.devices)
  pub own : All (λ d. OriginatesOnce d.body) net.devices
  pub peers : All (λ d. ListsDevices net d.body) net.devices
  pub one_policy : All (λ d. ListsPeersOnce d.body) net.devices
  pub ends : All (JoinsDevices net) net.links
  pub one_link : IsDistinct same_ends net.links
