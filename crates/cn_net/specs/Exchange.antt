-- What a device offers to another, and what that one accepts.
-- A rule of BGP stands here once, as three definitions of a directed link: what export permits,
-- what import permits, and how many copies of the AS number are put in front.
use Rattle.std.specs.Prelude.{ℕ, suc, ◌++◌, Bool, false, not, ◌&&◌, nat_le, if◌then◌else◌, List, length, replicate, Option, Some, None, find, option_and_then, option_map, unwrap_or}
use Rattle.cn_base.specs.Cidr.{Cidr}
use Rattle.cn_base.specs.Paths.{holds_asn}
use Rattle.cn_base.specs.declared.ids.Asn.{Asn}
use Rattle.cn_base.specs.declared.ids.DeviceId.{DeviceId}
use Rattle.cn_base.specs.declared.ids.Origin.{Origin}
use Rattle.cn_base.specs.declared.route.Route.{Route}
use Rattle.cn_plist.specs.Lists.{permits_if_any}
use Rattle.cn_net.specs.Network.{Network, device_of, link_between, same_device}
use Rattle.cn_net.specs.declared.device.Body.{Body}
use Rattle.cn_net.specs.declared.device.Policy.{Policy}

-- ---- what a device's configuration says of a peer

-- the policy for a peer: of several the first, and none where there is none
abbrev pub policy_for : Body → DeviceId → Option Policy
policy_for body peer = option_map (λ q. q.policy) (find (λ q. same_device q.device peer) body.peers)

-- a device with this body may offer the route to the peer
unfoldable pub export_permits : Body → DeviceId → Route → Bool
export_permits body peer r =
    permits_if_any (option_and_then (λ y. y.export) (policy_for body peer)) r.prefix

-- a device with this body may accept the route from the peer
unfoldable pub import_permits : Body → DeviceId → Route → Bool
import_permits body peer r =
    permits_if_any (option_and_then (λ y. y.import) (policy_for body peer)) r.prefix

-- how often the AS number is put in front of a route that is offered to the peer: at least once
-- (RFC 4271, 5.1.2)
unfoldable pub copies : Body → DeviceId → Route → ℕ
copies body peer r = suc (unwrap_or (option_map (λ y. y.prepend) (policy_for body peer)) 0)

-- ---- the rules of one device

-- the path of what is offered to a peer of a route
unfoldable pub offered_path : Body → DeviceId → Route → List Asn
offered_path body peer r = replicate (copies body peer r) body.asn ++ r.path

-- What is offered to a peer of a route, where the link to it is up: the route with the longer path,
-- or nothing where export denies it or the path would pass 255 numbers.
unfoldable pub offered : Body → DeviceId → Route → Option Route
offered body peer r =
    if export_permits body peer r && nat_le (length (offered_path body peer r)) 255
    then Some (record r { path = offered_path body peer r })
    else None

-- a route is accepted from a peer where its path doesn't hold the AS number (RFC 4271, 9.1.2) and
-- import permits it
unfoldable pub accepts : Body → DeviceId → Route → Bool
accepts body peer r = not (holds_asn r.path body.asn) && import_permits body peer r

-- ---- the same by the devices' numbers

-- the two are linked, and the link is up
abbrev pub is_up : Network → DeviceId → DeviceId → Bool
is_up net a b = unwrap_or (link_between net a b) false

-- what a offers to b of a route
unfoldable pub offer : Network → DeviceId → DeviceId → Route → Option Route
offer net a b r =
    if is_up net a b then option_and_then (λ d. offered d.body b r) (device_of net a) else None

-- b accepts a route from a
unfoldable pub accept : Network → DeviceId → DeviceId → Route → Bool
accept net b a r = unwrap_or (option_map (λ d. accepts d.body a r) (device_of net b)) false

-- ---- routes whose parts stand apart

-- the route of these parts
abbrev pub route_with : Cidr → List Asn → Origin → Route
route_with prefix path origin = record { prefix = prefix; path = path; origin = origin }
