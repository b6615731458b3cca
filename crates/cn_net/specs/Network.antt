-- The network as contracts see it, and what is read from it.
use Rattle.std.specs.Prelude.{◌≡◌, ℕ, is_some, ◌<◌, ◌==◌, ◌&&◌, ◌||◌, Bool, List, [], length, Option, find, option_map, option_and_then, slice_get, unwrap_or, IsSome, map, flat_map}
use Rattle.std.specs.List.{filter, range_with_len}
use Rattle.cn_base.specs.Cidr.{Cidr, same_prefix}
use Rattle.cn_base.specs.declared.ids.Asn.{Asn}
use Rattle.cn_base.specs.declared.ids.DeviceId.{DeviceId}
use Rattle.cn_base.specs.declared.ids.Origin.{Origin}
use Rattle.cn_base.specs.declared.ids.RouterId.{RouterId}
use Rattle.cn_net.specs.declared.device.Body.{Body}
use Rattle.cn_net.specs.declared.device.Device.{Device}
use Rattle.cn_net.specs.declared.device.Link.{Link}

-- the devices, each at the place that is its number, and the links between them (RFC 7938, 5)
pub record Network : Type 0 where
  pub devices : List Device
  pub links : List Link

abbrev pub same_device : DeviceId → DeviceId → Bool
same_device a b = a.0 == b.0

-- d is the number of a device
abbrev pub IsDevice : Network → DeviceId → Type 0
IsDevice net d = d.0 < length net.devices

abbrev pub device_of : Network → DeviceId → Option Device
device_of net d = slice_get net.devices d.0

-- a device's name, as its octets; none where there is no such device
abbrev pub name_of : Network → DeviceId → List ℕ
name_of net d = unwrap_or (option_map (λ x. x.name) (device_of net d)) []

-- a device's AS number; 0 where there is no such device
abbrev pub asn_of : Network → DeviceId → Asn
asn_of net d = unwrap_or (option_map (λ x. x.body.asn) (device_of net d)) (record { 0 = 0 })

-- a device's BGP Identifier; 0 where there is no such device
abbrev pub router_of : Network → DeviceId → RouterId
router_of net d = unwrap_or (option_map (λ x. x.id) (device_of net d)) (record { 0 = 0 })

-- no two devices have one BGP Identifier
abbrev pub HasDistinctIds : Network → Type 0
HasDistinctIds net = (a b : DeviceId) → IsDevice net a → IsDevice net b
    → router_of net a ≡ router_of net b → a ≡ b

-- the ORIGIN with which a device with this body originates a prefix, and none where it doesn't
abbrev pub own_of : Body → Cidr → Option Origin
own_of body p = option_map (λ o. o.origin) (find (λ o. same_prefix o.prefix p) body.own)

-- the ORIGIN with which a device originates a prefix, and none where it doesn't
abbrev pub own_origin : Network → DeviceId → Cidr → Option Origin
own_origin net d p = option_and_then (λ x. own_of x.body p) (device_of net d)

abbrev pub joins : DeviceId → DeviceId → Link → Bool
joins a b l = (same_device l.a a && same_device l.b b) || (same_device l.a b && same_device l.b a)

-- the state of the link between two devices, up or down, and none where they aren't linked
abbrev pub link_between : Network → DeviceId → DeviceId → Option Bool
link_between net a b = option_map (λ l. l.up) (find (joins a b) net.links)

-- two devices are linked, whether the link is up or down
abbrev pub IsLinked : Network → DeviceId → DeviceId → Type 0
IsLinked net a b = IsSome (link_between net a b)

-- the numbers of the devices, in ascending order
unfoldable pub device_ids : Network → List DeviceId
device_ids net = map (λ n. record { 0 = n }) (range_with_len 0 (length net.devices))

abbrev pub is_linked : Network → DeviceId → DeviceId → Bool
is_linked net a b = is_some (link_between net a b)

-- the devices that are linked to d, up or down, in ascending order
unfoldable pub peers_of : Network → DeviceId → List DeviceId
peers_of net d = filter (is_linked net d) (device_ids net)

-- the prefixes that devices originate, one device after another
abbrev pub originated : Network → List Cidr
originated net = flat_map (λ d. map (λ o. o.prefix) d.body.own) net.devices
