-- Which devices a prefix concerns: those that originate it, and those of which there is a row for
-- it.
use Rattle.std.specs.Prelude.{◌≡◌, ◌⊎◌, Bool, Contains, IsSome, List, Option, Some}
use Rattle.std.specs.List.Sorted.{IsSortedByKey}
use Rattle.std.specs.Option.{option_eq}
use Rattle.std.specs.Ordering.{is_eq}
use Rattle.cn_base.specs.Cidr.{Cidr}
use Rattle.cn_base.specs.Table.{prefix_cmp}
use Rattle.cn_base.specs.declared.ids.DeviceId.{DeviceId}
use Rattle.cn_net.specs.Network.{Network, IsDevice, own_origin, same_device}
use Rattle.cn_record.specs.Rows.{row_for}
use Rattle.cn_record.specs.declared.places.Places.{Places}
use Rattle.cn_record.specs.declared.places.PrefixDevice.{PrefixDevice}
use Rattle.cn_record.specs.declared.saved.Row.{Row}

-- ---- the devices of an island

-- d has the label i
abbrev pub is_inside : (DeviceId → Option DeviceId) → DeviceId → DeviceId → Bool
is_inside label i d = option_eq same_device (label d) (Some i)

-- d is a device of the island i
abbrev pub IsInside : Network → (DeviceId → Option DeviceId) → DeviceId → DeviceId → Type 0
IsInside net label i d = IsDevice net d × (label d ≡ Some i)

-- new has what old has and each device of which Is holds, and nothing else but devices of which In
-- holds
pub record AddsDevices (Is In : DeviceId → Type 0) (old new : List DeviceId) : Type 0 where
  pub kept : (x : DeviceId) → Contains old x → Contains new x
  pub added : (x : DeviceId) → Is x → Contains new x
  pub only : (x : DeviceId) → Contains new x → Contains old x ⊎ In x

-- ---- prefixes with devices

-- p, and the device d
abbrev pub at_device : DeviceId → Cidr → PrefixDevice
at_device d p = record { prefix = p; device = d }

-- the prefix and the device of a row
abbrev pub place_of : Row → PrefixDevice
place_of r = at_device r.device r.prefix

-- x has the prefix p
abbrev pub is_at : Cidr → PrefixDevice → Bool
is_at p x = is_eq (prefix_cmp x.prefix p)

-- the prefixes don't fall
abbrev pub IsByPrefix : List PrefixDevice → Type 0
IsByPrefix list = IsSortedByKey (λ x. x.prefix) prefix_cmp list

-- new has what old has, and the prefixes that d originates
pub record AddsOwn (net : Network) (d : DeviceId) (old new : List PrefixDevice) : Type 0 where
  pub kept : (x : PrefixDevice) → Contains old x → Contains new x
  pub added : (p : Cidr) → IsSome (own_origin net d p) → Contains new (at_device d p)

-- each prefix that a device originates stands in the list with the device
abbrev pub HasOriginators : Network → List PrefixDevice → Type 0
HasOriginators net list =
    (d : DeviceId) (p : Cidr) → IsDevice net d → IsSome (own_origin net d p)
    → Contains list (at_device d p)

-- each device and prefix of which there is a row stand in the list
abbrev pub HasRowDevices : List Row → List PrefixDevice → Type 0
HasRowDevices rows list =
    (d : DeviceId) (p : Cidr) → IsSome (row_for rows d p) → Contains list (at_device d p)

-- both lists have all that they are to have, by prefix
pub record ArePlaces (net : Network) (rows : List Row) (places : Places) : Type 0 where
  pub has_originators : HasOriginators net places.originators.items
  pub by_prefix : IsByPrefix places.originators.items
  pub has_rows : HasRowDevices rows places.recorded.items
  pub rows_by_prefix : IsByPrefix places.recorded.items
