-- The islands, by their devices and by the prefixes that they originate, as the code keeps them.
-- Below, `label d` is the label of d's island.
use Rattle.std.specs.Prelude.{◌≡◌, ◌⊎◌, Bool, List, Option, Some, IsSome, All, Contains}
use Rattle.std.specs.List.Sorted.{IsNonDecreasingBy, IsSortedBy, IsStrictlySortedBy}
use Rattle.std.specs.Ordering.{is_lt, nat_cmp, on, then_cmp}
use Rattle.std.specs.declared.cmp.Ordering.{Ordering}
use Rattle.cn_base.specs.Cidr.{Cidr}
use Rattle.cn_base.specs.Table.{prefix_cmp}
use Rattle.cn_base.specs.declared.ids.DeviceId.{DeviceId}
use Rattle.cn_net.specs.Certificate.{Originates}
use Rattle.cn_net.specs.Network.{Network, IsDevice, own_origin, same_device}
use Rattle.cn_net.specs.Records.{IsOfIsland}
use Rattle.cn_record.specs.declared.islands.IslandPrefix.{IslandPrefix}
use Rattle.cn_record.specs.declared.islands.Member.{Member}

-- ---- devices

-- first by the island, then by the device
abbrev pub member_cmp : Member → Member → Ordering
member_cmp = then_cmp (on (λ m. m.island.0) nat_cmp) (on (λ m. m.device.0) nat_cmp)

-- the members don't fall
abbrev pub IsByIsland : List Member → Type 0
IsByIsland members = IsSortedBy (λ x y. is_lt (member_cmp x y)) members

-- m is of the island
abbrev pub is_member : DeviceId → Member → Bool
is_member island m = same_device m.island island

-- the devices that have a label, each with it
pub record AreMembers (net : Network) (label : DeviceId → Option DeviceId)
    (members : List Member) : Type 0 where
  pub each : All (λ m. IsDevice net m.device × (label m.device ≡ Some m.island)) members
  pub all : (d i : DeviceId) → IsDevice net d → label d ≡ Some i
      → Contains members (record { island = i; device = d })

-- the devices of the island with the label i, by their numbers
pub record AreOfIsland (net : Network) (label : DeviceId → Option DeviceId) (i : DeviceId)
    (part : List Member) : Type 0 where
  pub each : All (λ m. IsDevice net m.device × (label m.device ≡ Some i)) part
  pub all : (d : DeviceId) → IsDevice net d → label d ≡ Some i
      → Contains part (record { island = i; device = d })
  pub rises : IsNonDecreasingBy (λ m. m.device.0) part

-- ---- prefixes

-- p, of the island i
abbrev pub of_island : DeviceId → Cidr → IslandPrefix
of_island i p = record { prefix = p; island = i }

-- no prefix of an island is originated elsewhere
abbrev pub HasOwnPrefixes : Network → (DeviceId → Option DeviceId) → Type 0
HasOwnPrefixes net label = (i d x : DeviceId) (p : Cidr) → label d ≡ Some i → Originates net d p
    → Originates net x p → label x ≡ Some i

-- the prefixes that islands originate, each once, with the island that does
pub record AreIslandPrefixes (net : Network) (label : DeviceId → Option DeviceId)
    (list : List IslandPrefix) : Type 0 where
  pub each : All (λ x. IsOfIsland net label x.island x.prefix) list
  pub all : (i : DeviceId) (p : Cidr) → IsOfIsland net label i p → Contains list (of_island i p)
  pub ascending : IsStrictlySortedBy (on (λ x. x.prefix) prefix_cmp) list

-- new has what old has, and the prefixes that d originates, if it is of an island, and no others
pub record AddsPrefixes (net : Network) (label : DeviceId → Option DeviceId) (d : DeviceId)
    (old new : List IslandPrefix) : Type 0 where
  pub kept : (x : IslandPrefix) → Contains old x → Contains new x
  pub added : (i : DeviceId) (p : Cidr) → label d ≡ Some i → IsSome (own_origin net d p)
      → Contains new (of_island i p)
  pub only : (x : IslandPrefix) → Contains new x
      → Contains old x ⊎ IsOfIsland net label x.island x.prefix
