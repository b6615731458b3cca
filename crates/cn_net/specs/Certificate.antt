-- The certificate of a boundary: what each island has to meet, so that the emulated devices hold
-- what they hold in the whole network. Below, `outside d` says that d isn't emulated, and `label d`
-- is the label of d's island.
use Rattle.std.specs.Prelude.{◌≡◌, Bool, false, Option, Some, IsSome}
use Rattle.cn_base.specs.Cidr.{Cidr}
use Rattle.cn_base.specs.declared.ids.DeviceId.{DeviceId}
use Rattle.cn_net.specs.Network.{Network, IsDevice, IsLinked, asn_of, own_origin}

-- ---- who faces an island, and who originates a prefix

-- an emulated device that is linked to a device of the island
pub record IsEmulatedFacing
    (net : Network) (outside : DeviceId → Bool) (label : DeviceId → Option DeviceId)
    (island e : DeviceId) : Type 0 where
  pub is_device : IsDevice net e
  pub emulated : outside e ≡ false
  pub peer : DeviceId
  pub peer_is_device : IsDevice net peer
  pub in_island : label peer ≡ Some island
  pub linked : IsLinked net e peer

-- a device of the island that is linked to an emulated device
pub record IsOutsideFacing
    (net : Network) (outside : DeviceId → Bool) (label : DeviceId → Option DeviceId)
    (island d : DeviceId) : Type 0 where
  pub is_device : IsDevice net d
  pub in_island : label d ≡ Some island
  pub peer : DeviceId
  pub peer_is_device : IsDevice net peer
  pub emulated : outside peer ≡ false
  pub linked : IsLinked net peer d

abbrev pub Originates : Network → DeviceId → Cidr → Type 0
Originates net d p = IsDevice net d × IsSome (own_origin net d p)

-- ---- the certificate

-- these devices have one AS number
abbrev pub HaveOneSystem : Network → (DeviceId → Type 0) → Type 0
HaveOneSystem net These = (x y : DeviceId) → These x → These y → asn_of net x ≡ asn_of net y

-- no prefix that a device of the island originates is originated by a device that isn't in it
abbrev pub HasOwnPrefixes : Network → (DeviceId → Option DeviceId) → DeviceId → Type 0
HasOwnPrefixes net label island =
    (d x : DeviceId) (p : Cidr) → label d ≡ Some island → Originates net d p → Originates net x p
    → label x ≡ Some island

-- an island has its certificate: one AS number on either side of its boundary, and its prefixes
-- alone
pub record HasCertificate
    (net : Network) (outside : DeviceId → Bool) (label : DeviceId → Option DeviceId)
    (island : DeviceId) : Type 0 where
  pub emulated_side : HaveOneSystem net (IsEmulatedFacing net outside label island)
  pub outside_side : HaveOneSystem net (IsOutsideFacing net outside label island)
  pub origins : HasOwnPrefixes net label island

-- each island has its certificate
pub record IsCertified
    (net : Network) (outside : DeviceId → Bool) (label : DeviceId → Option DeviceId) : Type 0 where
  pub island : (i : DeviceId) → HasCertificate net outside label i
