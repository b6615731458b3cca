-- What a refusal of a boundary names, and which refusal is the first.
-- Below, `outside d` says that d isn't emulated, `label d` is the label of d's island, and an
-- island goes by its label, except in a refusal: there it goes by its least device.
use Rattle.std.specs.Prelude.{◌≡◌, ◌≢◌, ℕ, ◌<◌, ◌≤◌, ◌⊎◌, Bool, Option, Some}
use Rattle.cn_base.specs.Cidr.{Cidr}
use Rattle.cn_base.specs.declared.ids.DeviceId.{DeviceId}
use Rattle.cn_net.specs.Certificate.{IsEmulatedFacing, IsOutsideFacing, Originates}
use Rattle.cn_net.specs.Network.{Network, IsDevice, asn_of}
use Rattle.cn_cert.specs.declared.refusal.Refusal.{Refusal}
use Rattle.cn_cert.specs.declared.refusal.Refusal.TheVariants.{Facing, Origins}
use Rattle.cn_cert.specs.declared.refusal.Side.{Side}
use Rattle.cn_cert.specs.declared.refusal.Side.TheVariants.{Emulated, Outside}

-- d is one of these devices, and none of them is less
pub record IsLeast (These : DeviceId → Type 0) (d : DeviceId) : Type 0 where
  pub one : These d
  pub least : (x : DeviceId) → These x → d.0 ≤ x.0

-- d is the least device of the island with this label
abbrev pub IsLeastOf : Network → (DeviceId → Option DeviceId) → DeviceId → DeviceId → Type 0
IsLeastOf net label island d = IsLeast (λ x. IsDevice net x × (label x ≡ Some island)) d

-- ---- a side

-- d faces the island's boundary from this side
abbrev pub Faces : Network → (DeviceId → Bool) → (DeviceId → Option DeviceId)
    → Side → DeviceId → DeviceId → Type 0
Faces net outside label Emulated island d = IsEmulatedFacing net outside label island d
Faces net outside label Outside island d = IsOutsideFacing net outside label island d

-- a is the least device on this side of the island's boundary, and b the least of another AS
pub record IsFacingRefusal
    (net : Network) (outside : DeviceId → Bool) (label : DeviceId → Option DeviceId)
    (side : Side) (island a b : DeviceId) : Type 0 where
  pub least : IsLeast (Faces net outside label side island) a
  pub other : IsLeast (λ d. Faces net outside label side island d × (asn_of net d ≢ asn_of net a)) b

-- ---- the origins

-- d is of the island, and originates the prefix
pub record OriginatesInside
    (net : Network) (label : DeviceId → Option DeviceId) (island : DeviceId) (p : Cidr)
    (d : DeviceId) : Type 0 where
  pub label_is : label d ≡ Some island
  pub originates : Originates net d p

-- d isn't of the island, and originates the prefix
pub record OriginatesElsewhere
    (net : Network) (label : DeviceId → Option DeviceId) (island : DeviceId) (p : Cidr)
    (d : DeviceId) : Type 0 where
  pub label_is_not : label d ≢ Some island
  pub originates : Originates net d p

-- prefixes go by their bits, and then by their lengths
abbrev pub IsPrefixBefore : Cidr → Cidr → Type 0
IsPrefixBefore p q = (p.bits < q.bits) ⊎ ((p.bits ≡ q.bits) × (p.len < q.len))

-- the prefix is the least that is originated both inside and elsewhere, and the two devices are the
-- least that do so
pub record IsOriginsRefusal
    (net : Network) (label : DeviceId → Option DeviceId) (island : DeviceId) (prefix : Cidr)
    (inside elsewhere : DeviceId) : Type 0 where
  pub inside_least : IsLeast (OriginatesInside net label island prefix) inside
  pub elsewhere_least : IsLeast (OriginatesElsewhere net label island prefix) elsewhere
  pub prefix_least : (p : Cidr) (d x : DeviceId) → IsPrefixBefore p prefix
      → OriginatesInside net label island p d → OriginatesElsewhere net label island p x → ⊥

-- ---- refusals

-- what the refusal says of the island with this label is so
abbrev pub Refuses : Network → (DeviceId → Bool) → (DeviceId → Option DeviceId)
    → DeviceId → Refusal → Type 0
Refuses net outside label island (Facing side named a a_asn b b_asn) =
    IsFacingRefusal net outside label side island a b
    × (a_asn ≡ asn_of net a)
    × (b_asn ≡ asn_of net b)
Refuses net outside label island (Origins named prefix inside elsewhere) =
    IsOriginsRefusal net label island prefix inside elsewhere

-- the device by which a refusal names the island
abbrev pub island_of : Refusal → DeviceId
island_of (Facing side island a a_asn b b_asn) = island
island_of (Origins island prefix inside elsewhere) = island

-- a refusal of the boundary: what it says is so of the island whose least device it names
pub record IsRefusal
    (net : Network) (outside : DeviceId → Bool) (label : DeviceId → Option DeviceId)
    (r : Refusal) : Type 0 where
  pub island : DeviceId
  pub named : IsLeastOf net label island (island_of r)
  pub refuses : Refuses net outside label island r

-- ---- the order of refusals

-- the emulated side stands before the outside side, and the origins stand last
abbrev pub side_place : Side → ℕ
side_place Emulated = 0
side_place Outside = 1

abbrev pub kind_place : Refusal → ℕ
kind_place (Facing side island a a_asn b b_asn) = side_place side
kind_place (Origins island prefix inside elsewhere) = 2

-- the refusal of an island with a lower least device stands before others, and in an island they go
-- by their kinds
abbrev pub ComesBefore : Refusal → Refusal → Type 0
ComesBefore r s =
    ((island_of r).0 < (island_of s).0)
    ⊎ (((island_of r).0 ≡ (island_of s).0) × (kind_place r < kind_place s))

-- r is a refusal, and none stands before it
pub record IsFirstRefusal
    (net : Network) (outside : DeviceId → Bool) (label : DeviceId → Option DeviceId)
    (r : Refusal) : Type 0 where
  pub refusal : IsRefusal net outside label r
  pub first : (s : Refusal) → IsRefusal net outside label s → ComesBefore s r → ⊥
