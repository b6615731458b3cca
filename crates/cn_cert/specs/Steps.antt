-- How the first refusal is found. These are words of the crate's private functions alone: what
-- refusals are stands in Refusal, and no layer above needs these. Below, `name d` is the label of
-- d's island where each island is labelled by its least device.
use Rattle.std.specs.Prelude.{◌≡◌, ◌≢◌, ℕ, ◌≤◌, ◌↔◌, ◌&&◌, ◌++◌, ◌==◌, nat_eq, nat_lt, Bool, false, not, List, Contains, Option, Some, None, option_map, option_to_list, if◌then◌else◌}
use Rattle.std.specs.List.Sorted.{IsSorted}
use Rattle.std.specs.Option.{option_eq}
use Rattle.std.specs.Ordering.{nat_cmp, on, then_cmp}
use Rattle.std.specs.declared.cmp.Ordering.{Ordering}
use Rattle.std.specs.declared.cmp.Ordering.TheVariants.{Equal}
use Rattle.cn_base.specs.Cidr.{Cidr, same_prefix}
use Rattle.cn_base.specs.Table.{prefix_cmp}
use Rattle.cn_base.specs.declared.ids.DeviceId.{DeviceId}
use Rattle.cn_net.specs.Certificate.{HaveOneSystem, HasOwnPrefixes}
use Rattle.cn_net.specs.Network.{Network, IsDevice, asn_of, same_device}
use Rattle.cn_net.specs.declared.device.Link.{Link}
use Rattle.cn_cert.specs.Refusal.{Faces, IsLeast, IsLeastOf, Refuses, ComesBefore, island_of, kind_place}
use Rattle.cn_cert.specs.declared.members.Member.{Member}
use Rattle.cn_cert.specs.declared.refusal.Refusal.{Refusal}
use Rattle.cn_cert.specs.declared.refusal.Side.{Side}
use Rattle.cn_cert.specs.declared.refusal.Side.TheVariants.{Emulated, Outside}

-- ---- islands by their least devices

-- the least of these devices, or none where there is none
abbrev pub IsLeastAmong : (DeviceId → Type 0) → Option DeviceId → Type 0
IsLeastAmong These None = (d : DeviceId) → These d → ⊥
IsLeastAmong These (Some d) = IsLeast These d

-- d is a device with this label
abbrev pub IsLabelled : Network → (DeviceId → Option DeviceId) → DeviceId → DeviceId → Type 0
IsLabelled net label island d = IsDevice net d × (label d ≡ Some island)

-- each label is the least device of its island
abbrev pub AreNames : Network → (DeviceId → Option DeviceId) → Type 0
AreNames net name =
    (d island : DeviceId) → IsDevice net d → name d ≡ Some island → IsLeastOf net name island island

-- ---- members of groups

abbrev pub member : {K : Type 0} → K → DeviceId → Member K
member k d = record { key = k; device = d }

abbrev pub id_cmp : DeviceId → DeviceId → Ordering
id_cmp = on (λ d. d.0) nat_cmp

-- first by the island, then by the prefix
abbrev pub island_prefix_cmp : DeviceId × Cidr → DeviceId × Cidr → Ordering
island_prefix_cmp = then_cmp (on (λ k. k.0) id_cmp) (on (λ k. k.1) prefix_cmp)

-- the list has d as a member of the group k
abbrev pub HasMember : {K : Type 0} → List (Member K) → K → DeviceId → Type 0
HasMember list k d = Contains list (member k d)

-- the order tells all keys apart
abbrev pub IsExact : {K : Type 0} → (K → K → Ordering) → Type 0
IsExact {K} cmp = (x y : K) → cmp x y ≡ Equal → x ≡ y

-- groups by their keys, and in a group devices by their numbers
abbrev pub by_key : {K : Type 0} → (K → K → Ordering) → Member K → Member K → Ordering
by_key cmp = then_cmp (on (λ m. m.key) cmp) (on (λ m. m.device) id_cmp)

-- the list has exactly these devices in these groups, in order
pub record AreMembers
    {K : Type 0} (cmp : K → K → Ordering) (IsIn : K → DeviceId → Type 0)
    (list : List (Member K)) : Type 0 where
  pub sorted : IsSorted (by_key cmp) list
  pub exactly : (k : K) (d : DeviceId) → HasMember list k d ↔ IsIn k d

-- there is a number, and it is another one
abbrev pub differs : Option (Option ℕ) → Option ℕ → Bool
differs None n = false
differs (Some m) n = not (option_eq nat_eq m n)

-- the key stands in the list with two different numbers
pub record IsSplit {K : Type 0} (pairs : List (K × Option ℕ)) (k : K) : Type 0 where
  pub one : Option ℕ
  pub other : Option ℕ
  pub has_one : Contains pairs (k, one)
  pub has_other : Contains pairs (k, other)
  pub apart : one ≢ other

-- ---- a side

-- of an emulated device and the device of an island that it is linked to, the one on this side
abbrev pub on_side : Side → DeviceId → DeviceId → DeviceId
on_side Emulated near far = near
on_side Outside near far = far

-- the device on this side of a link, where its near end is emulated and its far end is of an island
abbrev pub faced : (DeviceId → Bool) → (DeviceId → Option DeviceId)
    → Side → DeviceId → DeviceId → Option (Member DeviceId)
faced outside name side near far =
    if outside near then None else option_map (λ i. member i (on_side side near far)) (name far)

-- the same from either end of a link
abbrev pub faced_by : (DeviceId → Bool) → (DeviceId → Option DeviceId)
    → Side → Link → List (Member DeviceId)
faced_by outside name side l =
    option_to_list (faced outside name side l.a l.b)
    ++ option_to_list (faced outside name side l.b l.a)

-- the group of a member, with the AS number of its device
abbrev pub with_system : Network → Member DeviceId → DeviceId × Option ℕ
with_system net m = (m.key, Some (asn_of net m.device).0)

-- m is of the group of a, and of another AS
abbrev pub is_of_another : Network → Member DeviceId → Member DeviceId → Bool
is_of_another net a m =
    same_device m.key a.key && not ((asn_of net m.device).0 == (asn_of net a.device).0)

-- ---- the origins

-- the group of a member, with the island of its device, as a number
abbrev pub with_island : (DeviceId → Option DeviceId) → Member Cidr → Cidr × Option ℕ
with_island name m = (m.key, option_map (λ i. i.0) (name m.device))

-- the member in the group of its island and its prefix, where it is of an island and the prefix is
-- split
abbrev pub shared : (DeviceId → Option DeviceId) → Bool → Member Cidr
    → Option (Member (DeviceId × Cidr))
shared name is_split m =
    if is_split then option_map (λ i. member (i, m.key) m.device) (name m.device) else None

-- m originates this prefix, and isn't of this island
abbrev pub is_elsewhere : (DeviceId → Option DeviceId) → DeviceId → Cidr → Member Cidr → Bool
is_elsewhere name island p m =
    same_prefix m.key p && not (option_eq same_device (name m.device) (Some island))

-- ---- the first of each kind, and the first of all

-- on this side each island's boundary has devices of one AS
abbrev pub IsCleanSide : Network → (DeviceId → Bool) → (DeviceId → Option DeviceId) → Side → Type 0
IsCleanSide net outside name side =
    (i : DeviceId) → HaveOneSystem net (Faces net outside name side i)

-- what an island originates is originated nowhere else
abbrev pub HaveOwnPrefixes : Network → (DeviceId → Option DeviceId) → Type 0
HaveOwnPrefixes net name = (i : DeviceId) → HasOwnPrefixes net name i

-- r is a refusal of this kind, and no refusal of this kind is of a lower island
pub record IsFirstOfKind
    (net : Network) (outside : DeviceId → Bool) (name : DeviceId → Option DeviceId)
    (kind : ℕ) (r : Refusal) : Type 0 where
  pub refuses : Refuses net outside name (island_of r) r
  pub kind_is : kind_place r ≡ kind
  pub first : (s : Refusal) → Refuses net outside name (island_of s) s → kind_place s ≡ kind
      → (island_of r).0 ≤ (island_of s).0

-- r is a refusal, and none stands before it
pub record IsFirstNamed
    (net : Network) (outside : DeviceId → Bool) (name : DeviceId → Option DeviceId)
    (r : Refusal) : Type 0 where
  pub refuses : Refuses net outside name (island_of r) r
  pub first : (s : Refusal) → Refuses net outside name (island_of s) s → ComesBefore s r → ⊥

-- x, or y where there is no x or y is of a lower island
abbrev pub earlier_of : Option Refusal → Option Refusal → Option Refusal
earlier_of None y = y
earlier_of (Some x) None = Some x
earlier_of (Some x) (Some y) =
    if nat_lt (island_of y).0 (island_of x).0 then Some y else Some x
