-- How the first unsound device and prefix are found. These are words of the crate's private
-- functions alone: what they are stands in Unsound, and no layer above needs these.
use Rattle.std.specs.Prelude.{◌≡◌, ◌<◌, ◌⊎◌, nat_le, nat_lt, All, Bool, true, false, [], ◌∷◌, Contains, List, MatchOption, Option, Some, None, if◌then◌else◌}
use Rattle.cn_base.specs.Cidr.{Cidr}
use Rattle.cn_base.specs.declared.ids.DeviceId.{DeviceId}
use Rattle.cn_base.specs.declared.route.Choice.{Choice}
use Rattle.cn_net.specs.Islands.{label_of}
use Rattle.cn_net.specs.Network.{IsDevice, Network}
use Rattle.cn_net.specs.Opening.{Opening}
use Rattle.cn_net.specs.Stable.{Assignment}
use Rattle.cn_record.specs.Places.{IsInside}
use Rattle.cn_record.specs.Rows.{StandsBefore, row_for}
use Rattle.cn_record.specs.Said.{said_by}
use Rattle.cn_record.specs.Tables.{held_of}
use Rattle.cn_record.specs.Unsound.{IsOutsideState, IsUnsound}
use Rattle.cn_record.specs.declared.soundness.Difference.{Difference}
use Rattle.cn_record.specs.declared.islands.IslandPrefix.{IslandPrefix}
use Rattle.cn_record.specs.declared.islands.Member.{Member}
use Rattle.cn_record.specs.declared.saved.Row.{Row}

-- ---- one prefix

-- the row of d and p, or its absence, is what the table has for d
abbrev pub AgreesAt : List Row → Cidr → List (Option Choice) → DeviceId → Type 0
AgreesAt rows p table d = row_for rows d p ≡ held_of table d p

-- d stands before the least device so far
abbrev pub is_below : DeviceId → Option DeviceId → Bool
is_below d None = true
is_below d (Some least) = nat_lt d.0 least.0

-- d is the least of these devices whose row isn't what the table has for it
pub record IsLeastApart (rows : List Row) (p : Cidr) (table : List (Option Choice))
    (devices : List DeviceId) (d : DeviceId) : Type 0 where
  pub contained : Contains devices d
  pub apart : AgreesAt rows p table d → ⊥
  pub before : All (λ x. x.0 < d.0 → AgreesAt rows p table x) devices

-- each of these devices agrees, or least is the first that doesn't
abbrev pub TellsApart : List Row → Cidr → List (Option Choice) → List DeviceId → Option DeviceId
    → Type 0
TellsApart rows p table devices least =
    MatchOption least (All (AgreesAt rows p table) devices) (IsLeastApart rows p table devices)

-- x tells of the first device that doesn't agree
pub record TellsLeast (rows : List Row) (p : Cidr) (table : List (Option Choice))
    (devices : List DeviceId) (x : Difference) : Type 0 where
  pub least : IsLeastApart rows p table devices x.device
  pub prefix : x.prefix ≡ p
  pub held : x.held ≡ row_for rows x.device p
  pub wanted : x.wanted ≡ held_of table x.device p

-- these are devices of the island i, and its others agree
pub record CoversApart (net : Network) (label : DeviceId → Option DeviceId) (i : DeviceId)
    (rows : List Row) (p : Cidr) (table : List (Option Choice)) (devices : List DeviceId)
    : Type 0 where
  pub inside : All (IsInside net label i) devices
  pub others : (d : DeviceId) → IsInside net label i d
      → Contains devices d ⊎ AgreesAt rows p table d

-- something differs already, at a device that isn't above the first of these
abbrev pub is_behind : Option Difference → List Member → Bool
is_behind None members = false
is_behind (Some x) [] = true
is_behind (Some x) (m ∷ members) = nat_le x.device.0 m.device.0

-- ---- the state of the outside devices

-- what the devices of the island say of the prefix is what they hold
abbrev pub AgreesFor : Opening → List Row → IslandPrefix → Type 0
AgreesFor o rows x = (state : Assignment) → IsOutsideState o state → (d : DeviceId)
    → IsDevice o.net d → label_of o.labels d ≡ Some x.island
    → said_by o rows d x.prefix ≡ state d x.prefix

-- y tells of an unsound device and prefix
pub record TellsUnsound (o : Opening) (rows : List Row) (y : Difference) : Type 0 where
  pub unsound : IsUnsound o rows y.device y.prefix
  pub held : y.held ≡ row_for rows y.device y.prefix
  pub wanted : (state : Assignment) → IsOutsideState o state → y.wanted ≡ state y.device y.prefix

-- of this prefix, y tells of the least device
pub record IsFirstFor (o : Opening) (rows : List Row) (x : IslandPrefix)
    (y : Difference) : Type 0 where
  pub prefix : y.prefix ≡ x.prefix
  pub tells : TellsUnsound o rows y
  pub least : (d : DeviceId) → IsUnsound o rows d x.prefix → d.0 < y.device.0 → ⊥

-- of these prefixes, y tells of the least device and then the least prefix
pub record IsFirstAmong (o : Opening) (rows : List Row) (list : List IslandPrefix)
    (y : Difference) : Type 0 where
  pub among : IslandPrefix
  pub contained : Contains list among
  pub prefix : y.prefix ≡ among.prefix
  pub tells : TellsUnsound o rows y
  pub first : (x : IslandPrefix) → Contains list x → (d : DeviceId) → IsUnsound o rows d x.prefix
      → StandsBefore d x.prefix y.device y.prefix → ⊥

-- the first of two that differ, of which the second has the greater prefix
abbrev pub earlier_of : Option Difference → Option Difference → Option Difference
earlier_of None next = next
earlier_of (Some x) None = Some x
earlier_of (Some x) (Some y) = if nat_lt y.device.0 x.device.0 then Some y else Some x
