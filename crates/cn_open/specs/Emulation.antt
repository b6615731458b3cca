-- What the text of a plan stands for: a network, its emulated devices, and what is recorded of its
-- devices.
use Rattle.std.specs.Prelude.{◌≡◌, ℕ, ◌≤◌, Bool, false, List, length, map, All, Option, Some, None, Ok, option_map, unwrap_or}
use Rattle.std.specs.List.{list_any}
use Rattle.std.specs.Str.{bytes_eq}
use Rattle.cn_base.specs.Cidr.{Cidr}
use Rattle.cn_base.specs.declared.ids.DeviceId.{DeviceId}
use Rattle.cn_grow.specs.Growth.{IsGrown}
use Rattle.cn_net.specs.Drafted.{draft_of}
use Rattle.cn_net.specs.Islands.{IsAscending, holds_device, outside_of}
use Rattle.cn_net.specs.Network.{Network, IsDevice, device_of, name_of}
use Rattle.cn_net.specs.Valid.{IsValid}
use Rattle.cn_net.specs.declared.device.Device.{Device}
use Rattle.cn_readnet.specs.Plan.{plan_of}
use Rattle.cn_net.specs.Limits.{IsWithinLimits}
use Rattle.cn_readnet.specs.declared.selection.NameSelection.{NameSelection}
use Rattle.cn_readnet.specs.declared.selection.NameSelection.TheVariants.{Emulate, Must}
use Rattle.cn_readnet.specs.declared.plan.NetText.{NetText}
use Rattle.cn_readnet.specs.declared.record.RowDraft.{RowDraft}
use Rattle.cn_record.specs.Rows.{IsRepeated}
use Rattle.cn_record.specs.declared.saved.Row.{Row}

-- ---- a network, its emulated devices and its records

pub record Emulation : Type 0 where
  pub net : Network
  pub emulated : List DeviceId
  pub rows : List Row

-- d isn't emulated
abbrev pub is_outside : Emulation → DeviceId → Bool
is_outside e = outside_of e.emulated

-- ---- the emulated devices

abbrev pub is_named : List (List ℕ) → Device → Bool
is_named names d = list_any (bytes_eq d.name) names

-- d is a device of the network that bears one of these names
abbrev pub names_device : Network → List (List ℕ) → DeviceId → Bool
names_device net names d = unwrap_or (option_map (is_named names) (device_of net d)) false

-- a device of the network bears the name
abbrev pub IsBorne : Network → List ℕ → Type 0
IsBorne net name = (d : DeviceId) × IsDevice net d × (name_of net d ≡ name)

-- each name is a device's, and the set holds exactly the devices that bear them
pub record Selects (net : Network) (names : List (List ℕ)) (set : List DeviceId) : Type 0 where
  pub known : All (IsBorne net) names
  pub exactly : (d : DeviceId) → holds_device set d ≡ names_device net names d

-- the devices that a plan names, or the set that is grown from those
abbrev pub Chooses : Network → NameSelection → List DeviceId → Type 0
Chooses net (Emulate names) set = Selects net names set
Chooses net (Must names) set =
    (given : List DeviceId) × Selects net names given × IsGrown net given set

-- ---- records

-- the device that a route came from, if it came from one, is a device of the network
abbrev pub IsSender : Network → Option DeviceId → Type 0
IsSender net None = Unit {0}
IsSender net (Some x) = IsDevice net x

-- the row is that of a device, and its route is the device's own or came from a device
pub record IsRowOf (net : Network) (row : Row) : Type 0 where
  pub device : IsDevice net row.device
  pub sender : IsSender net row.choice.from

-- the row as a plan writes it
abbrev pub row_draft : Network → Row → RowDraft
row_draft net row =
    record {
      device = name_of net row.device;
      prefix = row.prefix;
      path = row.choice.path;
      origin = row.choice.origin;
      from = option_map (name_of net) row.choice.from;
    }

-- the rows read as these of a plan
pub record ReadAs (net : Network) (drafts : List RowDraft) (rows : List Row) : Type 0 where
  pub each : All (IsRowOf net) rows
  pub written : map (row_draft net) rows ≡ drafts

-- no two rows have one device and prefix
abbrev pub HaveNoRepeat : List Row → Type 0
HaveNoRepeat rows = (d : DeviceId) (p : Cidr) → IsRepeated rows d p → ⊥

-- ---- what a text stands for

-- the longest text of a plan, in octets
abbrev pub plan_limit : ℕ
plan_limit = 16777216

-- the text is short enough, and this plan is read from it
abbrev pub ReadsPlan : List ℕ → NetText → Type 0
ReadsPlan bytes text = (length bytes ≤ plan_limit) × (plan_of bytes ≡ Ok text)

-- A plan as it is read describes a valid network, whose devices and links read as the plan's; the
-- devices that it chooses; and rows that read as the plan's, at most one for each device and
-- prefix.
pub record IsEmulationOf (text : NetText) (e : Emulation) : Type 0 where
  pub draft : draft_of e.net ≡ text.draft
  pub valid : IsValid e.net
  pub chosen : Chooses e.net text.selection e.emulated
  pub ascending : IsAscending e.emulated
  pub recorded : ReadAs e.net text.rows e.rows
  pub once : HaveNoRepeat e.rows

-- the plan stands for this: it describes it, and the emulated devices are within the limits
abbrev pub PlanStandsFor : NetText → Emulation → Type 0
PlanStandsFor text e = IsEmulationOf text e × IsWithinLimits e.net e.emulated

-- the text stands for what its plan stands for
abbrev pub StandsFor : List ℕ → Emulation → Type 0
StandsFor bytes e = (text : NetText) × ReadsPlan bytes text × PlanStandsFor text e
