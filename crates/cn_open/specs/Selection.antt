-- Devices and rows that are written with names.
use Rattle.std.specs.Prelude.{◌≡◌, ℕ, List, All, Option, option_map}
use Rattle.cn_base.specs.declared.ids.DeviceId.{DeviceId}
use Rattle.cn_net.specs.Islands.{IsAscending}
use Rattle.cn_net.specs.Network.{Network, IsDevice, name_of}
use Rattle.cn_plan.specs.Selected.{named}
use Rattle.cn_plan.specs.declared.selection.Selection.{Selection}
use Rattle.cn_plan.specs.declared.selection.Selection.TheVariants as devices
use Rattle.cn_readnet.specs.declared.selection.NameSelection.{NameSelection}
use Rattle.cn_readnet.specs.declared.selection.NameSelection.TheVariants as names
use Rattle.cn_readnet.specs.declared.record.RowDraft.{RowDraft}
use Rattle.cn_record.specs.declared.saved.Row.{Row}
use Rattle.cn_open.specs.Emulation.{IsRowOf, IsSender, Selects, row_draft}

-- the route came from the device that is named, if one is
abbrev pub IsSenderOf : Network → Option (List ℕ) → Option DeviceId → Type 0
IsSenderOf net name sender = IsSender net sender × (option_map (name_of net) sender ≡ name)

-- the row reads as it is written
abbrev pub ReadsAs : Network → RowDraft → Row → Type 0
ReadsAs net draft row = IsRowOf net row × (row_draft net row ≡ draft)

-- the devices that a plan names, to emulate or to grow from
abbrev pub IsSelectionOf : Network → NameSelection → Selection → Type 0
IsSelectionOf net (names.Emulate xs) (devices.Emulate set) = Selects net xs set
IsSelectionOf net (names.Emulate xs) (devices.Must set) = ⊥
IsSelectionOf net (names.Must xs) (devices.Emulate set) = ⊥
IsSelectionOf net (names.Must xs) (devices.Must set) = Selects net xs set

-- they are devices of the network, in ascending order
abbrev pub IsWithin : Network → Selection → Type 0
IsWithin net s = All (IsDevice net) (named s) × IsAscending (named s)
