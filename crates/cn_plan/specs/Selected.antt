-- The devices that are emulated.
use Rattle.std.specs.Prelude.{◌≡◌, List}
use Rattle.cn_base.specs.declared.ids.DeviceId.{DeviceId}
use Rattle.cn_grow.specs.Growth.{IsGrown}
use Rattle.cn_net.specs.Islands.{IsAscending}
use Rattle.cn_net.specs.Network.{Network}
use Rattle.cn_plan.specs.declared.selection.Selection.{Selection}
use Rattle.cn_plan.specs.declared.selection.Selection.TheVariants.{Emulate, Must}

-- the devices that a selection names
abbrev pub named : Selection → List DeviceId
named (Must must) = must
named (Emulate emulated) = emulated

-- the set that is grown from those that have to be emulated, or exactly those that are
abbrev pub IsSelected : Network → Selection → List DeviceId → Type 0
IsSelected net (Must must) set = IsGrown net must set × IsAscending set
IsSelected net (Emulate emulated) set = set ≡ emulated
