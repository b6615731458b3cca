-- The tables of a pull.
use Rattle.std.specs.Prelude.{◌≡◌, List, map, All}
use Rattle.cn_base.specs.Cidr.{Cidr}
use Rattle.cn_base.specs.Table.{AscendsByPrefix, choice_for}
use Rattle.cn_base.specs.declared.ids.DeviceId.{DeviceId}
use Rattle.cn_net.specs.Islands.{IsAscending}
use Rattle.cn_net.specs.Stable.{Assignment}
use Rattle.cn_core.specs.declared.pull.DeviceTable.{DeviceTable}

-- each device's number is above those before it
abbrev pub DevicesAscend : List DeviceTable → Type 0
DevicesAscend tables = IsAscending (map (λ t. t.device) tables)

-- the table has one row for each prefix of which its device holds a route, in ascending order, and
-- no other
pub record IsTableOf (held : Assignment) (t : DeviceTable) : Type 0 where
  pub ascending : AscendsByPrefix t.table
  pub exactly : (p : Cidr) → choice_for t.table p ≡ held t.device p

-- the tables of these devices, in their order
pub record AreTables (devices : List DeviceId) (held : Assignment)
    (tables : List DeviceTable) : Type 0 where
  pub each : map (λ t. t.device) tables ≡ devices
  pub exactly : All (IsTableOf held) tables
