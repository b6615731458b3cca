-- Where records aren't sound, and the first place where they aren't.
use Rattle.std.specs.Prelude.{◌≡◌, ◌≢◌, List, Option, Some}
use Rattle.cn_base.specs.Cidr.{Cidr}
use Rattle.cn_base.specs.declared.ids.DeviceId.{DeviceId}
use Rattle.cn_base.specs.declared.route.Choice.{Choice}
use Rattle.cn_net.specs.Islands.{label_of, outside_of}
use Rattle.cn_net.specs.Network.{IsDevice}
use Rattle.cn_net.specs.Opening.{Opening}
use Rattle.cn_net.specs.Records.{IsOfIsland}
use Rattle.cn_net.specs.Restriction.{restricted}
use Rattle.cn_net.specs.Stable.{Assignment, IsStable}
use Rattle.cn_record.specs.Rows.{StandsBefore, row_for}
use Rattle.cn_record.specs.Said.{said_by}
use Rattle.cn_record.specs.declared.soundness.RecordWhy.{RecordWhy}
use Rattle.cn_record.specs.declared.soundness.RecordWhy.TheVariants.{Memory, Unsound}
use Rattle.cn_record.specs.declared.saved.Row.{Row}

-- the state is stable for the outside devices alone; there is exactly one
abbrev pub IsOutsideState : Opening → Assignment → Type 0
IsOutsideState o state = IsStable (restricted o.net (outside_of o.emulated)) state

-- d is an outside device whose island originates p, and what it says of p isn't what it holds in
-- that state
pub record IsUnsound (o : Opening) (rows : List Row) (d : DeviceId) (p : Cidr) : Type 0 where
  pub is_device : IsDevice o.net d
  pub island : DeviceId
  pub in_island : label_of o.labels d ≡ Some island
  pub of_island : IsOfIsland o.net (label_of o.labels) island p
  pub differs : (state : Assignment) → IsOutsideState o state → said_by o rows d p ≢ state d p

-- d and p are the first such device and prefix; held is what their row says, and wanted is what d
-- holds in that state
pub record IsFirstUnsound (o : Opening) (rows : List Row) (d : DeviceId) (p : Cidr)
    (held wanted : Option Choice) : Type 0 where
  pub unsound : IsUnsound o rows d p
  pub first : (x : DeviceId) (q : Cidr) → IsUnsound o rows x q → StandsBefore x q d p → ⊥
  pub held_is : held ≡ row_for rows d p
  pub wanted_is : (state : Assignment) → IsOutsideState o state → wanted ≡ state d p

-- what an answer names is the first; want of memory names nothing
abbrev pub NamesFirst : Opening → List Row → RecordWhy → Type 0
NamesFirst o rows (Unsound d p held wanted) = IsFirstUnsound o rows d p held wanted
NamesFirst o rows Memory = Unit {0}
