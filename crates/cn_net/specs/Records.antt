-- What is recorded of the outside devices, and when it is sound.
-- Below, `outside d` says that d isn't emulated, `label d` is the label of d's island, and
-- `said d p` is what d says of p: the record of d and p where d's island originates p, and nothing
-- where it doesn't.
use Rattle.std.specs.Prelude.{◌≡◌, Bool, Option, Some}
use Rattle.cn_base.specs.Cidr.{Cidr}
use Rattle.cn_base.specs.declared.ids.DeviceId.{DeviceId}
use Rattle.cn_base.specs.declared.route.Choice.{Choice}
use Rattle.cn_net.specs.Certificate.{Originates}
use Rattle.cn_net.specs.Network.{Network, IsDevice}
use Rattle.cn_net.specs.Restriction.{restricted}
use Rattle.cn_net.specs.Stable.{Assignment, IsStable}

-- a device of the island originates the prefix
pub record IsOfIsland (net : Network) (label : DeviceId → Option DeviceId) (island : DeviceId)
    (p : Cidr) : Type 0 where
  pub device : DeviceId
  pub in_island : label device ≡ Some island
  pub originates : Originates net device p

-- Sound records: what an outside device says of a prefix of its island is what it holds in the
-- stable state of the outside devices alone.
abbrev pub AreSound : Network → (DeviceId → Bool) → (DeviceId → Option DeviceId) → Assignment
    → Type 0
AreSound net outside label said =
    (state : Assignment) → IsStable (restricted net outside) state
    → (d i : DeviceId) (p : Cidr) → IsDevice net d → label d ≡ Some i → IsOfIsland net label i p
    → said d p ≡ state d p

-- an outside device says something of the prefixes of its own island alone
abbrev pub SaysItsOwn : Network → (DeviceId → Option DeviceId) → Assignment → Type 0
SaysItsOwn net label said =
    (d i : DeviceId) (p : Cidr) (c : Choice) → IsDevice net d → label d ≡ Some i
    → said d p ≡ Some c → IsOfIsland net label i p
