-- What a `Net` keeps beside its devices and links: an index of the devices' names, the links as the
-- devices at their ends see them and where each device's part of these begins, and what each device
-- originates, by prefix.
-- This is the private representation; no contract of a public call says more of it than that the
-- network is valid.
use Rattle.std.specs.Prelude.{◌≡◌, ℕ, List, String, length, map}
use Rattle.std.specs.List.{AllPairs, AllZip}
use Rattle.std.specs.List.Sorted.{IsPermutation}
use Rattle.std.specs.String.{string_bytes}
use Rattle.std.specs.declared.cmp.Ordering.TheVariants.{Less}
use Rattle.cn_base.specs.Table.{prefix_cmp}
use Rattle.cn_net.specs.Neighbours.{AreNeighbours, AreStarts}
use Rattle.cn_net.specs.Network.{Network}
use Rattle.cn_net.specs.Valid.{IsValid}
use Rattle.cn_net.specs.declared.device.Device.{Device}
use Rattle.cn_net.specs.declared.device.Own.{Own}
use Rattle.cn_net.specs.declared.neighbours.Neighbour.{Neighbour}

-- the devices' names, as their octets
abbrev pub names_of : List Device → List (List ℕ)
names_of devices = map (λ d. d.name) devices

-- the keys of the index are the devices' names, in the order of their numbers
abbrev pub AreNamesOf : {A : Type 0} → List Device → List (String A) → Type 0
AreNamesOf devices keys = map string_bytes keys ≡ names_of devices

-- the list in another order: each prefix is below those behind it
pub record IsByPrefix (own list : List Own) : Type 0 where
  pub moved : IsPermutation own list
  pub ascending : AllPairs (λ x y. prefix_cmp x.prefix y.prefix ≡ Less) list

-- for each device, in the order of their numbers, what it originates, by prefix
abbrev pub AreOwn : List Device → List (List Own) → Type 0
AreOwn devices lists = AllZip (λ d list. IsByPrefix d.body.own list) devices lists

-- the network is valid, the index has its devices' names, the neighbours are those that its links
-- join, each device's part of them is found, and what devices originate is kept by prefix
pub record IsKept {A : Type 0} (net : Network) (keys : List (String A))
    (neighbours : List Neighbour) (starts : List ℕ) (own : List (List Own)) : Type 0 where
  pub valid : IsValid net
  pub named : AreNamesOf net.devices keys
  pub joined : AreNeighbours net.links neighbours
  pub begun : AreStarts (length net.devices) neighbours starts
  pub originated : AreOwn net.devices own
