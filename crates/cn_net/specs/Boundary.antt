-- What a certified boundary gives.
-- Below, `outside d` says that d isn't emulated, `label d` is the label of d's island, `said` is
-- what the outside devices say, and `state` a stable state of the whole network.
use Rattle.std.specs.Prelude.{◌≡◌, ◌++◌, Bool, true, false, List, Option, Some, None}
use Rattle.cn_base.specs.Cidr.{Cidr}
use Rattle.cn_base.specs.Paths.{holds_asn}
use Rattle.cn_base.specs.declared.ids.Asn.{Asn}
use Rattle.cn_base.specs.declared.ids.DeviceId.{DeviceId}
use Rattle.cn_base.specs.declared.route.Choice.{Choice}
use Rattle.cn_base.specs.declared.route.Route.{Route}
use Rattle.cn_net.specs.Candidates.{IsBest}
use Rattle.cn_net.specs.Certificate.{IsCertified}
use Rattle.cn_net.specs.Exchange.{accept}
use Rattle.cn_net.specs.Islands.{IsIslandLabelling}
use Rattle.cn_net.specs.Network.{Network, IsDevice, asn_of, own_origin}
use Rattle.cn_net.specs.OneState.{IsStableFor}
use Rattle.cn_net.specs.Records.{IsOfIsland}
use Rattle.cn_net.specs.Stable.{Assignment, IsStable, offers_to}
use Rattle.cn_net.specs.Valid.{IsValid}

-- ---- how a route comes into a set of devices

-- A choice c for p came into the set s from a device that isn't in it: a device of s accepted what
-- that one offered, and the path of the offer is the end of the path of c. So the AS number of the
-- device that offered stands in the path of c.
pub record IsCrossing (net : Network) (s : DeviceId → Bool) (held : Assignment) (p : Cidr)
    (c : Choice) : Type 0 where
  pub from : DeviceId
  pub into : DeviceId
  pub from_is_device : IsDevice net from
  pub into_is_device : IsDevice net into
  pub from_elsewhere : s from ≡ false
  pub into_set : s into ≡ true
  pub route : Route
  pub offered : offers_to net held into p from ≡ Some route
  pub accepted : accept net into from route ≡ true
  pub front : List Asn
  pub path : c.path ≡ front ++ route.path
  pub passed : holds_asn c.path (asn_of net from) ≡ true

-- where no device of s originates the prefix, each route to it that a device of s holds came into s
abbrev pub RoutesCross : Network → (DeviceId → Bool) → Assignment → Cidr → Type 0
RoutesCross net s held p =
    IsStableFor net s p held
    → ((d : DeviceId) → IsDevice net d → s d ≡ true → own_origin net d p ≡ None)
    → (d : DeviceId) (c : Choice) → IsDevice net d → s d ≡ true → held d p ≡ Some c
    → IsCrossing net s held p c

-- ---- what crosses a certified boundary

-- a certified boundary of a valid network, and a stable state of the whole network
pub record IsBounded (net : Network) (outside : DeviceId → Bool)
    (label : DeviceId → Option DeviceId) (state : Assignment) : Type 0 where
  pub valid : IsValid net
  pub labelling : IsIslandLabelling net outside label
  pub certified : IsCertified net outside label
  pub stable : IsStable net state

-- an outside device holds of the prefixes of its island what it says
abbrev pub OutsideAsRecorded : Network → (DeviceId → Option DeviceId) → Assignment → Assignment
    → Type 0
OutsideAsRecorded net label said state =
    (d i : DeviceId) (p : Cidr) → IsDevice net d → label d ≡ Some i → IsOfIsland net label i p
    → state d p ≡ said d p

-- no emulated device accepts from an outside device a route to a prefix that isn't of that device's
-- island
abbrev pub NoForeignOffer : Network → (DeviceId → Bool) → (DeviceId → Option DeviceId) → Assignment
    → Type 0
NoForeignOffer net outside label state =
    (a e i : DeviceId) (p : Cidr) (route : Route) → IsDevice net a → IsDevice net e
    → outside e ≡ false → label a ≡ Some i → (IsOfIsland net label i p → ⊥)
    → offers_to net state e p a ≡ Some route → accept net e a route ≡ false

-- ---- what the emulated devices then hold

-- each emulated device holds its best where each outside device says what it says
pub record IsStableInside (net : Network) (outside : DeviceId → Bool)
    (said held : Assignment) : Type 0 where
  pub best : (d : DeviceId) (p : Cidr) → IsDevice net d → outside d ≡ false
      → IsBest net (offers_to net held d p) d p (held d p)
  pub heard : (d : DeviceId) (p : Cidr) → IsDevice net d → outside d ≡ true → held d p ≡ said d p

-- the emulated devices hold the same
abbrev pub AgreeInside : Network → (DeviceId → Bool) → Assignment → Assignment → Type 0
AgreeInside net outside x y =
    (d : DeviceId) (p : Cidr) → IsDevice net d → outside d ≡ false → x d p ≡ y d p
