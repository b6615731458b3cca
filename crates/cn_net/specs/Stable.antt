-- Stable states of a network: nobody would decide otherwise. There is no message, mailbox or order
-- of events here.
use Rattle.std.specs.Prelude.{Option, option_and_then}
use Rattle.cn_base.specs.Cidr.{Cidr}
use Rattle.cn_base.specs.declared.ids.DeviceId.{DeviceId}
use Rattle.cn_base.specs.declared.route.Choice.{Choice}
use Rattle.cn_base.specs.declared.route.Route.{Route}
use Rattle.cn_net.specs.Candidates.{IsBest}
use Rattle.cn_net.specs.Exchange.{offer}
use Rattle.cn_net.specs.Network.{Network, IsDevice}

-- what each device holds for each prefix
abbrev pub Assignment : Type 0
Assignment = DeviceId → Cidr → Option Choice

-- a choice for p, as a route
abbrev pub route_of : Cidr → Choice → Route
route_of p c = record { prefix = p; path = c.path; origin = c.origin }

-- what a offers to b of a choice for p, and nothing of none
unfoldable pub offer_of : Network → DeviceId → DeviceId → Cidr → Option Choice → Option Route
offer_of net a b p held = option_and_then (λ c. offer net a b (route_of p c)) held

-- what comes to b for p where each device offers what it holds
abbrev pub offers_to : Network → Assignment → DeviceId → Cidr → DeviceId → Option Route
offers_to net held b p a = offer_of net a b p (held a p)

-- each device holds, for each prefix, the best of what the others offer and of its own
abbrev pub IsStable : Network → Assignment → Type 0
IsStable net held =
    (b : DeviceId) (p : Cidr) → IsDevice net b → IsBest net (offers_to net held b p) b p (held b p)
