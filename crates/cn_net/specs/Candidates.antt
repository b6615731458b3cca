-- The routes that a device may use for a prefix, and the best of them (RFC 4271, 9.1.2).
-- Below, `came a` is the route to the prefix that came in from device a: what stands in the
-- Adj-RIB-In.
use Rattle.std.specs.Prelude.{◌≡◌, ◌⊎◌, ℕ, Bool, true, false, List, [], map, Option, Some, None, is_some, unwrap_or, option_map, option_and_then, if◌then◌else◌}
use Rattle.std.specs.List.{Contains, fold, slice_get}
use Rattle.cn_base.specs.Cidr.{Cidr}
use Rattle.cn_base.specs.declared.ids.DeviceId.{DeviceId}
use Rattle.cn_base.specs.declared.ids.RouterId.{RouterId}
use Rattle.cn_base.specs.declared.rank.Rank.{Rank}
use Rattle.cn_base.specs.declared.route.Choice.{Choice}
use Rattle.cn_base.specs.declared.route.Route.{Route}
use Rattle.cn_decide.specs.Decide.{better_by, outranks_by, rank_with}
use Rattle.cn_decide.specs.declared.Candidate.{Candidate}
use Rattle.cn_net.specs.Exchange.{accept}
use Rattle.cn_net.specs.Network.{Network, IsDevice, device_ids, own_origin, router_of}

-- ---- the order of choices (RFC 4271, 9.1.2.2)

-- the BGP Identifier of the device that a choice came from, and 0 where it is the device's own
abbrev pub sender_of : Network → Choice → RouterId
sender_of net c = unwrap_or (option_map (router_of net) c.from) (record { 0 = 0 })

-- what the decision compares of a choice
abbrev pub rank_of : Network → Choice → Rank
rank_of net c = rank_with (is_some c.from) c.path c.origin (sender_of net c)

-- the rank of x stands before that of y
abbrev pub outranks : Network → Choice → Choice → Bool
outranks net x y = outranks_by (rank_of net) x y

-- the first of two choices, unless the second outranks it
abbrev pub better_of : Network → Option Choice → Option Choice → Option Choice
better_of net x y = better_by (rank_of net) x y

-- ---- candidates

-- a route that came in from a, as a choice
abbrev pub choice_from : DeviceId → Route → Choice
choice_from a r = record { from = Some a; path = r.path; origin = r.origin }

-- c is the device's own route
pub record IsOwn (net : Network) (b : DeviceId) (p : Cidr) (c : Choice) : Type 0 where
  pub own : own_origin net b p ≡ Some c.origin
  pub none : c.from ≡ None
  pub empty : c.path ≡ []

-- c is a route that came in and that b accepts from its sender
pub record IsLearnt (net : Network) (came : DeviceId → Option Route) (b : DeviceId)
    (c : Choice) : Type 0 where
  pub sender : DeviceId
  pub route : Route
  pub is_device : IsDevice net sender
  pub came_in : came sender ≡ Some route
  pub accepted : accept net b sender route ≡ true
  pub is : c ≡ choice_from sender route

-- a choice that b may use for p
abbrev pub IsCandidate : Network → (DeviceId → Option Route) → DeviceId → Cidr → Choice → Type 0
IsCandidate net came b p c = IsOwn net b p c ⊎ IsLearnt net came b c

-- one of these choices that none of them outranks, and none exactly where there is none
abbrev pub IsBestAmong : Network → (Choice → Type 0) → Option Choice → Type 0
IsBestAmong net Is None = (x : Choice) → Is x → ⊥
IsBestAmong net Is (Some c) = Is c × ((x : Choice) → Is x → outranks net x c ≡ false)

-- a candidate of b for p that no candidate outranks, and none exactly where there is no candidate
abbrev pub IsBest : Network → (DeviceId → Option Route) → DeviceId → Cidr → Option Choice → Type 0
IsBest net came b p = IsBestAmong net (IsCandidate net came b p)

-- ---- the same, computed

-- the device's own route
unfoldable pub own_choice : Network → DeviceId → Cidr → Option Choice
own_choice net b p =
    option_map (λ o. record { from = None; path = []; origin = o }) (own_origin net b p)

-- what b may use of what came from a
unfoldable pub usable : Network → DeviceId → DeviceId → Option Route → Option Choice
usable net b a None = None
usable net b a (Some r) = if accept net b a r then Some (choice_from a r) else None

-- the best of b's candidates for p: `laws::best_is_best` and `laws::best_is_one` say that this is
-- what `IsBest` says
unfoldable pub best_of : Network → (DeviceId → Option Route) → DeviceId → Cidr → Option Choice
best_of net came b p =
    fold (λ best a. better_of net best (usable net b a (came a))) (own_choice net b p)
    (device_ids net)

-- ---- candidates in a list, as `cn_decide` has them

-- a candidate, as a choice
abbrev pub choice_of : Candidate → Choice
choice_of c = record { from = c.from; path = c.route.path; origin = c.route.origin }

-- where a candidate came from a device, its sender is the BGP Identifier of that device
abbrev pub HasItsSender : Network → Candidate → Type 0
HasItsSender net c = (a : DeviceId) → c.from ≡ Some a → c.sender ≡ router_of net a

-- x is one of these candidates, as a choice
abbrev pub IsListed : List Candidate → Choice → Type 0
IsListed candidates x = Contains (map choice_of candidates) x

-- the candidate at a place, as a choice
abbrev pub listed_at : List Candidate → Option ℕ → Option Choice
listed_at candidates place = option_map choice_of (option_and_then (slice_get candidates) place)
