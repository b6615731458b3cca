-- What a session owes (RFC 4271, 9.2): for each prefix for which what was sent isn't what is
-- offered, what is offered. And the message that goes next of what is owed.
use Rattle.std.specs.Prelude.{◌≡◌, ◌≢◌, ◌↔◌, ◌++◌, ◌<◌, ℕ, Bool, true, false, ◌&&◌, ◌==◌, not, List, [], ◌∷◌, Option, Some, None, map, option_map, nat_lt, if◌then◌else◌}
use Rattle.std.specs.List.{fold, list_any}
use Rattle.std.specs.FinMap.{FinMap}
use Rattle.std.specs.FinMap as fin
use Rattle.cn_base.specs.Cidr.{Cidr, same_prefix}
use Rattle.cn_base.specs.Rank.{origin_code}
use Rattle.cn_base.specs.Table.{prefix_cmp}
use Rattle.cn_base.specs.declared.ids.Asn.{Asn}
use Rattle.cn_base.specs.declared.ids.DeviceId.{DeviceId}
use Rattle.cn_base.specs.declared.ids.Origin.{Origin}
use Rattle.cn_base.specs.declared.route.Attributes.{Attributes}
use Rattle.cn_base.specs.declared.route.Choice.{Choice}
use Rattle.cn_base.specs.declared.route.Route.{Route}
use Rattle.cn_rib.specs.PrefixMaps.{put_at}
use Rattle.cn_rib.specs.Updates.{AdjRib, apply_update, prefixes_of}
use Rattle.cn_wire.specs.declared.update.Update.{Update}
use Rattle.cn_pack.specs.Packing.{packed}
use Rattle.cn_pack.specs.declared.owed.Owed.{Owed as Row}
use Rattle.cn_net.specs.Network.{Network, router_of}
use Rattle.cn_net.specs.Stable.{offer_of}
use Rattle.cn_core.specs.State.{CoreState, LocRib, SessionState, rib}

-- what is owed, by prefix: where the value is none, a withdrawal
abbrev pub OwedMap : Type 0
OwedMap = FinMap prefix_cmp (Option Attributes)

-- ---- what is offered

abbrev pub attributes_of : Route → Attributes
attributes_of r = record { path = r.path; origin = r.origin }

-- what a offers to b for p of a choice, or of none
unfoldable pub offered_attributes : Network → DeviceId → DeviceId → Cidr → Option Choice
    → Option Attributes
offered_attributes net a b p held = option_map attributes_of (offer_of net a b p held)

-- what a advertises to b for p, where `best` is what a holds
abbrev pub advertised : Network → DeviceId → DeviceId → LocRib → Cidr → Option Attributes
advertised net a b best p = offered_attributes net a b p (fin.get best p)

-- ---- against what was sent

abbrev pub same_numbers : List Asn → List Asn → Bool
same_numbers [] [] = true
same_numbers [] (y ∷ ys) = false
same_numbers (x ∷ xs) [] = false
same_numbers (x ∷ xs) (y ∷ ys) = (x.0 == y.0) && same_numbers xs ys

abbrev pub same_attributes : Attributes → Attributes → Bool
same_attributes x y = same_numbers x.path y.path && (origin_code x.origin == origin_code y.origin)

-- an offer, or none, isn't what was sent
abbrev pub differs_from_sent : Option Attributes → Option Attributes → Bool
differs_from_sent None None = false
differs_from_sent None (Some offer) = true
differs_from_sent (Some sent) None = true
differs_from_sent (Some sent) (Some offer) = not (same_attributes sent offer)

-- the offer where it isn't what was sent, and else nothing is owed
abbrev pub unless_sent : Option Attributes → Option Attributes → Option (Option Attributes)
unless_sent sent offer = if differs_from_sent sent offer then Some offer else None

-- ---- what is owed

-- what a owes b for p, where `sent` was sent and `best` is what a holds
unfoldable pub owed_for : Network → DeviceId → DeviceId → AdjRib → LocRib → Cidr
    → Option (Option Attributes)
owed_for net a b sent best p = unless_sent (fin.get sent p) (advertised net a b best p)

-- What a owes b: for each prefix for which what a advertises isn't what was sent, what it
-- advertises. Where that is none, a withdrawal is owed. `laws::get_owed` has it at each prefix.
unfoldable pub owed : Network → DeviceId → DeviceId → AdjRib → LocRib → OwedMap
owed net a b sent best =
    fold (λ m p. put_at m p (owed_for net a b sent best p)) fin.empty
    (fin.keys sent ++ fin.keys best)

-- the same, of a session of the state
abbrev pub owed_by : CoreState → SessionState → OwedMap
owed_by s x = owed s.now.net x.from x.to x.adj_rib_out (rib s x.from).loc_rib

-- a session owes something
abbrev pub owes : CoreState → SessionState → Bool
owes s x = nat_lt 0 (fin.len (owed_by s x))

-- ---- the message of what is owed

abbrev pub pair_of : Attributes → List Asn × Origin
pair_of w = (w.path, w.origin)

-- an entry of what is owed, as a row of the packing rule
abbrev pub row_of : Cidr × Option Attributes → Row
row_of e = record { prefix = e.0; wanted = option_map pair_of e.1 }

-- what is owed, as rows by ascending prefix
unfoldable pub rows : OwedMap → List Row
rows m = map row_of (fin.entries m)

-- the message of the packing rule, with the sender's BGP Identifier as NEXT_HOP (RFC 4271, 5.1.3)
unfoldable pub message_by : CoreState → SessionState → Update
message_by s x = packed (rows (owed_by s x)) (router_of s.now.net x.from).0

-- what is owed, without these prefixes
abbrev pub without : OwedMap → List Cidr → OwedMap
without m ps = fold fin.remove m ps

-- ---- laws

-- a route or a withdrawal is owed exactly where it is what is advertised and isn't what was sent,
-- and nothing exactly where what is advertised was sent
pub record GetOwedLaw : Type 0 where
  pub some : (net : Network) (a b : DeviceId) (sent : AdjRib) (best : LocRib) (p : Cidr)
      (offer : Option Attributes)
      → (fin.get (owed net a b sent best) p ≡ Some offer) ↔
      ((advertised net a b best p ≡ offer) × (fin.get sent p ≢ offer))
  pub none : (net : Network) (a b : DeviceId) (sent : AdjRib) (best : LocRib) (p : Cidr)
      → (fin.get (owed net a b sent best) p ≡ None) ↔
      (fin.get sent p ≡ advertised net a b best p)

-- it is empty exactly where what was sent is what is advertised, and else there is a prefix for
-- which it isn't
pub record EmptyOwedLaw : Type 0 where
  pub empty : (net : Network) (a b : DeviceId) (sent : AdjRib) (best : LocRib)
      → (owed net a b sent best ≡ fin.empty) ↔
      ((p : Cidr) → fin.get sent p ≡ advertised net a b best p)
  pub some : (net : Network) (a b : DeviceId) (sent : AdjRib) (best : LocRib)
      → (0 < fin.len (owed net a b sent best)) ↔
      ((p : Cidr) × (fin.get sent p ≢ advertised net a b best p))

-- a change of what is held for p changes what is owed for p alone, to what is owed of the new
-- choice
abbrev pub DecidedOwedLaw : Type 0
DecidedOwedLaw =
    (net : Network) (a b : DeviceId) (sent : AdjRib) (best : LocRib) (p : Cidr) (o : Option Choice)
    → owed net a b sent (put_at best p o)
    ≡ put_at (owed net a b sent best) p
    (unless_sent (fin.get sent p) (offered_attributes net a b p o))

-- where `new` has for each of these prefixes what is advertised and for the others what was sent,
-- these are owed no more, and of the others is owed what was
abbrev pub CoveredOwedLaw : Type 0
CoveredOwedLaw =
    (net : Network) (a b : DeviceId) (sent new : AdjRib) (best : LocRib) (ps : List Cidr)
    → ((p : Cidr) → list_any (same_prefix p) ps ≡ true
    → fin.get new p ≡ advertised net a b best p)
    → ((p : Cidr) → list_any (same_prefix p) ps ≡ false → fin.get new p ≡ fin.get sent p)
    → owed net a b new best ≡ without (owed net a b sent best) ps

-- After a send of the message, its prefixes are owed no more, and of the others is owed what was;
-- and each of its prefixes was owed.
pub record SentOwedLaw : Type 0 where
  pub before : (m : OwedMap) (next_hop : ℕ) (p : Cidr)
      → list_any (same_prefix p) (prefixes_of (packed (rows m) next_hop)) ≡ true
      → fin.contains_key m p ≡ true
  pub after : (net : Network) (a b : DeviceId) (sent : AdjRib) (best : LocRib) (next_hop : ℕ)
      → owed net a b (apply_update sent (packed (rows (owed net a b sent best)) next_hop)) best
      ≡ without (owed net a b sent best)
      (prefixes_of (packed (rows (owed net a b sent best)) next_hop))
