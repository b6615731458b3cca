-- What an UPDATE does to the routes of a session (RFC 4271, 3.1, 3.2 and 4.3).
use Rattle.std.specs.Prelude.{◌≡◌, ◌++◌, false, List, Option, Some, None}
use Rattle.std.specs.List.{fold, list_any}
use Rattle.std.specs.FinMap.{FinMap}
use Rattle.std.specs.FinMap as fin
use Rattle.cn_base.specs.Cidr.{Cidr, same_prefix}
use Rattle.cn_base.specs.Table.{prefix_cmp}
use Rattle.cn_base.specs.declared.route.Attributes.{Attributes}
use Rattle.cn_wire.specs.declared.update.Attrs.{Attrs}
use Rattle.cn_wire.specs.declared.update.Update.{Update}

-- the routes of one session: what came in over it (its Adj-RIB-In), or what was sent over it (its
-- Adj-RIB-Out)
abbrev pub AdjRib : Type 0
AdjRib = FinMap prefix_cmp Attributes

-- what is kept of the attributes of an update: all but the NEXT_HOP
abbrev pub said_of : Attrs → Attributes
said_of a = record { path = a.path; origin = a.origin }

-- the routes without those of these prefixes
abbrev pub withdraw_all : AdjRib → List Cidr → AdjRib
withdraw_all routes ps = fold fin.remove routes ps

-- the routes with one of these attributes for each of these prefixes. Without attributes nothing is
-- announced.
abbrev pub announce_all : AdjRib → Option Attrs → List Cidr → AdjRib
announce_all routes None ps = routes
announce_all routes (Some a) ps = fold (λ m p. fin.insert m p (said_of a)) routes ps

-- the routes after an update: first its withdrawals, then its announcements
unfoldable pub apply_update : AdjRib → Update → AdjRib
apply_update routes u = announce_all (withdraw_all routes u.withdrawn) u.attrs u.announced

-- the prefixes of an update
abbrev pub prefixes_of : Update → List Cidr
prefixes_of u = u.withdrawn ++ u.announced

-- an update changes the routes of its own prefixes alone
abbrev pub AppliedLaw : Type 0
AppliedLaw =
    (routes : AdjRib) (u : Update) (p : Cidr) → list_any (same_prefix p) (prefixes_of u) ≡ false
    → fin.get (apply_update routes u) p ≡ fin.get routes p
