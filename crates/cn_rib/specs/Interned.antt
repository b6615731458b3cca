-- The routes of a session by the ids of their paths in a pool (RFC 4271, 3.2).
use Rattle.std.specs.Prelude.{◌≡◌, ◌<◌, List, length, Option, Some, None, option_map}
use Rattle.std.specs.FinMap.{FinMap}
use Rattle.std.specs.FinMap as fin
use Rattle.cn_base.specs.Cidr.{Cidr}
use Rattle.cn_base.specs.Table.{prefix_cmp}
use Rattle.cn_base.specs.declared.ids.Asn.{Asn}
use Rattle.cn_base.specs.declared.route.Attributes.{Attributes}
use Rattle.cn_pool.specs.Pool.{Extends, path_under}
use Rattle.cn_rib.specs.PrefixMaps.{mapped}
use Rattle.cn_rib.specs.Updates.{AdjRib, said_of}
use Rattle.cn_rib.specs.declared.interned.Interned.{Interned}
use Rattle.cn_wire.specs.declared.update.Update.{Update}

-- by prefix the id of the path, and the ORIGIN
abbrev pub IdRoutes : Type 0
IdRoutes = FinMap prefix_cmp Interned

-- the attributes that an id and an ORIGIN are under a pool
abbrev pub attributes_under : List (List Asn) → Interned → Attributes
attributes_under pool x = record { path = path_under pool x.path; origin = x.origin }

-- the routes that a table of ids stands for under a pool
abbrev pub routes_under : List (List Asn) → IdRoutes → AdjRib
routes_under pool m = mapped (attributes_under pool) m

-- each id of the table is one of the pool
pub record IsUnder (pool : List (List Asn)) (m : IdRoutes) : Type 0 where
  pub each : (p : Cidr) (x : Interned) → fin.get m p ≡ Some x → x.path.0 < length pool

-- this is what the update says of the prefixes that it announces
abbrev pub IsSaid : List (List Asn) → Update → Option Interned → Type 0
IsSaid pool u None = u.attrs ≡ None
IsSaid pool u (Some x) =
    (x.path.0 < length pool)
    × (option_map said_of u.attrs ≡ Some (attributes_under pool x))

-- a table stands for the same routes after further paths have joined the pool
abbrev pub SameRoutesLaw : Type 0
SameRoutesLaw =
    (old new : List (List Asn)) (m : IdRoutes) → IsUnder old m → Extends old new
    → IsUnder new m × (routes_under new m ≡ routes_under old m)
