-- How the state lies in memory: each path is held once, in a pool, and a route has the id of its
-- path. No public contract speaks of it.
use Rattle.std.specs.Prelude.{◌≡◌, ℕ, ◌<◌, List, [], length, map, slice_get, All, Option, Some}
use Rattle.std.specs.FinMap.{FinMap}
use Rattle.std.specs.FinMap as fin
use Rattle.cn_base.specs.Cidr.{Cidr}
use Rattle.cn_base.specs.Table.{prefix_cmp}
use Rattle.cn_base.specs.declared.ids.Asn.{Asn}
use Rattle.cn_base.specs.declared.ids.DeviceId.{DeviceId}
use Rattle.cn_base.specs.declared.route.Choice.{Choice}
use Rattle.cn_net.specs.Opening.{Opening}
use Rattle.cn_net.specs.declared.sessions.SessionEnds.{SessionEnds}
use Rattle.cn_pool.specs.Pool.{path_under}
use Rattle.cn_rib.specs.Interned.{IsUnder, routes_under}
use Rattle.cn_rib.specs.PrefixMaps.{mapped, put_at}
use Rattle.cn_rib.specs.PrefixSet as set
use Rattle.cn_core.specs.declared.best.Best.{Best}
use Rattle.cn_core.specs.declared.owed.Owed.{Owed}
use Rattle.cn_core.specs.declared.session.Rib.{Rib}
use Rattle.cn_core.specs.declared.session.Session.{Session}
use Rattle.cn_core.specs.OwedLists.{IsRight}
use Rattle.cn_core.specs.State.{CoreState, LocRib, RibState, SessionState}

-- ---- what is held, under a pool

-- the best routes of a device, by prefix
abbrev pub BestRoutes : Type 0
BestRoutes = FinMap prefix_cmp Best

abbrev pub choice_under : List (List Asn) → Best → Choice
choice_under pool b = record { from = b.from; path = path_under pool b.path; origin = b.origin }

-- the Loc-RIB that best routes stand for
abbrev pub held_under : List (List Asn) → BestRoutes → LocRib
held_under pool m = mapped (choice_under pool) m

-- nothing sent, under way or come in
abbrev pub unsent : DeviceId → DeviceId → Session
unsent a b =
    record { from = a; to = b; adj_rib_out = fin.empty; mail = []; adj_rib_in = fin.empty }

abbrev pub session_under : List (List Asn) → Session → SessionState
session_under pool x = record {
  from = x.from;
  to = x.to;
  adj_rib_out = routes_under pool x.adj_rib_out;
  mail = x.mail;
  adj_rib_in = routes_under pool x.adj_rib_in;
}

abbrev pub rib_under : List (List Asn) → Rib → RibState
rib_under pool y = record { loc_rib = held_under pool y.loc_rib; dirty = y.dirty }

-- the choice is held, or none, and the prefix is clean
abbrev pub best_decided : Rib → Cidr → Option Best → Rib
best_decided y p b = record { loc_rib = put_at y.loc_rib p b; dirty = set.remove y.dirty p }

-- ---- the ids are those of the pool

pub record IsHeldUnder (pool : List (List Asn)) (m : BestRoutes) : Type 0 where
  pub each : (p : Cidr) (b : Best) → fin.get m p ≡ Some b → b.path.0 < length pool

pub record IsSessionUnder (pool : List (List Asn)) (x : Session) : Type 0 where
  pub sent : IsUnder pool x.adj_rib_out
  pub came : IsUnder pool x.adj_rib_in

-- ---- the whole state

pub record Stored : Type 0 where
  pub now : Opening
  pub pool : List (List Asn)
  pub sessions : List Session
  pub ribs : List Rib

-- the state that it stands for
abbrev pub stands_for : Stored → CoreState
stands_for s = record {
  now = s.now;
  sessions = map (session_under s.pool) s.sessions;
  ribs = map (rib_under s.pool) s.ribs;
}

-- each id is one of the pool, in which the empty path comes first
pub record AreUnder (s : Stored) : Type 0 where
  pub empty : slice_get s.pool 0 ≡ Some []
  pub sessions : All (IsSessionUnder s.pool) s.sessions
  pub ribs : All (λ y. IsHeldUnder s.pool y.loc_rib) s.ribs

-- what the engine keeps beside it is right
pub record IsKeptRight (s : Stored) (index : List SessionEnds) (lists : List Owed)
    (in_mail in_lists in_ribs : List ℕ) : Type 0 where
  pub right : IsRight (stands_for s) index lists in_mail in_lists in_ribs
  pub under : AreUnder s
