-- The state of the core: what stands between devices and in them (RFC 4271, 3.2).
use Rattle.std.specs.Prelude.{ℕ, Bool, ◌&&◌, List, [], unwrap_or, get_or}
use Rattle.std.specs.List.{find}
use Rattle.std.specs.FinMap.{FinMap}
use Rattle.std.specs.FinMap as fin
use Rattle.cn_base.specs.Table.{prefix_cmp}
use Rattle.cn_base.specs.declared.ids.DeviceId.{DeviceId}
use Rattle.cn_base.specs.declared.route.Choice.{Choice}
use Rattle.cn_rib.specs.PrefixSet as set
use Rattle.cn_rib.specs.Updates.{AdjRib}
use Rattle.cn_net.specs.Network.{same_device}
use Rattle.cn_net.specs.Opening.{Opening}

-- the best routes of a device (Loc-RIB)
abbrev pub LocRib : Type 0
LocRib = FinMap prefix_cmp Choice

-- A directed session: what was sent over it (the sender's Adj-RIB-Out), the messages that are under
-- way, each as its octets, and what came in over it (the receiver's Adj-RIB-In).
pub record SessionState : Type 0 where
  pub from : DeviceId
  pub to : DeviceId
  pub adj_rib_out : AdjRib
  pub mail : List (List ℕ)
  pub adj_rib_in : AdjRib

-- what a device holds, and the prefixes for which it is to decide again
pub record RibState : Type 0 where
  pub loc_rib : LocRib
  pub dirty : set.PrefixSet

-- the opening now, the directed sessions by (from, to), and what each device holds, by its number
pub record CoreState : Type 0 where
  pub now : Opening
  pub sessions : List SessionState
  pub ribs : List RibState

-- ---- what stands at a place

abbrev pub is_session : DeviceId → DeviceId → SessionState → Bool
is_session a b x = same_device x.from a && same_device x.to b

-- nothing sent, under way or come in
abbrev pub empty_session : DeviceId → DeviceId → SessionState
empty_session a b =
    record { from = a; to = b; adj_rib_out = fin.empty; mail = []; adj_rib_in = fin.empty }

-- the session from a to b, which is empty where there is none
unfoldable pub session : CoreState → DeviceId → DeviceId → SessionState
session s a b = unwrap_or (find (is_session a b) s.sessions) (empty_session a b)

-- nothing held, nothing dirty
abbrev pub empty_rib : RibState
empty_rib = record { loc_rib = fin.empty; dirty = set.empty }

-- what d holds, and nothing where there is no such device
unfoldable pub rib : CoreState → DeviceId → RibState
rib s d = get_or s.ribs d.0 empty_rib
