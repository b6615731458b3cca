-- The events of the core, each with the condition under which it is enabled and its one result.
use Rattle.std.specs.Prelude.{ℕ, Bool, ◌&&◌, List, [], ◌∷◌, ◌++◌, length, Option, Result, Ok, Err, is_some, option_map, slice_set, if◌then◌else◌, nat_lt, IsTrue}
use Rattle.std.specs.List.{find, fold}
use Rattle.std.specs.FinMap as fin
use Rattle.cn_base.specs.Cidr.{Cidr}
use Rattle.cn_base.specs.declared.ids.DeviceId.{DeviceId}
use Rattle.cn_base.specs.declared.route.Attributes.{Attributes}
use Rattle.cn_base.specs.declared.route.Choice.{Choice}
use Rattle.cn_base.specs.declared.route.Route.{Route}
use Rattle.cn_rib.specs.PrefixMaps.{put_at}
use Rattle.cn_rib.specs.PrefixSet as set
use Rattle.cn_rib.specs.Updates.{apply_update, prefixes_of}
use Rattle.cn_wire.specs.Reading.{update_of}
use Rattle.cn_wire.specs.Writing.{spelling}
use Rattle.cn_wire.specs.declared.fault.WireFault.{WireFault}
use Rattle.cn_wire.specs.declared.update.Update.{Update}
use Rattle.cn_net.specs.Candidates.{best_of}
use Rattle.cn_record.specs.Recorded.{RecordedOpening}
use Rattle.cn_core.specs.declared.event.Event.{Event}
use Rattle.cn_core.specs.declared.event.Event.TheVariants.{Receive, Decide, Send}
use Rattle.cn_core.specs.declared.event.Step.{Step}
use Rattle.cn_core.specs.declared.event.Step.TheVariants.{Work, Mark}
use Rattle.cn_core.specs.Start.{start}
use Rattle.cn_core.specs.Owed.{message_by, owes}
use Rattle.cn_core.specs.State.{CoreState, RibState, SessionState, is_session, session, rib}

-- ---- a change in one place, all else as it is

-- f at the first item that passes the test
abbrev pub at_first : {A : Type 0} → (A → Bool) → (A → A) → List A → List A
at_first test f [] = []
at_first test f (x ∷ xs) = if test x then f x ∷ xs else x ∷ at_first test f xs

unfoldable pub with_session : CoreState → DeviceId → DeviceId → (SessionState → SessionState)
    → CoreState
with_session s a b f =
    record { now = s.now; sessions = at_first (is_session a b) f s.sessions; ribs = s.ribs }

unfoldable pub with_rib : CoreState → DeviceId → RibState → CoreState
with_rib s d x = record { now = s.now; sessions = s.sessions; ribs = slice_set s.ribs d.0 x }

-- ---- receive: the update that the first message spells leaves the mailbox and is applied to what
-- came in, and its prefixes become dirty (RFC 4271, 9)

abbrev pub taken_in : Update → List (List ℕ) → SessionState → SessionState
taken_in u rest x = record {
  from = x.from;
  to = x.to;
  adj_rib_out = x.adj_rib_out;
  mail = rest;
  adj_rib_in = apply_update x.adj_rib_in u;
}

abbrev pub with_dirty : RibState → List Cidr → RibState
with_dirty x ps = record { loc_rib = x.loc_rib; dirty = set.insert_all x.dirty ps }

-- octets that spell no update change nothing; no run puts such a message in a mailbox
abbrev pub take_in : CoreState → DeviceId → DeviceId → List (List ℕ) → Result Update WireFault
    → CoreState
take_in s a b rest (Ok u) =
    with_rib (with_session s a b (taken_in u rest)) b (with_dirty (rib s b) (prefixes_of u))
take_in s a b rest (Err fault) = s

abbrev pub receive : CoreState → DeviceId → DeviceId → List (List ℕ) → CoreState
receive s a b [] = s
receive s a b (octets ∷ rest) = take_in s a b rest (update_of octets)

-- ---- decide: the device holds the best of its candidates for the prefix, which is clean (RFC
-- 4271, 9.1.2)

abbrev pub route_with : Cidr → Attributes → Route
route_with p x = record { prefix = p; path = x.path; origin = x.origin }

-- the route to p that came in at d from each device
unfoldable pub came_at : CoreState → DeviceId → Cidr → DeviceId → Option Route
came_at s d p a = option_map (route_with p) (fin.get (session s a d).adj_rib_in p)

abbrev pub decided : RibState → Cidr → Option Choice → RibState
decided x p o = record { loc_rib = put_at x.loc_rib p o; dirty = set.remove x.dirty p }

abbrev pub decide : CoreState → DeviceId → Cidr → CoreState
decide s d p = with_rib s d (decided (rib s d) p (best_of s.now.net (came_at s d p) d p))

-- ---- send: the message of what is owed stands last in the mailbox, as the octets that spell it,
-- and what it says counts as sent (RFC 4271, 9.2)

abbrev pub put_out : Update → SessionState → SessionState
put_out u x = record {
  from = x.from;
  to = x.to;
  adj_rib_out = apply_update x.adj_rib_out u;
  mail = x.mail ++ spelling u ∷ [];
  adj_rib_in = x.adj_rib_in;
}

abbrev pub send : CoreState → DeviceId → DeviceId → CoreState
send s a b = with_session s a b (put_out (message_by s (session s a b)))

-- ---- steps

-- whether an event may happen
abbrev pub can : CoreState → Event → Bool
can s (Receive a b) = nat_lt 0 (length (session s a b).mail)
can s (Decide d p) = set.contains (rib s d).dirty p
can s (Send a b) =
    is_some (find (is_session a b) s.sessions) &&
    (owes s (session s a b) && nat_lt (length (session s a b).mail) 64)

abbrev pub after_event : CoreState → Event → CoreState
after_event s (Receive a b) = receive s a b (session s a b).mail
after_event s (Decide d p) = decide s d p
after_event s (Send a b) = send s a b

-- a mark may always be made, and changes nothing but the history
abbrev pub IsEnabled : CoreState → Step → Type 0
IsEnabled s (Work e) = IsTrue (can s e)
IsEnabled s (Mark k) = Unit {0}

abbrev pub step : CoreState → Step → CoreState
step s (Work e) = after_event s e
step s (Mark k) = s

-- ---- histories

-- the state after a history
unfoldable pub state : RecordedOpening → List Step → CoreState
state r h = fold step (start r) h

abbrev pub IsRunFrom : CoreState → List Step → Type 0
IsRunFrom s [] = Unit {0}
IsRunFrom s (e ∷ es) = IsEnabled s e × IsRunFrom (step s e) es

-- each step is enabled where it stands
unfoldable pub IsRun : RecordedOpening → List Step → Type 0
IsRun r h = IsRunFrom (start r) h
