-- The start of the core: nothing was sent, the own prefixes of each emulated device are dirty, and
-- each speaker holds what it says.
use Rattle.std.specs.Prelude.{List, [], Option, Some, None, option_map, map, if◌then◌else◌, unwrap_or}
use Rattle.std.specs.List.{filter, fold}
use Rattle.std.specs.FinMap.{FinMap}
use Rattle.std.specs.FinMap as fin
use Rattle.cn_base.specs.Cidr.{Cidr}
use Rattle.cn_base.specs.Table.{prefix_cmp}
use Rattle.cn_base.specs.declared.ids.DeviceId.{DeviceId}
use Rattle.cn_base.specs.declared.route.Choice.{Choice}
use Rattle.cn_rib.specs.PrefixSet as set
use Rattle.cn_net.specs.Islands.{holds_device}
use Rattle.cn_net.specs.Network.{Network, device_ids, device_of, same_device}
use Rattle.cn_net.specs.Opening.{Opening}
use Rattle.cn_net.specs.Sessions.{session_ends}
use Rattle.cn_net.specs.declared.sessions.SessionEnds.{SessionEnds}
use Rattle.cn_record.specs.Recorded.{RecordedOpening}
use Rattle.cn_record.specs.Said.{said_by}
use Rattle.cn_record.specs.declared.saved.Row.{Row}
use Rattle.cn_core.specs.State.{CoreState, RibState, SessionState, empty_session}

-- ---- sessions

-- the ends of a session
abbrev pub ends : SessionState → SessionEnds
ends x = record { from = x.from; to = x.to }

-- the ends of sessions, in their order
abbrev pub ends_of : List SessionState → List SessionEnds
ends_of xs = map ends xs

-- a session for each direction of a link whose receiver is emulated, by (from, to)
unfoldable pub first_sessions : Opening → List SessionState
first_sessions o = map (λ e. empty_session e.from e.to) (session_ends o.net o.emulated)

-- ---- what an emulated device has

abbrev pub own_prefixes : Network → DeviceId → List Cidr
own_prefixes net d =
    unwrap_or (option_map (λ x. map (λ o. o.prefix) x.body.own) (device_of net d)) []

-- nothing is held, and the own prefixes are dirty
abbrev pub emulated_rib : Opening → DeviceId → RibState
emulated_rib o d =
    record { loc_rib = fin.empty; dirty = set.insert_all set.empty (own_prefixes o.net d) }

-- ---- what a speaker has

-- the rows that are recorded of d
abbrev pub rows_of : List Row → DeviceId → List Row
rows_of rows d = filter (λ x. same_device x.device d) rows

-- the choice is held too, if there is one
abbrev pub with_choice : FinMap prefix_cmp Choice → Cidr → Option Choice → FinMap prefix_cmp Choice
with_choice best p None = best
with_choice best p (Some c) = fin.insert best p c

-- what d says of each prefix that is recorded of it
abbrev pub said_routes : RecordedOpening → DeviceId → FinMap prefix_cmp Choice
said_routes r d =
    fold (λ best x. with_choice best x.prefix (said_by r.opening r.rows d x.prefix)) fin.empty
    (rows_of r.rows d)

-- A speaker holds what it says, and nothing that it holds is ever dirty: no session leads to it, so
-- it takes in nothing.
abbrev pub speaker_rib : RecordedOpening → DeviceId → RibState
speaker_rib r d = record { loc_rib = said_routes r d; dirty = set.empty }

-- ---- the state

abbrev pub first_rib : RecordedOpening → DeviceId → RibState
first_rib r d =
    if holds_device r.opening.emulated d then emulated_rib r.opening d else speaker_rib r d

-- what each device holds, by its number
unfoldable pub first_ribs : RecordedOpening → List RibState
first_ribs r = map (first_rib r) (device_ids r.opening.net)

unfoldable pub start : RecordedOpening → CoreState
start r = record { now = r.opening; sessions = first_sessions r.opening; ribs = first_ribs r }
