-- What is pending, and which event comes first in the serial order.
use Rattle.std.specs.Prelude.{◌≡◌, Bool, ◌&&◌, ◌||◌, [], length, Option, Some, None, is_some, option_map, nat_lt, All}
use Rattle.std.specs.List.{find}
use Rattle.std.specs.FinMap as fin
use Rattle.cn_base.specs.Cidr.{Cidr}
use Rattle.cn_base.specs.declared.ids.DeviceId.{DeviceId}
use Rattle.cn_base.specs.declared.standing.Standing.{Standing}
use Rattle.cn_base.specs.declared.standing.Standing.TheVariants.{Quiet, Mailbox, Device}
use Rattle.cn_rib.specs.PrefixSet as set
use Rattle.cn_net.specs.Network.{device_ids, same_device}
use Rattle.cn_core.specs.declared.event.Event.{Event}
use Rattle.cn_core.specs.declared.event.Event.TheVariants.{Receive, Decide, Send}
use Rattle.cn_core.specs.Owed.{owed_by, owes}
use Rattle.cn_core.specs.State.{CoreState, SessionState, rib}

-- no mailbox holds a message, nothing is dirty, and nothing is owed
pub record IsQuiet (s : CoreState) : Type 0 where
  pub mail : All (λ x. x.mail ≡ []) s.sessions
  pub clean : (d : DeviceId) → (rib s d).dirty ≡ set.empty
  pub owed : All (λ x. owed_by s x ≡ fin.empty) s.sessions

abbrev pub has_mail : SessionState → Bool
has_mail x = nat_lt 0 (length x.mail)

-- x is a session from d that owes something
abbrev pub owes_from : CoreState → DeviceId → SessionState → Bool
owes_from s d x = same_device x.from d && owes s x

-- d has a dirty prefix or owes one
abbrev pub is_pending : CoreState → DeviceId → Bool
is_pending s d = is_some (set.least (rib s d).dirty) || is_some (find (owes_from s d) s.sessions)

-- the first pending device, by number
abbrev pub first_pending : CoreState → Option DeviceId
first_pending s = find (is_pending s) (device_ids s.now.net)

abbrev pub standing_of : Option SessionState → Option DeviceId → Standing
standing_of (Some x) d = Mailbox x.from x.to
standing_of None (Some d) = Device d
standing_of None None = Quiet

-- the first session with mail by (from, to); without mail the first pending device; and else the
-- state is quiet
abbrev pub standing : CoreState → Standing
standing s = standing_of (find has_mail s.sessions) (first_pending s)

abbrev pub receive_over : SessionState → Event
receive_over x = Receive x.from x.to

abbrev pub send_over : SessionState → Event
send_over x = Send x.from x.to

-- the decision of the least dirty prefix, or else the send to the least peer that is owed
abbrev pub device_event : CoreState → DeviceId → Option Cidr → Option Event
device_event s d (Some p) = Some (Decide d p)
device_event s d None = option_map send_over (find (owes_from s d) s.sessions)

abbrev pub first_of : CoreState → Option SessionState → Option DeviceId → Option Event
first_of s (Some x) d = Some (receive_over x)
first_of s None (Some d) = device_event s d (set.least (rib s d).dirty)
first_of s None None = None

-- the first event in the serial order: the receive of the first session with mail, or else of the
-- first pending device
unfoldable pub first_event : CoreState → Option Event
first_event s = first_of s (find has_mail s.sessions) (first_pending s)
