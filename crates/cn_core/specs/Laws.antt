-- What holds of the state after every run.
use Rattle.std.specs.Prelude.{◌≡◌, ◌≤◌, ◌↔◌, ◌∷◌, ℕ, true, false, List, length, Some, None, Ok, All, IsTrue}
use Rattle.std.specs.FinMap as fin
use Rattle.cn_base.specs.Cidr.{Cidr}
use Rattle.cn_base.specs.declared.ids.DeviceId.{DeviceId}
use Rattle.cn_base.specs.declared.standing.Standing.TheVariants as stands
use Rattle.cn_rib.specs.PrefixSet as set
use Rattle.cn_wire.specs.Reading.{update_of}
use Rattle.cn_wire.specs.Writing.{spelling}
use Rattle.cn_wire.specs.declared.update.Update.{Update}
use Rattle.cn_net.specs.Candidates.{best_of}
use Rattle.cn_net.specs.Boundary.{AgreeInside}
use Rattle.cn_net.specs.Islands.{holds_device, outside_of}
use Rattle.cn_net.specs.Opening.{Opening}
use Rattle.cn_net.specs.Sessions.{session_ends}
use Rattle.cn_net.specs.Stable.{Assignment, IsStable}
use Rattle.cn_record.specs.Recorded.{IsRecorded, RecordedOpening}
use Rattle.cn_record.specs.Said.{said_by}
use Rattle.cn_core.specs.declared.event.Event.{Event}
use Rattle.cn_core.specs.declared.event.Event.TheVariants.{Send}
use Rattle.cn_core.specs.declared.event.Step.{Step}
use Rattle.cn_core.specs.Fits.{Fits, FitsState, MailBringsSent}
use Rattle.cn_core.specs.Machine.{came_at, can, IsRun, state}
use Rattle.cn_core.specs.Start.{ends_of}
use Rattle.cn_core.specs.Order.{IsQuiet, first_event, standing}
use Rattle.cn_core.specs.Owed.{message_by}
use Rattle.cn_core.specs.State.{CoreState, RibState, rib, session}

-- what each device holds for each prefix
abbrev pub held_in : CoreState → Assignment
held_in s d p = fin.get (rib s d).loc_rib p

-- no step changes the opening
abbrev pub NowFollowsJournal : RecordedOpening → CoreState → Type 0
NowFollowsJournal r s = s.now ≡ r.opening

-- an emulated device holds for each clean prefix what a decision would give
abbrev pub CleanIsDecided : Opening → CoreState → Type 0
CleanIsDecided o s =
    (d : DeviceId) (p : Cidr) → holds_device o.emulated d ≡ true
    → set.contains (rib s d).dirty p ≡ false → held_in s d p ≡ best_of s.now.net (came_at s d p) d p

-- what a speaker has: it holds what it says and nothing else, and nothing is dirty
pub record IsSpeaking (r : RecordedOpening) (d : DeviceId) (x : RibState) : Type 0 where
  pub says : (p : Cidr) → fin.get x.loc_rib p ≡ said_by r.opening r.rows d p
  pub clean : x.dirty ≡ set.empty

-- each device that isn't emulated says what is recorded of it, whatever happens
abbrev pub SpeakersSay : RecordedOpening → CoreState → Type 0
SpeakersSay r s =
    (d : DeviceId) → holds_device r.opening.emulated d ≡ false → IsSpeaking r d (rib s d)

-- what every step keeps, whatever the numbers are
pub record IsKept (r : RecordedOpening) (s : CoreState) : Type 0 where
  pub now : NowFollowsJournal r s
  pub ends : ends_of s.sessions ≡ session_ends r.opening.net r.opening.emulated
  pub ribs : length s.ribs ≡ length r.opening.net.devices
  pub few : All (λ x. length x.mail ≤ 64) s.sessions
  pub decided : CleanIsDecided r.opening s
  pub speakers : SpeakersSay r s

-- what every step keeps where the numbers of the opening fit: each message is the spelling of an
-- update, and the mail brings what was sent
pub record IsCarried (s : CoreState) : Type 0 where
  pub fits : FitsState s
  pub transit : MailBringsSent s

-- the invariants hold of the state after every run
pub record RunLaw : Type 0 where
  pub kept : (r : RecordedOpening) (h : List Step) → IsRun r h → IsKept r (state r h)
  pub carried : (r : RecordedOpening) (h : List Step) → Fits r → IsRun r h
      → IsCarried (state r h)

-- a spelling is read as the update that it spells
abbrev pub IsReadBack : Update → Type 0
IsReadBack u = update_of (spelling u) ≡ Ok u

-- where the numbers of a state fit, what is sent is read back, and what is received is read
pub record FitsLaw : Type 0 where
  pub sent : (s : CoreState) (a b : DeviceId) → FitsState s → IsTrue (can s (Send a b))
      → IsReadBack (message_by s (session s a b))
  pub received : (s : CoreState) (a b : DeviceId) (octets : List ℕ) (rest : List (List ℕ))
      → FitsState s → (session s a b).mail ≡ octets ∷ rest
      → (u : Update) × (update_of octets ≡ Ok u) × (octets ≡ spelling u)

-- Behind a certified boundary with sound records, the emulated devices hold in a quiet state what
-- they hold in a stable state of the whole network, in which no device is a speaker.
abbrev pub QuietLaw : Type 0
QuietLaw =
    (r : RecordedOpening) (h : List Step) (whole : Assignment) → Fits r → IsRecorded r → IsRun r h
    → IsQuiet (state r h) → IsStable r.opening.net whole
    → AgreeInside r.opening.net (outside_of r.opening.emulated) (held_in (state r h)) whole

-- the standing is Quiet exactly where the state is quiet
abbrev pub StandingLaw : Type 0
StandingLaw =
    (r : RecordedOpening) (h : List Step) → IsRun r h
    → (standing (state r h) ≡ stands.Quiet) ↔ IsQuiet (state r h)

-- the first event is enabled, and there is none exactly where the state is quiet
pub record FirstLaw : Type 0 where
  pub enabled : (r : RecordedOpening) (h : List Step) (e : Event) → IsRun r h
      → first_event (state r h) ≡ Some e → IsTrue (can (state r h) e)
  pub none : (r : RecordedOpening) (h : List Step) → IsRun r h
      → (first_event (state r h) ≡ None) ↔ IsQuiet (state r h)
