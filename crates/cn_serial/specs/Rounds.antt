-- Rounds: exchanges until there are none, and then decisions until nothing is dirty.
use Rattle.std.specs.Prelude.{◌≡◌, ◌↔◌, ◌<◌, ◌++◌, ◌∷◌, [], Bool, List, length, Option, Some, None, is_some, option_map}
use Rattle.std.specs.List.{find}
use Rattle.cn_base.specs.declared.ids.DeviceId.{DeviceId}
use Rattle.cn_rib.specs.PrefixSet as set
use Rattle.cn_net.specs.Network.{device_ids}
use Rattle.cn_record.specs.Recorded.{RecordedOpening}
use Rattle.cn_core.specs.declared.event.Event.{Event}
use Rattle.cn_core.specs.declared.event.Event.TheVariants.{Decide}
use Rattle.cn_core.specs.declared.event.Step.{Step}
use Rattle.cn_core.specs.Machine.{IsRun, IsRunFrom, state}
use Rattle.cn_core.specs.Order.{IsQuiet, has_mail, receive_over, send_over}
use Rattle.cn_core.specs.Play.{AreWork, after}
use Rattle.cn_core.specs.Owed.{owes}
use Rattle.cn_core.specs.State.{CoreState, SessionState, rib}
use Rattle.cn_serial.specs.Serial.{Follows}

-- ---- what comes next

abbrev pub exchange_of : Option SessionState → Option SessionState → Option Event
exchange_of (Some x) y = Some (receive_over x)
exchange_of None (Some y) = Some (send_over y)
exchange_of None None = None

-- the receive of the first session with mail, or without mail the send of the first session that
-- owes
abbrev pub next_exchange : CoreState → Option Event
next_exchange s = exchange_of (find has_mail s.sessions) (find (owes s) s.sessions)

-- d has a dirty prefix
abbrev pub has_dirty : CoreState → DeviceId → Bool
has_dirty s d = is_some (set.least (rib s d).dirty)

abbrev pub decision_of : CoreState → Option DeviceId → Option Event
decision_of s None = None
decision_of s (Some d) = option_map (Decide d) (set.least (rib s d).dirty)

-- the decision of the least dirty prefix of the first device that has one
abbrev pub next_decision : CoreState → Option Event
next_decision s = decision_of s (find (has_dirty s) (device_ids s.now.net))

-- ---- rounds

-- each step is what comes next, and behind them nothing does
pub record FollowsOut (next : CoreState → Option Event) (s : CoreState)
    (steps : List Step) : Type 0 where
  pub each : Follows next s steps
  pub out : next (after s steps) ≡ None

pub record Round : Type 0 where
  pub exchanges : List Step
  pub decisions : List Step

abbrev pub steps_of : Round → List Step
steps_of x = x.exchanges ++ x.decisions

-- receives and sends until there is neither, and then decisions until nothing is dirty
pub record IsRound (s : CoreState) (x : Round) : Type 0 where
  pub exchanged : FollowsOut next_exchange s x.exchanges
  pub decided : FollowsOut next_decision (after s x.exchanges) x.decisions

abbrev pub steps_of_all : List Round → List Step
steps_of_all [] = []
steps_of_all (x ∷ xs) = steps_of x ++ steps_of_all xs

-- one round after another, for as long as the state isn't quiet
abbrev pub AreRounds : CoreState → List Round → Type 0
AreRounds s [] = IsQuiet s
AreRounds s (x ∷ xs) = (IsQuiet s → ⊥) × IsRound s x × AreRounds (after s (steps_of x)) xs

-- ---- laws

-- the steps are a run of work alone, and lead to quiet
pub record IsQuietWork (s : CoreState) (steps : List Step) : Type 0 where
  pub work : AreWork steps
  pub run : IsRunFrom s steps
  pub quiet : IsQuiet (after s steps)

-- In a state of a run, neither an exchange nor a decision comes next exactly where the state is
-- quiet; so a round of a state that isn't quiet has a step. From a state there is at most one list
-- of rounds until quiet, and in a state of a run its steps are a run of work that leads there.
pub record RoundLaw : Type 0 where
  pub none : (r : RecordedOpening) (h : List Step) → IsRun r h
      → ((next_exchange (state r h) ≡ None) × (next_decision (state r h) ≡ None))
      ↔ IsQuiet (state r h)
  pub some : (r : RecordedOpening) (h : List Step) (x : Round) → IsRun r h
      → (IsQuiet (state r h) → ⊥) → IsRound (state r h) x → 0 < length (steps_of x)
  pub one : (s : CoreState) (xs ys : List Round) → AreRounds s xs → AreRounds s ys → xs ≡ ys
  pub work : (r : RecordedOpening) (h : List Step) (xs : List Round) → IsRun r h
      → AreRounds (state r h) xs → IsQuietWork (state r h) (steps_of_all xs)
