-- A route that came in, with whom it came from, as the choice that it would be.
use Rattle.std.specs.Prelude.{Bool, List, Option, Some, is_some, option_map}
use Rattle.std.specs.List.{find}
use Rattle.cn_base.specs.declared.ids.Asn.{Asn}
use Rattle.cn_base.specs.declared.ids.DeviceId.{DeviceId}
use Rattle.cn_base.specs.declared.route.Choice.{Choice}
use Rattle.cn_base.specs.declared.route.Attributes.{Attributes}
use Rattle.cn_decide.specs.Decide.{on_item}
use Rattle.cn_decide.specs.declared.Ranked.{Ranked}
use Rattle.cn_core.specs.declared.best.Best.{Best}
use Rattle.cn_core.specs.State.{CoreState, is_session}
use Rattle.cn_core.specs.Stored.{choice_under}

-- the attributes of a route from a, as a choice
abbrev pub choice_with : DeviceId → Attributes → Choice
choice_with a x = record { from = Some a; path = x.path; origin = x.origin }

-- the best so far under a pool, beside its rank
abbrev pub learnt_choice : List (List Asn) → Option (Ranked Best) → Option (Ranked Choice)
learnt_choice pool best = option_map (on_item (choice_under pool)) best

-- there is a session from a to d
abbrev pub has_session : CoreState → DeviceId → DeviceId → Bool
has_session s d a = is_some (find (is_session a d) s.sessions)
