-- What each device holds for one prefix, in a list, and what the devices then decide.
use Rattle.std.specs.Prelude.{◌+◌, Bool, true, false, not, min, List, length, Option, None, Some, option_map, slice_index_or, slice_set}
use Rattle.std.specs.List.{fold}
use Rattle.cn_base.specs.Cidr.{Cidr}
use Rattle.cn_base.specs.Rank.{ranks_before}
use Rattle.cn_base.specs.declared.ids.DeviceId.{DeviceId}
use Rattle.cn_base.specs.declared.rank.Rank.{Rank}
use Rattle.cn_base.specs.declared.route.Choice.{Choice}
use Rattle.cn_decide.specs.Decide.{with_rank}
use Rattle.cn_decide.specs.declared.Ranked.{Ranked}
use Rattle.cn_net.specs.Candidates.{best_of, rank_of, usable}
use Rattle.cn_net.specs.Network.{Network, router_of}
use Rattle.cn_net.specs.Stable.{Assignment, offers_to}

-- the assignment that a table for one prefix stands for
abbrev pub held_of : List (Option Choice) → Assignment
held_of table d p = slice_index_or table d.0 None

-- what d may use of what a offers, where the devices hold what the table has
abbrev pub candidate_from : Network → Cidr → List (Option Choice) → DeviceId → DeviceId
    → Option Choice
candidate_from net p table d a = usable net d a (offers_to net (held_of table) d p a)

-- the same, beside its rank
abbrev pub ranked_candidate : Network → Cidr → List (Option Choice) → DeviceId → DeviceId
    → Option (Ranked Choice)
ranked_candidate net p table d a =
    option_map (with_rank (rank_of net)) (candidate_from net p table d a)

-- the best rank that an offer of c from a can have: it is at least one number longer than c
abbrev pub shortest_rank : Network → DeviceId → Choice → Rank
shortest_rank net a c = record {
  learnt = true;
  length = min (length c.path + 1) 255;
  origin = c.origin;
  sender = router_of net a;
}

-- no offer of c from a can outrank the best so far
abbrev pub no_offer_outranks : Network → Option (Ranked Choice) → DeviceId → Choice → Bool
no_offer_outranks net None a c = false
no_offer_outranks net (Some best) a c = not (ranks_before (shortest_rank net a c) best.rank)

-- what d decides, where the devices hold what the table has
abbrev pub decided : Network → Cidr → List (Option Choice) → DeviceId → Option Choice
decided net p table d = best_of net (offers_to net (held_of table) d p) d p

-- the table when d has decided
abbrev pub turn : Network → Cidr → List (Option Choice) → DeviceId → List (Option Choice)
turn net p table d = slice_set table d.0 (decided net p table d)

-- the table when these devices have decided, one after the other
abbrev pub round_of : Network → Cidr → List (Option Choice) → List DeviceId → List (Option Choice)
round_of net p table ds = fold (turn net p) table ds
