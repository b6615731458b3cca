-- The order of routes (RFC 4271, 9.1.2.2), in the profile of this project.
use Rattle.std.specs.Prelude.{ℕ, Bool}
use Rattle.std.specs.Ordering.{nat_cmp, bool_cmp, on, then_cmp, is_lt}
use Rattle.std.specs.declared.cmp.Ordering.{Ordering}
use Rattle.cn_base.specs.declared.ids.Origin.{Origin}
use Rattle.cn_base.specs.declared.ids.Origin.TheVariants.{Igp, Egp, Incomplete}
use Rattle.cn_base.specs.declared.rank.Rank.{Rank}

-- the code of ORIGIN in a message (RFC 4271, 4.3)
abbrev pub origin_code : Origin → ℕ
origin_code Igp = 0
origin_code Egp = 1
origin_code Incomplete = 2

-- The steps of the decision (RFC 4271, 9.1.2.2), in their order. All routes have one degree of
-- preference (9.1.1), so that step decides nothing; but a device's own route comes before each that
-- it learnt.
-- own before learnt
abbrev pub own_first : Rank → Rank → Ordering
own_first = on (λ r. r.learnt) bool_cmp

-- a) the path with the least number of AS numbers
abbrev pub shortest_path : Rank → Rank → Ordering
shortest_path = on (λ r. r.length) nat_cmp

-- b) the lowest ORIGIN
abbrev pub lowest_origin : Rank → Rank → Ordering
lowest_origin = on (λ r. origin_code r.origin) nat_cmp

-- c) can't decide: no route has a MULTI_EXIT_DISC; d) neither: each session is eBGP;
-- e) neither: sessions are single-hop, so no route has an interior cost

-- f) the lowest BGP Identifier of the sender
abbrev pub lowest_sender : Rank → Rank → Ordering
lowest_sender = on (λ r. r.sender.0) nat_cmp

-- g) can't decide: BGP Identifiers are distinct, so f) leaves no tie

-- own before learnt, then a), b) and f)
abbrev pub rank_cmp : Rank → Rank → Ordering
rank_cmp = then_cmp own_first (then_cmp shortest_path (then_cmp lowest_origin lowest_sender))

-- x stands before y
abbrev pub ranks_before : Rank → Rank → Bool
ranks_before x y = is_lt (rank_cmp x y)
