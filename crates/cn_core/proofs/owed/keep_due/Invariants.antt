use Rattle.std.proofs.Common.{map}
use Rattle.cn_core.specs.Stored.{held_under, session_under}
use Rattle.cn_core.proofs.Lists.{IsRightSoFar}
use Rattle.cn_core.proofs.owed.keep_due.Given as goal

abbrev pub invariant-loop-at : goal.invariant-loop-at
invariant-loop-at l =
    IsRightSoFar l.net (held_under l.pool l.best) l.prefix
    (map (session_under l.pool) l.sessions) l.start l.at l.end l.fn.lists.items l.lists.items
