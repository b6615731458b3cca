use Rattle.std.proofs.Common.{map}
use Rattle.cn_core.specs.Stored.{rib_under, session_under}
use Rattle.cn_core.proofs.ListsMade.{AreListedSoFar}
use Rattle.cn_core.proofs.start.lists.Given as goal

abbrev pub invariant-loop-session : goal.invariant-loop-session
invariant-loop-session l =
    AreListedSoFar l.certified (map (session_under l.pool) l.sessions)
    (map (rib_under l.pool) l.ribs) l.session-index l.lists.items
