use Rattle.std.proofs.Common.{drop}
use Rattle.cn_core.proofs.FirstHeld.{IsSaidSoFar}
use Rattle.cn_core.proofs.start.said_routes.Given as goal

abbrev pub invariant-loop-row : goal.invariant-loop-row
invariant-loop-row l =
    IsSaidSoFar l.recorded l.device l.fn.pool l.pool l.routes (drop l.row-index l.row-items)
