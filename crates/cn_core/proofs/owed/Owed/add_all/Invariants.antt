use Rattle.std.proofs.Common.{◌≡◌, drop, map}
use Rattle.cn_core.specs.OwedLists.{owed_over, with_all_due}
use Rattle.cn_core.specs.Stored.{held_under, session_under}
use Rattle.cn_core.proofs.owed.Owed.add_all.Given as goal

abbrev pub invariant-loop-row : goal.invariant-loop-row
invariant-loop-row g l =
    with_all_due (owed_over l.net (held_under l.pool l.best) (session_under l.pool l.session))
    l.self (map (λ r. r.prefix) (drop l.row-index l.rows))
    ≡ with_all_due (owed_over l.net (held_under l.pool l.best) (session_under l.pool l.session))
    l.fn.self (map (λ r. r.prefix) l.rows)
