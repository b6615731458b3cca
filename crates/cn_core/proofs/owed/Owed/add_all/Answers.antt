use Rattle.std.proofs.Common.{◌∙◌, map}
use Rattle.cn_core.specs.OwedLists.{owed_over, with_all_due}
use Rattle.cn_core.specs.Stored.{held_under, session_under}
use Rattle.cn_core.proofs.OwedLists.{with_all_due-done, with_all_due-next}
use Rattle.cn_core.proofs.owed.Owed.add_all.Goals as goal

pub loop-row-preserved : goal.loop-row-preserved
loop-row-preserved g c =
    ◌∙◌ {c = with_all_due (owed_over c.args.net.now (held_under c.args.pool.now c.args.best.now)
    (session_under c.args.pool.now c.args.session.now)) c.args.self.now
    (map (λ r. r.prefix) c.args.rows.now)}
    (with_all_due-next (λ r. r.prefix)
    (owed_over c.args.net.now (held_under c.args.pool.now c.args.best.now)
    (session_under c.args.pool.now c.args.session.now))
    c.loop-row.self c.add.new.self c.args.rows.now c.loop-row.row-index c.row-item.result
    c.due_for-due.result c.loop-row-test.true c.row-item.is c.due_for-due.ensures
    c.in_ok-add.ensures.ok)
    c.loop-row.invariant

pub returns : goal.returns
returns g c =
    ◌∙◌ {c = with_all_due (owed_over c.args.net.now (held_under c.args.pool.now c.args.best.now)
    (session_under c.args.pool.now c.args.session.now)) c.args.self.now
    (map (λ r. r.prefix) c.args.rows.now)}
    (with_all_due-done (λ r. r.prefix)
    (owed_over c.args.net.now (held_under c.args.pool.now c.args.best.now)
    (session_under c.args.pool.now c.args.session.now))
    c.loop-row.self c.args.rows.now c.loop-row.row-index c.loop-row-test.false)
    c.loop-row.invariant
