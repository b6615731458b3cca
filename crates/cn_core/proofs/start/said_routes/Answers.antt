use Rattle.std.proofs.Common.{ap, ◌∙◌}
use Rattle.cn_core.specs.Start.{rows_of}
use Rattle.cn_core.proofs.FirstHeld.{said-all, said-next, said-none}
use Rattle.cn_core.proofs.start.said_routes.Goals as goal

pub loop-row-init : goal.loop-row-init
loop-row-init c =
    said-none c.args.recorded.now c.args.device c.args.pool.now c.new-routes.result
    c.rows_of-row-items.result.now c.new-routes.ensures
    (c.rows_of-row-items.ensures ∙ ap (λ rows. rows_of rows c.args.device) c.rows.ensures.same)

pub hold-requires : goal.hold-requires
hold-requires c = c.loop-row.invariant.under

pub loop-row-preserved : goal.loop-row-preserved
loop-row-preserved c =
    said-next c.args.recorded.now c.args.device c.args.pool.now c.loop-row.pool c.hold.new.pool
    c.loop-row.routes c.hold.new.routes c.rows_of-row-items.result.now c.loop-row.row-index
    c.row-item.result _ c.loop-row.invariant c.loop-row-test.true c.row-item.is
    c.said-said.ensures c.in_ok-hold.ensures.routes c.in_ok-hold.ensures.under
    c.in_ok-hold.ensures.kept

pub returns-clause-routes : goal.returns-clause-routes
returns-clause-routes c =
    said-all c.args.recorded.now c.args.device c.args.pool.now c.loop-row.pool c.loop-row.routes
    c.rows_of-row-items.result.now c.loop-row.row-index c.loop-row.invariant c.loop-row-test.false

pub returns-clause-under : goal.returns-clause-under
returns-clause-under c = c.loop-row.invariant.under

pub returns-clause-kept : goal.returns-clause-kept
returns-clause-kept c = c.loop-row.invariant.kept
