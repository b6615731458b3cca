use Rattle.std.proofs.lemmas.Result.{on_ok_weaker}
use Rattle.cn_rib.proofs.IdRoutes.{applied_of, under_after}
use Rattle.cn_rib.proofs.id_rib.take_in.Goals as goal

pub returns-clause-ok : goal.returns-clause-ok
returns-clause-ok c =
    on_ok_weaker c.note_each.result
    (applied_of c.args.pool.now c.said.new.pool c.routes.inside.routes c.args.routes.now
    c.args.update.now c.in_ok-said.said c.items-withdrawn.result.now c.items-announced.result.now
    c.routes.view_is c.items-withdrawn.ensures c.items-announced.ensures c.requires.under
    c.in_ok-said.ensures.kept c.in_ok-said.ensures.said c.note_each.new.other)
    c.note_each.ensures.changed

pub returns-clause-under : goal.returns-clause-under
returns-clause-under c =
    under_after c.args.pool.now c.said.new.pool c.routes.inside.routes c.args.routes.now
    c.args.update.now c.in_ok-said.said c.items-withdrawn.result.now c.items-announced.result.now
    c.routes.view_is c.items-withdrawn.ensures c.items-announced.ensures c.requires.under
    c.in_ok-said.ensures.kept c.in_ok-said.ensures.said c.note_each.result c.note_each.new.other
    c.note_each.ensures.changed c.note_each.ensures.err_changed
