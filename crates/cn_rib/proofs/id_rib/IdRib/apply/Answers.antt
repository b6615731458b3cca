use Rattle.std.proofs.lemmas.Result.{on_ok_weaker}
use Rattle.cn_rib.proofs.IdRoutes.{applied_of, under_after}
use Rattle.cn_rib.proofs.id_rib.IdRib.apply.Goals as goal

pub returns-clause-ok : goal.returns-clause-ok
returns-clause-ok c =
    on_ok_weaker c.change_each.result
    (applied_of c.args.pool.now c.said.new.pool c.self.inside.routes c.args.self.now
    c.args.update.now c.in_ok-said.said c.items-withdrawn.result.now c.items-announced.result.now
    c.self.view_is c.items-withdrawn.ensures c.items-announced.ensures c.requires.under
    c.in_ok-said.ensures.kept c.in_ok-said.ensures.said c.change_each.new.self)
    c.change_each.ensures.ok

pub returns-clause-under : goal.returns-clause-under
returns-clause-under c =
    under_after c.args.pool.now c.said.new.pool c.self.inside.routes c.args.self.now
    c.args.update.now c.in_ok-said.said c.items-withdrawn.result.now c.items-announced.result.now
    c.self.view_is c.items-withdrawn.ensures c.items-announced.ensures c.requires.under
    c.in_ok-said.ensures.kept c.in_ok-said.ensures.said c.change_each.result c.change_each.new.self
    c.change_each.ensures.ok c.change_each.ensures.err
