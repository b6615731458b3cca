use Rattle.std.proofs.Common.{inl, refl, arith}
use Rattle.cn_top.specs.Form.{plan_form}
use Rattle.cn_top.proofs.Intents.{bad_plan, intends_unread, intends_wrong, last_first, read_first, so_far_first, unread_first}
use Rattle.cn_top.proofs.commands.plan_means.Goals as goal

pub returns-in-Bad-clause-intends : goal.returns-in-Bad-clause-intends
returns-in-Bad-clause-intends g c =
    let form = plan_form c.args.file.now in
    let before = g.S.Shelf.files c.args.shelf.now in
    let after = g.S.Shelf.files c.read_plan.new.shelf in
    let read = rw c.in-Bad.is at c.in_ok-recorded.ensures.read in
    let w = c.in-Bad.wrong in
    let bad = bad_plan (before.held c.args.file.now) w read.0 in
    intends_wrong form before after w c.args.file.now c.wrong.result
    (last_first form c.args.file.now (before.held c.args.file.now) w refl bad) bad
    (read_first form c.args.file.now before after w refl bad read.1) c.wrong.ensures

pub returns-in-Unread-clause-intends : goal.returns-in-Unread-clause-intends
returns-in-Unread-clause-intends g c =
    let form = plan_form c.args.file.now in
    let before = g.S.Shelf.files c.args.shelf.now in
    let after = g.S.Shelf.files c.read_plan.new.shelf in
    let read = rw c.in-Unread.is at c.in_ok-recorded.ensures.read in
    intends_unread form before after 0 c.unread.result
    (unread_first form c.args.file.now before after (omega arith) refl tt read) c.unread.ensures

pub returns-in_err-recorded-clause-reads : goal.returns-in_err-recorded-clause-reads
returns-in_err-recorded-clause-reads g c =
    so_far_first (plan_form c.args.file.now) c.args.file.now (g.S.Shelf.files c.args.shelf.now)
    (g.S.Shelf.files c.read_plan.new.shelf) refl c.in_err-recorded.ensures.starved

pub returns-in-Good-clause-reads : goal.returns-in-Good-clause-reads
returns-in-Good-clause-reads g c =
    let read = rw c.in-Good.is at c.in_ok-recorded.ensures.read in inl (1, read.1)

pub returns-in-Bad-clause-reads : goal.returns-in-Bad-clause-reads
returns-in-Bad-clause-reads g c =
    let read = rw c.in-Bad.is at c.in_ok-recorded.ensures.read in inl (1, read.1)
