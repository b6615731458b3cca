use Rattle.std.proofs.Common.{inl, inr, refl, arith}
use Rattle.cn_top.specs.Form.{serial_form}
use Rattle.cn_top.specs.Deed.{deed_view}
use Rattle.cn_top.proofs.Intents.{bad_plan, bad_script, both_read, intends_run, intends_unread, intends_wrong, last_first, last_second, read_first, read_second, so_far_first, so_far_second, unread_first, unread_second}
use Rattle.cn_top.proofs.commands.serial_means.Goals as goal

-- ---- the plan

pub returns-in_err-recorded-clause-reads : goal.returns-in_err-recorded-clause-reads
returns-in_err-recorded-clause-reads g c =
    so_far_first (serial_form c.args.file.now c.args.script.now c.args.trace.now) c.args.file.now
    (g.S.Shelf.files c.args.shelf.now) (g.S.Shelf.files c.read_plan.new.shelf) refl
    c.in_err-recorded.ensures.starved

pub returns-in-Bad-clause-intends : goal.returns-in-Bad-clause-intends
returns-in-Bad-clause-intends g c =
    let form = serial_form c.args.file.now c.args.script.now c.args.trace.now in
    let before = g.S.Shelf.files c.args.shelf.now in
    let after = g.S.Shelf.files c.read_plan.new.shelf in
    let read = rw c.in-Bad.is at c.in_ok-recorded.ensures.read in
    let w = c.in-Bad.wrong in
    let bad = bad_plan (before.held c.args.file.now) w read.0 in
    intends_wrong form before after w c.args.file.now c.wrong.result
    (last_first form c.args.file.now (before.held c.args.file.now) w refl bad) (inl bad)
    (read_first form c.args.file.now before after w refl bad read.1) c.wrong.ensures

pub returns-in-Bad-clause-reads : goal.returns-in-Bad-clause-reads
returns-in-Bad-clause-reads g c =
    let read = rw c.in-Bad.is at c.in_ok-recorded.ensures.read in inl (1, read.1)

pub returns-in-Unread-clause-intends : goal.returns-in-Unread-clause-intends
returns-in-Unread-clause-intends g c =
    let form = serial_form c.args.file.now c.args.script.now c.args.trace.now in
    let before = g.S.Shelf.files c.args.shelf.now in
    let after = g.S.Shelf.files c.read_plan.new.shelf in
    let read = rw c.in-Unread.is at c.in_ok-recorded.ensures.read in
    intends_unread form before after 0 c.unread.result
    (unread_first form c.args.file.now before after (omega arith) refl tt read) c.unread.ensures

-- ---- the script

pub returns-in_err-commands-clause-reads : goal.returns-in_err-commands-clause-reads
returns-in_err-commands-clause-reads g c =
    let plan = rw c.in-Good.is at c.in_ok-recorded.ensures.read in
    so_far_second c.args.file.now c.args.script.now c.args.trace.now
    (g.S.Shelf.files c.args.shelf.now) (g.S.Shelf.files c.read_plan.new.shelf)
    (g.S.Shelf.files c.script_under.new.shelf) c.in-Good.recorded c.read_plan.ensures.keeps plan.0
    plan.1 c.in_err-commands.ensures.starved

pub returns-in_err-run-in-Good-2-clause-reads : goal.returns-in_err-run-in-Good-2-clause-reads
returns-in_err-run-in-Good-2-clause-reads g c =
    let plan = rw c.in-Good.is at c.in_ok-recorded.ensures.read in
    let read = rw c.in-Good-2.is at c.in_ok-commands.ensures.read in
    inl (
      2,
      both_read c.args.file.now c.args.script.now c.args.trace.now
          (g.S.Shelf.files c.args.shelf.now) (g.S.Shelf.files c.read_plan.new.shelf)
          (g.S.Shelf.files c.script_under.new.shelf)
          c.in-Good.recorded c.read_plan.ensures.keeps plan.0 plan.1 read.1,
    )

pub returns-in_ok-run-in-Good-2-clause-intends : goal.returns-in_ok-run-in-Good-2-clause-intends
returns-in_ok-run-in-Good-2-clause-intends g c =
    let plan = rw c.in-Good.is at c.in_ok-recorded.ensures.read in
    let read = rw c.in-Good-2.is at c.in_ok-commands.ensures.read in
    intends_run c.args.file.now c.args.script.now c.args.trace.now
    (g.S.Shelf.files c.args.shelf.now) (g.S.Shelf.files c.read_plan.new.shelf)
    (g.S.Shelf.files c.script_under.new.shelf) c.in-Good.recorded c.read_plan.ensures.keeps plan.0
    plan.1 c.in-Good-2.commands c.in_ok-run-in-Good-2.run' (deed_view c.run.result) read.0 read.1
    c.in_ok-run-in-Good-2.ensures c.run.ensures

pub returns-in_ok-run-in-Good-2-clause-reads : goal.returns-in_ok-run-in-Good-2-clause-reads
returns-in_ok-run-in-Good-2-clause-reads g c =
    let plan = rw c.in-Good.is at c.in_ok-recorded.ensures.read in
    let read = rw c.in-Good-2.is at c.in_ok-commands.ensures.read in
    inl (
      2,
      both_read c.args.file.now c.args.script.now c.args.trace.now
          (g.S.Shelf.files c.args.shelf.now) (g.S.Shelf.files c.read_plan.new.shelf)
          (g.S.Shelf.files c.script_under.new.shelf)
          c.in-Good.recorded c.read_plan.ensures.keeps plan.0 plan.1 read.1,
    )

pub returns-in-Bad-2-clause-intends : goal.returns-in-Bad-2-clause-intends
returns-in-Bad-2-clause-intends g c =
    let before = g.S.Shelf.files c.args.shelf.now in
    let mid = g.S.Shelf.files c.read_plan.new.shelf in
    let after = g.S.Shelf.files c.script_under.new.shelf in
    let plan = rw c.in-Good.is at c.in_ok-recorded.ensures.read in
    let read = rw c.in-Bad-2.is at c.in_ok-commands.ensures.read in
    let w = c.in-Bad-2.wrong in
    intends_wrong (serial_form c.args.file.now c.args.script.now c.args.trace.now) before after w
    c.args.script.now c.wrong-in-Bad-2.result
    (last_second c.args.file.now c.args.script.now c.args.trace.now before mid after
    c.in-Good.recorded c.read_plan.ensures.keeps plan.0 plan.1 w read.0)
    (bad_script c.args.file.now c.args.script.now c.args.trace.now before mid after
    c.in-Good.recorded c.read_plan.ensures.keeps plan.0 plan.1 w read.0)
    (read_second c.args.file.now c.args.script.now c.args.trace.now before mid after
    c.in-Good.recorded c.read_plan.ensures.keeps plan.0 plan.1 w read.0 read.1)
    c.wrong-in-Bad-2.ensures

pub returns-in-Bad-2-clause-reads : goal.returns-in-Bad-2-clause-reads
returns-in-Bad-2-clause-reads g c =
    let plan = rw c.in-Good.is at c.in_ok-recorded.ensures.read in
    let read = rw c.in-Bad-2.is at c.in_ok-commands.ensures.read in
    inl (
      2,
      both_read c.args.file.now c.args.script.now c.args.trace.now
          (g.S.Shelf.files c.args.shelf.now) (g.S.Shelf.files c.read_plan.new.shelf)
          (g.S.Shelf.files c.script_under.new.shelf)
          c.in-Good.recorded c.read_plan.ensures.keeps plan.0 plan.1 read.1,
    )

pub returns-in-Unread-2-clause-intends : goal.returns-in-Unread-2-clause-intends
returns-in-Unread-2-clause-intends g c =
    let before = g.S.Shelf.files c.args.shelf.now in
    let mid = g.S.Shelf.files c.read_plan.new.shelf in
    let after = g.S.Shelf.files c.script_under.new.shelf in
    let plan = rw c.in-Good.is at c.in_ok-recorded.ensures.read in
    let read = rw c.in-Unread-2.is at c.in_ok-commands.ensures.read in
    intends_unread (serial_form c.args.file.now c.args.script.now c.args.trace.now) before after 1
    c.unread-in-Unread-2.result
    (unread_second c.args.file.now c.args.script.now c.args.trace.now before mid after
    c.in-Good.recorded c.read_plan.ensures.keeps plan.0 plan.1 read)
    c.unread-in-Unread-2.ensures

pub returns-in-Unread-2-clause-reads : goal.returns-in-Unread-2-clause-reads
returns-in-Unread-2-clause-reads g c =
    let plan = rw c.in-Good.is at c.in_ok-recorded.ensures.read in
    let read = rw c.in-Unread-2.is at c.in_ok-commands.ensures.read in
    inr (
      1,
      unread_second c.args.file.now c.args.script.now c.args.trace.now
          (g.S.Shelf.files c.args.shelf.now) (g.S.Shelf.files c.read_plan.new.shelf)
          (g.S.Shelf.files c.script_under.new.shelf)
          c.in-Good.recorded c.read_plan.ensures.keeps plan.0 plan.1 read,
    )
