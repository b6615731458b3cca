use Rattle.std.proofs.Common.{◌+◌, get_or, sym, refl, arith, subst}
use Rattle.std.proofs.lemmas.List.{get_or_default}
use Rattle.cn_change.specs.declared.command.Command.TheVariants.{Pull}
use Rattle.cn_serial.specs.Ran.{IsRan}
use Rattle.cn_serial.proofs.Runs.{IsRunSoFar, run_done, run_more, run_none}
use Rattle.cn_serial.proofs.serial.answered.Goals as goal

pub loop-command-init : goal.loop-command-init
loop-command-init c =
    let r = c.args.core.now.recorded in (
      subst (IsRunSoFar r c.items-command-items.result.now 0 c.args.core.now)
          (sym c.in_ok-answers.ensures.items)
          (run_none r c.items-command-items.result.now c.args.core.now
          (λ i. record { recorded = r; history = c.requires i })),
      refl,
    )

pub loop-command-preserved : goal.loop-command-preserved
loop-command-preserved c =
    let r = c.args.core.now.recorded in
    let commands = c.items-command-items.result.now in
    let i = c.loop-command.command-index in
    let command = get_or commands i Pull in (
      subst (IsRunSoFar r commands (c.loop-command.command-index + 1)
          c.after_command.new.core) (sym c.in_ok-push.ensures.items)
          (run_more r commands c.loop-command.command-index c.loop-command.k
          c.loop-command.core c.after_command.new.core c.loop-command.answers.items command
          c.in_ok-after_command.field-0 c.loop-command-test.true
          (get_or_default commands i Pull command c.loop-command-test.true)
          c.loop-command.invariant.1
          c.in_ok-after_command.ensures.after c.in_ok-after_command.ensures.answer
          c.loop-command.invariant.0),
      omega (arith, c.loop-command.invariant.1),
    )

pub returns : goal.returns
returns c =
    let r = c.args.core.now.recorded in
    let core = c.loop-command.core in
    let commands = c.items-command-items.result.now in
    subst (λ s. IsRan r s (record { core = core; answers = c.make.result }))
    c.items-command-items.ensures.same
    (subst (λ a. IsRan r commands (record { core = core; answers = a })) (sym c.make.ensures)
    (run_done r commands c.loop-command.command-index core c.loop-command.answers.items
    c.loop-command-test.false c.loop-command.invariant.0))
