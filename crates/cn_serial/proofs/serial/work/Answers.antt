use Rattle.std.proofs.Common.{sym, ◌∙◌, subst, inl, inr, arith}
use Rattle.cn_core.specs.declared.emulator.StepAnswer.{StepAnswer}
use Rattle.cn_core.specs.Log.{IsRefusal, now}
use Rattle.cn_core.proofs.First.{first_enabled}
use Rattle.cn_serial.proofs.Runs.{first_done, first_more}
use Rattle.cn_serial.proofs.serial.work.Goals as goal

pub unreachable-requires : goal.unreachable-requires
unreachable-requires c =
    let l = c.loop-done.core in
    subst (λ (a : StepAnswer). IsRefusal l c.in-Some.event a) c.in-Err-NotEnabled.field-0-is
    c.in-Err-NotEnabled.ensures.refused
    (first_enabled l.recorded (now l) c.in-Some.event c.first.ensures.kept
    (sym c.first.ensures.event ∙ c.in-Some.is))

pub loop-done-preserved : goal.loop-done-preserved
loop-done-preserved c =
    let l = c.loop-done.core in (
      first_more c.args.core.now l c.step.new.self c.loop-done.done c.in-Some.event
          c.loop-done.invariant.0 (sym c.first.ensures.event ∙ c.in-Some.is) c.in-Ok.ensures.ok,
      omega (arith, c.loop-done-test.true),
    )

pub returns-in-None : goal.returns-in-None
returns-in-None c =
    first_done c.args.core.now c.loop-done.core c.loop-done.done c.args.count
    c.loop-done.invariant.0 c.loop-done.invariant.1
    (inr (sym c.first.ensures.event ∙ c.in-None.is))

pub returns : goal.returns
returns c =
    first_done c.args.core.now c.loop-done.core c.loop-done.done c.args.count
    c.loop-done.invariant.0 c.loop-done.invariant.1
    (inl (omega (arith, c.loop-done.invariant.1, c.loop-done-test.false)))
