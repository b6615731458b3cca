use Rattle.std.proofs.Common.{◌≡◌, ◌+◌, get_or, sym, ap, ◌∙◌, refl, arith, subst}
use Rattle.std.proofs.lemmas.List.{get_or_default}
use Rattle.cn_change.specs.declared.command.Command.TheVariants.{Pull}
use Rattle.cn_core.specs.Log.{Log}
use Rattle.cn_net.specs.Network.{Network}
use Rattle.cn_net.specs.Opening.{Opening}
use Rattle.cn_record.specs.Recorded.{RecordedOpening}
use Rattle.cn_report.specs.Answers.{answer_text}
use Rattle.cn_trace.specs.Trace.{trace_text}
use Rattle.cn_top.specs.Serial.{IsRunOf}
use Rattle.cn_top.proofs.Told.{IsToldSoFar, told_done, told_more, told_none}
use Rattle.cn_top.proofs.serial.run_on.Goals as goal

pub loop-command-init : goal.loop-command-init
loop-command-init c =
    let r = c.args.core.now.recorded in (
      subst (IsToldSoFar r c.items-command-items.result.now 0 c.args.core.now)
          (sym c.in_ok-texts.ensures.items)
          (told_none r c.items-command-items.result.now c.args.core.now
          (λ i. record { recorded = r; history = c.requires i })),
      refl,
    )

pub loop-command-preserved : goal.loop-command-preserved
loop-command-preserved c =
    let r = c.args.core.now.recorded in
    let commands = c.items-command-items.result.now in
    let i = c.loop-command.command-index in
    let command = get_or commands i Pull in
    let so = c.loop-command.invariant.0 in
    let next = c.after_command.new.core in
    let kept : next.recorded ≡ r =
    ap (λ (l : Log). l.recorded) c.in_ok-answer.ensures.after.grown ∙ so.run.recorded in
    let net : c.net.result.now ≡ r.opening.net =
    c.net.ensures.net ∙ ap (λ (o : Opening). o.net) c.net.ensures.kept.now
    ∙ ap (λ (x : RecordedOpening). x.opening.net) kept in
    let text =
    c.make.ensures ∙ c.in_ok-text.ensures
    ∙ ap (λ (n : Network). answer_text n c.loop-command.k command c.in_ok-answer.answer) net in (
      subst (IsToldSoFar r commands (c.loop-command.command-index + 1) next)
          (sym c.in_ok-push.ensures.items)
          (told_more r commands i c.loop-command.k c.loop-command.core next
          c.loop-command.texts.items command c.in_ok-answer.answer c.make.result
          c.loop-command-test.true (get_or_default commands i Pull command c.loop-command-test.true)
          c.loop-command.invariant.1 c.in_ok-answer.ensures.after c.in_ok-answer.ensures.answer
          text so),
      omega (arith, c.loop-command.invariant.1),
    )

pub returns : goal.returns
returns c =
    let r = c.args.core.now.recorded in
    let commands = c.items-command-items.result.now in
    let core = c.loop-command.core in
    let so = c.loop-command.invariant.0 in
    let net : c.net-2.result.now ≡ r.opening.net =
    c.net-2.ensures.net ∙ ap (λ (o : Opening). o.net) c.net-2.ensures.kept.now
    ∙ ap (λ (x : RecordedOpening). x.opening.net) so.run.recorded in
    let traced =
    c.make-2.ensures ∙ c.in_ok-trace.ensures
    ∙ ap (trace_text c.net-2.result.now) c.history.ensures.same in
    subst (λ s. IsRunOf r s (record { trace = c.make-2.result; texts = c.make-3.result }))
    c.items-command-items.ensures.same
    (told_done r commands c.loop-command.command-index core c.loop-command.texts.items
    c.net-2.result.now _ c.loop-command-test.false so net traced c.make-3.ensures)
