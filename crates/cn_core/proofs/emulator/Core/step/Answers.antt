use Rattle.std.proofs.Common.{sym, ap, ◌∙◌, ◌++◌, ◌∷◌, []}
use Rattle.cn_core.specs.declared.event.Step.TheVariants.{Work}
use Rattle.cn_core.specs.Stored.{stands_for}
use Rattle.cn_core.proofs.Logged.{from_no_err, worked}
use Rattle.cn_core.proofs.emulator.Core.step.Goals as goal

pub invariant_of-self-2 : goal.invariant_of-self-2
invariant_of-self-2 c = (
  worked c.self.inside.recorded.value c.self.inside.history.items c.push_reserved.new.self.items
      (stands_for c.self.inside.engine) (stands_for c.apply.new.self) c.args.event
      c.self.invariant.0
      (sym c.can.ensures ∙ c.if-not-can.false)
      (from_no_err c.apply.result (sym c.is_err-2.ensures.value ∙ c.if-is_err-2.false)
      c.apply.ensures.ok)
      (c.push_reserved.ensures.items
      ∙ ap (λ l. l ++ Work c.args.event ∷ []) c.reserve.ensures.items),
  c.self.invariant.1,
)
