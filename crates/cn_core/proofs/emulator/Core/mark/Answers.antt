use Rattle.std.proofs.Common.{ap, ◌∙◌, ◌++◌, ◌∷◌, []}
use Rattle.cn_core.specs.declared.event.Step.TheVariants.{Mark}
use Rattle.cn_core.specs.Stored.{stands_for}
use Rattle.cn_core.proofs.Logged.{marked}
use Rattle.cn_core.proofs.emulator.Core.mark.Goals as goal

pub invariant_of-self-2 : goal.invariant_of-self-2
invariant_of-self-2 c = (
  marked c.self.inside.recorded.value c.self.inside.history.items c.push_reserved.new.self.items
      (stands_for c.self.inside.engine) c.args.k c.self.invariant.0
      (c.push_reserved.ensures.items ∙ ap (λ l. l ++ Mark c.args.k ∷ []) c.reserve.ensures.items),
  c.self.invariant.1,
)
