use Rattle.std.proofs.Common.{ap, ◌∙◌}
use Rattle.cn_core.specs.Log.{Log}
use Rattle.cn_core.specs.Machine.{state}
use Rattle.cn_core.specs.Order.{standing}
use Rattle.cn_core.proofs.emulator.Core.standing.Goals as goal

pub returns : goal.returns
returns c =
    c.standing.ensures ∙ ap standing c.self.invariant.0.tables
    ∙ ap (λ (l : Log). standing (state l.recorded l.history)) c.self.view_is
