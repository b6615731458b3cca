use Rattle.std.proofs.Common.{ap, ◌∙◌, subst}
use Rattle.cn_core.specs.Laws.{IsCarried}
use Rattle.cn_core.specs.Log.{now}
use Rattle.cn_core.specs.Stored.{stands_for}
use Rattle.cn_core.proofs.Logged.{carried_of}
use Rattle.cn_core.proofs.emulator.Core.history.Goals as goal

pub returns-clause-carried : goal.returns-clause-carried
returns-clause-carried c =
    subst IsCarried (c.self.invariant.0.tables ∙ ap now c.self.view_is)
    (carried_of c.self.inside.recorded.value c.self.inside.history.items
    (stands_for c.self.inside.engine) c.self.invariant.0)
