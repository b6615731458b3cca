use Rattle.std.proofs.Common.{subst}
use Rattle.cn_core.specs.Laws.{IsKept}
use Rattle.cn_core.specs.Log.{Log}
use Rattle.cn_core.specs.Machine.{state}
use Rattle.cn_core.specs.Stored.{stands_for}
use Rattle.cn_core.proofs.Logged.{kept_of}
use Rattle.cn_core.proofs.emulator.Core.net.Goals as goal

pub returns-clause-kept : goal.returns-clause-kept
returns-clause-kept c =
    subst (λ (l : Log). IsKept l.recorded (state l.recorded l.history)) c.self.view_is
    (subst (IsKept c.self.inside.recorded.value) c.self.invariant.0.tables
    (kept_of c.self.inside.recorded.value c.self.inside.history.items
    (stands_for c.self.inside.engine) c.self.invariant.0))
