use Rattle.std.proofs.Common.{sym, ap, ◌∙◌, subst}
use Rattle.cn_core.specs.Laws.{IsKept}
use Rattle.cn_core.specs.Log.{Log}
use Rattle.cn_core.specs.Machine.{state}
use Rattle.cn_core.specs.Order.{first_event}
use Rattle.cn_core.specs.Stored.{stands_for}
use Rattle.cn_core.proofs.First.{first_none}
use Rattle.cn_core.proofs.Logged.{kept_of}
use Rattle.cn_core.proofs.emulator.Core.first.Goals as goal

pub returns-clause-event : goal.returns-clause-event
returns-clause-event c =
    c.first.ensures ∙ ap first_event c.self.invariant.0.tables
    ∙ ap (λ (l : Log). first_event (state l.recorded l.history)) c.self.view_is

pub returns-clause-kept : goal.returns-clause-kept
returns-clause-kept c =
    subst (λ (l : Log). IsKept l.recorded (state l.recorded l.history)) c.self.view_is
    (subst (IsKept c.self.inside.recorded.value) c.self.invariant.0.tables
    (kept_of c.self.inside.recorded.value c.self.inside.history.items
    (stands_for c.self.inside.engine) c.self.invariant.0))

pub returns-clause-none : goal.returns-clause-none
returns-clause-none c =
    let here = returns-clause-event c in
    let kept = returns-clause-kept c in
    let log = c.args.self.now in
    let quiet = first_none log.recorded (state log.recorded log.history) kept in (
      λ none. quiet.0 (sym here ∙ none),
      λ q. here ∙ quiet.1 q,
    )
