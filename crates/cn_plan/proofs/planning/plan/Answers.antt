use Rattle.std.proofs.Common.{MatchOption, Option, subst}
use Rattle.std.proofs.lemmas.Result.{IfErr-weaker, IfOk-weaker}
use Rattle.cn_net.specs.Limits.{IsWithinLimits, PassesLimit}
use Rattle.cn_net.specs.declared.limits.Excess.{Excess}
use Rattle.cn_plan.proofs.Steps.{answers_selected, plan_selected}
use Rattle.cn_plan.proofs.planning.plan.Goals as goal

pub returns-in-None-clause-ok : goal.returns-in-None-clause-ok
returns-in-None-clause-ok c =
    IfOk-weaker c.boundary.result _ _
    (λ plan h. plan_selected c.args.net c.args.selection c.args.saved c.in_ok-emulated.emulated
    c.in_ok-emulated.ensures.selected
    (subst (λ (o : Option Excess). MatchOption o
    (IsWithinLimits c.args.net c.in_ok-emulated.emulated)
    (λ p. PassesLimit c.args.net c.in_ok-emulated.emulated p.what p.count)) c.in-None.is
    c.in_ok-excess.ensures) plan.recorded h)
    c.boundary.ensures.ok

pub returns-in-None-clause-answer : goal.returns-in-None-clause-answer
returns-in-None-clause-answer c =
    IfErr-weaker c.boundary.result _ _
    (λ answer h. answers_selected c.args.net c.args.selection c.args.saved c.in_ok-emulated.emulated
    c.in_ok-emulated.ensures.selected
    (subst (λ (o : Option Excess). MatchOption o
    (IsWithinLimits c.args.net c.in_ok-emulated.emulated)
    (λ p. PassesLimit c.args.net c.in_ok-emulated.emulated p.what p.count)) c.in-None.is
    c.in_ok-excess.ensures) answer h)
    c.boundary.ensures.answer
