use Rattle.std.proofs.lemmas.Result.{IfErr-weaker, IfOk-weaker}
use Rattle.cn_net.specs.Islands.{label_of, outside_of}
use Rattle.cn_net.proofs.Chains.{islands_labelling}
use Rattle.cn_plan.proofs.Steps.{answers_opening, answers_refused, plan_opening}
use Rattle.cn_plan.proofs.planning.boundary.Goals as goal

pub certify-requires-clause-labelling : goal.certify-requires-clause-labelling
certify-requires-clause-labelling c =
    islands_labelling c.args.net (outside_of c.args.emulated) (label_of c.in_ok-labels.labels)
    c.in_ok-labels.ensures.islands

pub returns-in-Ok-clause-ok : goal.returns-in-Ok-clause-ok
returns-in-Ok-clause-ok c =
    IfOk-weaker c.recorded.result _ _
    (λ plan h. plan_opening c.args.net c.args.emulated c.args.saved c.in_ok-labels.labels
    c.in-Ok.certified c.in_ok-labels.ensures.islands c.in-Ok.ensures.ok c.valid.ensures
    c.in_ok-labels.ensures.size plan.recorded h.0 h.1)
    c.recorded.ensures.ok

pub returns-in-Ok-clause-answer : goal.returns-in-Ok-clause-answer
returns-in-Ok-clause-answer c =
    IfErr-weaker c.recorded.result _ _
    (λ answer h. answers_opening c.args.net c.args.emulated c.args.saved c.in_ok-labels.labels
    c.in-Ok.certified c.in_ok-labels.ensures.islands c.in-Ok.ensures.ok c.valid.ensures answer h)
    c.recorded.ensures.answer

pub returns-in-Err-clause-answer : goal.returns-in-Err-clause-answer
returns-in-Err-clause-answer c =
    answers_refused c.args.net c.args.emulated c.args.saved c.in_ok-labels.labels
    c.in-Err.refused.net c.in-Err.refused.why c.uncertified.result c.in_ok-labels.ensures.islands
    c.in-Err.ensures.net c.in-Err.ensures.refused c.uncertified.ensures
