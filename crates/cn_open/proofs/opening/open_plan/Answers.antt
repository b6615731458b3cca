use Rattle.std.proofs.lemmas.Result.{IfErr-weaker, IfOk-weaker}
use Rattle.cn_open.proofs.Openings.{named_answered, named_opens}
use Rattle.cn_open.proofs.opening.open_plan.Goals as goal

pub returns-clause-opens : goal.returns-clause-opens
returns-clause-opens c =
    IfOk-weaker c.opened.result _ _
    (λ r h. named_opens c.args.bytes.now c.in-Ok.named c.in-Ok.ensures.named r h.0 h.1)
    c.opened.ensures.plan

pub returns-clause-fault : goal.returns-clause-fault
returns-clause-fault c =
    IfErr-weaker c.opened.result _ _
    (λ answer h. named_answered c.args.bytes.now c.in-Ok.named c.in-Ok.ensures.named h.0 answer h.1
    h.2)
    c.opened.ensures.answer
