use Rattle.std.proofs.Common.{Some, sym, ap, ◌∙◌}
use Rattle.cn_open.proofs.Names.{one_known, one_unknown}
use Rattle.cn_open.proofs.rows.device_of.Goals as goal

pub returns-in-Some-clause-unknown : goal.returns-in-Some-clause-unknown
returns-in-Some-clause-unknown c =
    one_known c.args.net.now c.args.name.now c.in-Some.device c.in-Some.ensures.0
    (c.in-Some.ensures.1 ∙ c.text.ensures)

pub returns-in_ok-copy-in-None-clause-unknown : goal.returns-in_ok-copy-in-None-clause-unknown
returns-in_ok-copy-in-None-clause-unknown c =
    one_unknown c.args.net.now c.args.name.now
    (λ d is e. c.in-None.ensures d is (e ∙ sym c.text.ensures))
    ∙ ap Some (sym c.in_ok-copy-in-None.ensures)
