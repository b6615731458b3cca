use Rattle.std.proofs.Common.{◌∙◌, ap, rules}
use Rattle.std.specs.List.{filter}
use Rattle.cn_core.proofs.Rowing.{rows_ascend, tie_is}
use Rattle.cn_core.proofs.start.rows_of.Goals as goal

pub returns : goal.returns
returns c =
    let d = c.args.device in
    c.part_at.ensures (λ r. r.device) (λ r k e. search rules)
    (rows_ascend c.args.rows.now c.requires)
    ∙ ap (λ p. filter p c.args.rows.now) (λ i r. tie_is r d i)
