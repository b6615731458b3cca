use Rattle.std.proofs.Common.{◌∙◌, ap}
use Rattle.cn_net.specs.Islands.{label_of, outside_of}
use Rattle.cn_cert.specs.Steps.{earlier_of}
use Rattle.cn_cert.proofs.Orders.{first_of_all}
use Rattle.cn_cert.proofs.first.first_named.Goals as goal

pub returns : goal.returns
returns c =
    let outside = outside_of c.args.emulated.now in
    let origins = c.in_ok-origins.origins in
    first_of_all c.args.net.now outside (label_of c.args.names.now)
    c.in_ok-emulated_side.emulated_side c.in_ok-outside_side.outside_side origins
    c.in_ok-emulated_side.ensures c.in_ok-outside_side.ensures (c.in_ok-origins.ensures outside)
    c.earlier_of-2.result
    (c.earlier_of-2.ensures ∙ ap (λ x. earlier_of x origins) c.earlier_of.ensures)
