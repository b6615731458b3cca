use Rattle.std.proofs.Common.{◌∙◌, option_and_then}
use Rattle.std.specs.BTreeMap.{get}
use Rattle.cn_net.specs.Islands.{label_of}
use Rattle.cn_cert.specs.Steps.{id_cmp}
use Rattle.cn_cert.proofs.Named.{label_made, names_least, names_same}
use Rattle.cn_cert.proofs.islands.named.Goals as goal

pub returns-clause-same : goal.returns-clause-same
returns-clause-same c =
    let label = label_of c.args.labels.now in
    let f = get id_cmp c.in_ok-least.least in
    names_same c.args.net.now label (label_of c.make.result) f c.in_ok-least.ensures
    (label_made c.args.net.now (λ d. option_and_then f (label d)) c.make.result
    (c.make.ensures ∙ c.in_ok-names.ensures))

pub returns-clause-least : goal.returns-clause-least
returns-clause-least c =
    let label = label_of c.args.labels.now in
    let f = get id_cmp c.in_ok-least.least in
    names_least c.args.net.now label (label_of c.make.result) f c.in_ok-least.ensures
    (label_made c.args.net.now (λ d. option_and_then f (label d)) c.make.result
    (c.make.ensures ∙ c.in_ok-names.ensures))
