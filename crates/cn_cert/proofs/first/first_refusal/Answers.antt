use Rattle.std.proofs.lemmas.Result.{IfOk-weaker}
use Rattle.cn_net.specs.Islands.{label_of, outside_of}
use Rattle.cn_cert.proofs.Classes.{found_by_name}
use Rattle.cn_cert.proofs.first.first_refusal.Goals as goal

pub returns : goal.returns
returns c =
    IfOk-weaker c.first_named.result _ _
    (found_by_name c.args.net.now (outside_of c.args.emulated.now) (label_of c.in_ok-names.names)
    (label_of c.args.labels.now) c.in_ok-names.ensures.same c.in_ok-names.ensures.least)
    c.first_named.ensures
