use Rattle.cn_net.specs.Islands.{label_of, outside_of}
use Rattle.cn_given.proofs.opening.certificate.Goals as goal

pub certify-requires-clause-labelling : goal.certify-requires-clause-labelling
certify-requires-clause-labelling c =
    c.islands_are_a_labelling.ensures c.args.net (outside_of c.in_ok-emulated.emulated)
    (label_of c.in_ok-labels.labels)
    c.in_ok-labels.ensures.islands
