use Rattle.cn_cert.proofs.Orders.{certified_is_refused_nowhere}
use Rattle.cn_cert.proofs.laws.refused_is_not_certified.Goals as goal

pub returns : goal.returns
returns c =
    λ net outside label r h certified.
    certified_is_refused_nowhere net outside label r h.refusal certified
