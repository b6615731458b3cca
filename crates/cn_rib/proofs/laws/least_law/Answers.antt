use Rattle.cn_rib.proofs.Keyed.{least_is_below, least_there}
use Rattle.cn_rib.proofs.laws.least_law.Goals as goal

pub returns : goal.returns
returns c s p is = (least_there s p is, λ q held other. least_is_below s p q is held other)
