use Rattle.cn_net.proofs.Offering.{offer-gives}
use Rattle.cn_net.proofs.laws.offers_begin_with_the_sender.Goals as goal

pub returns : goal.returns
returns c = offer-gives
