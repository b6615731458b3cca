use Rattle.cn_net.proofs.Offering.{offer-gives, offer-longer}
use Rattle.cn_net.proofs.laws.offers_are_longer.Goals as goal

pub returns : goal.returns
returns c = λ net a b r x e. offer-longer net a b r x (offer-gives net a b r x e)
