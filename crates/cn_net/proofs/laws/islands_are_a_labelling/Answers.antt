use Rattle.cn_net.proofs.Chains.{islands_labelling}
use Rattle.cn_net.proofs.laws.islands_are_a_labelling.Goals as goal

pub returns : goal.returns
returns c = islands_labelling
