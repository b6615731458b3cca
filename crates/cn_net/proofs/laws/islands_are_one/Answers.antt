use Rattle.cn_net.proofs.Agreeing.{islands_agree}
use Rattle.cn_net.proofs.laws.islands_are_one.Goals as goal

pub returns : goal.returns
returns c = islands_agree
