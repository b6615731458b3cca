use Rattle.cn_net.proofs.Alone.{restricted_valid}
use Rattle.cn_net.proofs.laws.restricted_is_valid.Goals as goal

pub returns : goal.returns
returns c = restricted_valid
