use Rattle.cn_net.proofs.Drafts.{same_network}
use Rattle.cn_net.proofs.laws.draft_is_of_one_network.Goals as goal

pub returns : goal.returns
returns c = same_network
