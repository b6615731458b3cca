use Rattle.cn_net.proofs.Offering.{accept-new}
use Rattle.cn_net.proofs.laws.accepted_paths_are_new.Goals as goal

pub returns : goal.returns
returns c = accept-new
