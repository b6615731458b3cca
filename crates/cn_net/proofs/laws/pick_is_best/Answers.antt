use Rattle.cn_net.proofs.Picks.{pick_is_best}
use Rattle.cn_net.proofs.laws.pick_is_best.Goals as goal

pub returns : goal.returns
returns c = pick_is_best
