use Rattle.cn_net.proofs.Candidates.{best_of_is_best}
use Rattle.cn_net.proofs.laws.best_is_best.Goals as goal

pub returns : goal.returns
returns c = best_of_is_best
