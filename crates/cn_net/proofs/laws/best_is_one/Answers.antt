use Rattle.cn_net.proofs.Apart.{distinct_ids}
use Rattle.cn_net.proofs.Ranks.{best_is_best_of}
use Rattle.cn_net.proofs.laws.best_is_one.Goals as goal

pub returns : goal.returns
returns c = λ net came b p o valid. best_is_best_of net came b p o (distinct_ids net valid)
