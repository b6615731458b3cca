use Rattle.cn_net.proofs.Apart.{distinct_ids}
use Rattle.cn_net.proofs.States.{rounds_come_together}
use Rattle.cn_net.proofs.laws.rounds_agree.Goals as goal

pub returns : goal.returns
returns c = λ net s p x y valid. rounds_come_together net s p x y (distinct_ids net valid)
