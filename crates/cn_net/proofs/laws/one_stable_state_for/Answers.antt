use Rattle.cn_net.proofs.Apart.{distinct_ids}
use Rattle.cn_net.proofs.States.{has_one_state_for}
use Rattle.cn_net.proofs.laws.one_stable_state_for.Goals as goal

pub returns : goal.returns
returns c = λ net s p given valid. has_one_state_for net s p given (distinct_ids net valid)
