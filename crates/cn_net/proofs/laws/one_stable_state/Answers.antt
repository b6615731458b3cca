use Rattle.cn_net.proofs.Apart.{distinct_ids}
use Rattle.cn_net.proofs.States.{has_one_state}
use Rattle.cn_net.proofs.laws.one_stable_state.Goals as goal

pub returns : goal.returns
returns c = λ net valid. has_one_state net (distinct_ids net valid)
