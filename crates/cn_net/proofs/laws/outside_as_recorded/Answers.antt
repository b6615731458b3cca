use Rattle.cn_net.proofs.Apart.{distinct_ids}
use Rattle.cn_net.proofs.Boundary.{held_as_recorded}
use Rattle.cn_net.proofs.laws.outside_as_recorded.Goals as goal

pub returns : goal.returns
returns c =
    λ net outside label said state b. held_as_recorded net outside label said state
    (distinct_ids net b.valid) b.labelling b.certified b.stable
