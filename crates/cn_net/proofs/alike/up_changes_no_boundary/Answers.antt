use Rattle.cn_net.proofs.SameEnds.{boundaries_alike}
use Rattle.cn_net.proofs.alike.up_changes_no_boundary.Goals as goal

pub returns : goal.returns
returns c = boundaries_alike
