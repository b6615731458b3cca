use Rattle.cn_net.proofs.SameEnds.{sessions_same}
use Rattle.cn_net.proofs.alike.ends_make_sessions.Goals as goal

pub returns : goal.returns
returns c = sessions_same
