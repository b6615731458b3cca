use Rattle.cn_net.proofs.SessionCount.{as_many_sessions}
use Rattle.cn_net.proofs.sessions.sessions_are_counted.Goals as goal

pub returns : goal.returns
returns c = as_many_sessions
