use Rattle.cn_net.proofs.ChangedInside.{body_keeps_ends, link_keeps_ends}
use Rattle.cn_net.proofs.alike.changes_keep_ends.Goals as goal

pub returns : goal.returns
returns c = λ net. record { link = link_keeps_ends net; body = body_keeps_ends net }
