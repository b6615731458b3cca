use Rattle.cn_net.proofs.Agreeing.{certificate_agrees, same_islands}
use Rattle.cn_net.proofs.laws.certified_alike.Goals as goal

pub returns : goal.returns
returns c = λ net outside x y agree. certificate_agrees net x y (same_islands net x y agree) outside
