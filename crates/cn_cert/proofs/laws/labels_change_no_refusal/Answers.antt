use Rattle.cn_net.proofs.Agreeing.{same_islands_back}
use Rattle.cn_cert.proofs.Classes.{first_too}
use Rattle.cn_cert.proofs.laws.labels_change_no_refusal.Goals as goal

pub returns : goal.returns
returns c =
    λ net outside x y r same. (
      first_too net outside y x (same_islands_back net x y same) r,
      first_too net outside x y same r,
    )
