use Rattle.cn_net.proofs.Agreeing.{certificate_agrees, same_islands_back}
use Rattle.cn_net.proofs.alike.labels_change_no_certificate.Goals as goal

pub returns : goal.returns
returns c =
    λ net outside x y same. (
      certificate_agrees net x y same outside,
      certificate_agrees net y x (same_islands_back net x y same) outside,
    )
