use Rattle.cn_net.proofs.Boundary.{refused_by_emulated}
use Rattle.cn_net.proofs.laws.no_foreign_offer.Goals as goal

pub returns : goal.returns
returns c =
    λ net outside label state b.
    refused_by_emulated net outside label b.labelling b.certified state b.stable
