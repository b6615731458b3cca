use Rattle.cn_net.proofs.ChangedInside.{body_inside, link_inside}
use Rattle.cn_net.proofs.alike.changes_stay_inside.Goals as goal

pub returns : goal.returns
returns c = λ net outside. record {
  link = link_inside net outside;
  body = body_inside net outside;
}
