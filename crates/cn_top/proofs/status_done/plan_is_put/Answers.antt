use Rattle.cn_top.proofs.Statuses.{plan_only}
use Rattle.cn_top.proofs.status_done.plan_is_put.Goals as goal

pub returns : goal.returns
returns c = plan_only
