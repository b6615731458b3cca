use Rattle.cn_top.proofs.Statuses.{not_built_only}
use Rattle.cn_top.proofs.status_unbuilt.unbuilt_is_told.Goals as goal

pub returns : goal.returns
returns c = not_built_only
