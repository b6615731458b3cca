use Rattle.cn_top.proofs.Statuses.{run_only}
use Rattle.cn_top.proofs.status_done.script_is_run.Goals as goal

pub returns : goal.returns
returns c = run_only
