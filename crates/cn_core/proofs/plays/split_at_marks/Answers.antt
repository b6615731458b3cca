use Rattle.cn_core.proofs.Play.{split_holds}
use Rattle.cn_core.proofs.plays.split_at_marks.Goals as goal

pub returns : goal.returns
returns c = split_holds
