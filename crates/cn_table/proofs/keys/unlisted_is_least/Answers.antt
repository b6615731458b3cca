use Rattle.cn_table.proofs.KeyOrder.{least}
use Rattle.cn_table.proofs.keys.unlisted_is_least.Goals as goal

pub returns : goal.returns
returns c = λ listed ms k h e. least listed ms k h e
