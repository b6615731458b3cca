use Rattle.cn_table.proofs.KeyOrder.{ascend_from}
use Rattle.cn_table.proofs.keys.keys_ascend.Goals as goal

pub returns : goal.returns
returns c = ascend_from c.args.table.now.entries c.len.ensures.ordered
