use Rattle.std.proofs.Common.{rules, append_assoc}
use Rattle.cn_text.proofs.print.address_text.Goals as goal

pub returns : goal.returns
returns c = search (rules, append_assoc)
