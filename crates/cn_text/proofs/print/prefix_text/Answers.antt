use Rattle.std.proofs.Common.{append_assoc, rules, sym}
use Rattle.cn_text.proofs.print.prefix_text.Goals as goal

pub returns : goal.returns
returns c = rw (sym c.bits-n.ensures.value, sym c.len-len.ensures.value)
    (search (rules, append_assoc))
