use Rattle.std.proofs.Common.{arith}
use Rattle.cn_rib.proofs.Levels.{first_below}
use Rattle.cn_rib.proofs.bits.lowest.Goals as goal

pub returns : goal.returns
returns c xs above first = first_below _ xs _ above (omega arith) first
