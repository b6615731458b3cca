use Rattle.std.proofs.Common.{◌-◌, length}
use Rattle.cn_grow.proofs.Growth.{IsSearched}
use Rattle.cn_grow.proofs.growing.grow.Given as goal

abbrev pub invariant-loop-next : goal.invariant-loop-next
invariant-loop-next l = IsSearched l.net l.must l.members.items l.marks.items l.next

abbrev pub decreases-loop-next : goal.decreases-loop-next
decreases-loop-next l = length l.net.devices - l.next
