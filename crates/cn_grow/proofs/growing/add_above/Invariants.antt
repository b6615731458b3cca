use Rattle.cn_grow.specs.Members.{IsExtended, IsMarked}
use Rattle.cn_grow.proofs.Growth.{IsSeenAbove}
use Rattle.cn_grow.proofs.growing.add_above.Given as goal

abbrev pub invariant-loop-n : goal.invariant-loop-n
invariant-loop-n l = IsMarked l.marks l.members.items
    × IsExtended (IsSeenAbove l.net l.fn.d l.n-items l.n-index) l.fn.members.items l.members.items
