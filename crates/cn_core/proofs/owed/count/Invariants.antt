use Rattle.cn_core.proofs.Counting.{AreCountedFrom}
use Rattle.cn_core.proofs.owed.count.Given as goal

abbrev pub invariant-loop-at : goal.invariant-loop-at
invariant-loop-at l = AreCountedFrom l.start l.end l.at l.lists l.fn.tally l.tally
