use Rattle.cn_core.proofs.Counted.{AreDirtyCounted}
use Rattle.cn_core.proofs.start.counted_ribs.Given as goal

abbrev pub invariant-loop-at : goal.invariant-loop-at
invariant-loop-at l = AreDirtyCounted l.ribs l.at l.tally
