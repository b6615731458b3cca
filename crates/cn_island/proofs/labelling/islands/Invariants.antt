use Rattle.std.proofs.Common.{length}
use Rattle.cn_net.specs.Islands.{outside_of}
use Rattle.cn_island.specs.Found.{IsSearched}
use Rattle.cn_island.proofs.labelling.islands.Given as goal

abbrev pub invariant-loop-i : goal.invariant-loop-i
invariant-loop-i l = IsSearched l.net (outside_of l.emulated) l.labels.items l.found.items
    (length l.found.items) l.i
