use Rattle.cn_net.specs.Islands.{outside_of}
use Rattle.cn_island.specs.Found.{IsFound, IsSpread}
use Rattle.cn_island.proofs.Spreading.{IsSeen}
use Rattle.cn_island.proofs.labelling.label_neighbours.Given as goal

abbrev pub invariant-loop-n : goal.invariant-loop-n
invariant-loop-n l = IsFound l.labels l.found.items
    × IsSpread (IsSeen (outside_of l.emulated) l.n-items l.n-index) l.fn.island l.fn.labels
    l.labels l.fn.found.items l.found.items
