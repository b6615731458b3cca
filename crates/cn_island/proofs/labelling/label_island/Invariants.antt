use Rattle.std.proofs.Common.{◌+◌, ◌-◌, length}
use Rattle.cn_net.specs.Islands.{outside_of}
use Rattle.cn_island.specs.Found.{IsSearched}
use Rattle.cn_island.proofs.Search.{IsPending}
use Rattle.cn_island.proofs.labelling.label_island.Given as goal

abbrev pub invariant-loop-next : goal.invariant-loop-next
invariant-loop-next l = IsSearched l.net (outside_of l.emulated) l.labels l.found.items l.next
    (l.root.0 + 1) × IsPending l.labels l.found.items l.next l.root

abbrev pub decreases-loop-next : goal.decreases-loop-next
decreases-loop-next l = length l.net.devices - l.next
