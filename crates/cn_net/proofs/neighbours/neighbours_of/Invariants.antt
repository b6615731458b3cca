use Rattle.cn_net.proofs.Seen.{IsSeen}
use Rattle.cn_net.proofs.neighbours.neighbours_of.Given as goal

abbrev pub invariant-loop-place : goal.invariant-loop-place
invariant-loop-place l = IsSeen l.links l.place l.seen.items
