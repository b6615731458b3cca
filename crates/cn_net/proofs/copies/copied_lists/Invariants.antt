use Rattle.std.proofs.Common.{◌≡◌, take}
use Rattle.cn_net.proofs.copies.copied_lists.Given as goal

abbrev pub invariant-loop-list : goal.invariant-loop-list
invariant-loop-list l = l.copied.items ≡ take l.list-index l.lists
