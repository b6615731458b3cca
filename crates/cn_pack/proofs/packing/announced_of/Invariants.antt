use Rattle.std.proofs.Common.{◌≡◌, ◌++◌, drop}
use Rattle.cn_wire.specs.Sizes.{longest_prefix_within}
use Rattle.cn_pack.specs.Packing.{likewise}
use Rattle.cn_pack.proofs.packing.announced_of.Given as goal

abbrev pub invariant-loop-one : goal.invariant-loop-one
invariant-loop-one l =
    l.announced.items ++ longest_prefix_within l.left
    (likewise l.path l.origin (drop l.one-index l.owed))
    ≡ longest_prefix_within l.room (likewise l.path l.origin l.owed)
