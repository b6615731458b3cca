use Rattle.std.proofs.Common.{◌≡◌, ◌++◌, drop}
use Rattle.cn_wire.specs.Sizes.{longest_prefix_within}
use Rattle.cn_pack.specs.Packing.{withdrawals}
use Rattle.cn_pack.proofs.packing.withdrawn_of.Given as goal

abbrev pub invariant-loop-one : goal.invariant-loop-one
invariant-loop-one l =
    l.withdrawn.items ++ longest_prefix_within l.room (withdrawals (drop l.one-index l.owed))
    ≡ longest_prefix_within 4073 (withdrawals l.owed)
