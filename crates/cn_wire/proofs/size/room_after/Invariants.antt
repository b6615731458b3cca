use Rattle.std.proofs.Common.{◌≡◌, drop}
use Rattle.cn_wire.specs.Sizes.{room_after}
use Rattle.cn_wire.proofs.size.room_after.Given as goal

abbrev pub invariant-loop-prefix : goal.invariant-loop-prefix
invariant-loop-prefix l =
    room_after l.left (drop l.prefix-index l.prefixes) ≡ room_after l.room l.prefixes
