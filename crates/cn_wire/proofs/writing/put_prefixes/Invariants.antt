use Rattle.std.proofs.Common.{◌≡◌, ◌++◌, take}
use Rattle.cn_wire.specs.Writing.{ArePrefixes, spelled_prefixes}
use Rattle.cn_wire.proofs.writing.put_prefixes.Given as goal

abbrev pub invariant-loop-prefix : goal.invariant-loop-prefix
invariant-loop-prefix l =
    (l.out.items ≡ l.fn.out.items ++ spelled_prefixes (take l.prefix-index l.prefixes))
    × ArePrefixes (take l.prefix-index l.prefixes)
