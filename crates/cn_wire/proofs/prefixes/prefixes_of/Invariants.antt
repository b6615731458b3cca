use Rattle.std.proofs.Common.{length}
use Rattle.cn_wire.specs.Reading.{prefixes_at}
use Rattle.cn_wire.proofs.Loops.{Rest}
use Rattle.cn_wire.proofs.prefixes.prefixes_of.Given as goal

abbrev pub invariant-loop-rest : goal.invariant-loop-rest
invariant-loop-rest l =
    Rest l.end l.prefixes.items l.rest (prefixes_at (length l.bytes) l.end l.bytes)

abbrev pub decreases-loop-rest : goal.decreases-loop-rest
decreases-loop-rest l = length l.rest
