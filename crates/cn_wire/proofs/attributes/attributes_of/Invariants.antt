use Rattle.std.proofs.Common.{length}
use Rattle.cn_wire.specs.Reading.{attributes_at, nothing}
use Rattle.cn_wire.proofs.Loops.{Attributes}
use Rattle.cn_wire.proofs.attributes.attributes_of.Given as goal

abbrev pub invariant-loop-rest : goal.invariant-loop-rest
invariant-loop-rest l =
    Attributes l.end l.found l.rest (attributes_at (length l.bytes) l.end nothing l.bytes)

abbrev pub decreases-loop-rest : goal.decreases-loop-rest
decreases-loop-rest l = length l.rest
