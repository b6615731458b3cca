use Rattle.std.specs.Io.KnownBytes.{Keeps}
use Rattle.cn_outside.proofs.loops.write_once.Given as goal

-- no call so far has written
abbrev pub invariant-loop : goal.invariant-loop
invariant-loop g l = Keeps (g.W.Write.contents l.fn.to) (g.W.Write.contents l.to)
