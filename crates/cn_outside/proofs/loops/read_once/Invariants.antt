use Rattle.std.specs.Io.KnownBytes.{Keeps}
use Rattle.cn_outside.proofs.loops.read_once.Given as goal

-- no call so far has read
abbrev pub invariant-loop : goal.invariant-loop
invariant-loop g l = Keeps (g.R.Read.remaining l.fn.file) (g.R.Read.remaining l.file)
