use Rattle.cn_record.specs.Repeats.{HasNoTieBelow}
use Rattle.cn_record.proofs.saved.first_repeat.Given as goal

abbrev pub invariant-loop-place : goal.invariant-loop-place
invariant-loop-place l = HasNoTieBelow l.rows l.place
