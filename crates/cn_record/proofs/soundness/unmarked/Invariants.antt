use Rattle.std.proofs.Common.{◌≡◌, false, length}
use Rattle.cn_record.specs.Rounds.{AreAll}
use Rattle.cn_record.proofs.soundness.unmarked.Given as goal

abbrev pub invariant-loop : goal.invariant-loop
invariant-loop l =
    record { size : length l.marks.items ≡ l.counter; empty : AreAll false l.marks.items }
