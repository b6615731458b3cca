use Rattle.std.proofs.Common.{◌≡◌, None, length}
use Rattle.cn_record.specs.Rounds.{AreAll}
use Rattle.cn_record.proofs.soundness.nothing.Given as goal

abbrev pub invariant-loop : goal.invariant-loop
invariant-loop l =
    record { size : length l.table.items ≡ l.counter; empty : AreAll None l.table.items }
