use Rattle.std.proofs.Common.{◌≤◌}
use Rattle.cn_serial.proofs.Runs.{HasFirst}
use Rattle.cn_serial.proofs.serial.work.Given as goal

abbrev pub invariant-loop-done : goal.invariant-loop-done
invariant-loop-done l = HasFirst l.fn.core l.done l.core × (l.done ≤ l.count)
