use Rattle.std.proofs.Common.{◌≡◌, ◌+◌}
use Rattle.cn_serial.proofs.Runs.{IsRunSoFar}
use Rattle.cn_serial.proofs.serial.answered.Given as goal

abbrev pub invariant-loop-command : goal.invariant-loop-command
invariant-loop-command l =
    IsRunSoFar l.fn.core.recorded l.command-items l.command-index l.core l.answers.items
    × (l.k ≡ l.command-index + 1)
