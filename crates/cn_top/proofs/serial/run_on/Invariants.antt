use Rattle.std.proofs.Common.{◌≡◌, ◌+◌}
use Rattle.cn_top.proofs.Told.{IsToldSoFar}
use Rattle.cn_top.proofs.serial.run_on.Given as goal

abbrev pub invariant-loop-command : goal.invariant-loop-command
invariant-loop-command l =
    IsToldSoFar l.fn.core.recorded l.command-items l.command-index l.core l.texts.items
    × (l.k ≡ l.command-index + 1)
