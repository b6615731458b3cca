use Rattle.std.proofs.Common.{◌-◌}
use Rattle.cn_core.proofs.FirstHeld.{AreRibsSoFar}
use Rattle.cn_core.proofs.Numbers.{ids}
use Rattle.cn_core.proofs.start.ribs.Given as goal

abbrev pub invariant-loop-device : goal.invariant-loop-device
invariant-loop-device l =
    AreRibsSoFar l.recorded l.fn.pool l.pool l.ribs.items (ids l.device (l.device-end - l.device))
