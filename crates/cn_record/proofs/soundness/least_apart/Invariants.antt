use Rattle.std.proofs.Common.{take}
use Rattle.cn_record.specs.Steps.{TellsApart}
use Rattle.cn_record.proofs.soundness.least_apart.Given as goal

abbrev pub invariant-loop-device : goal.invariant-loop-device
invariant-loop-device l =
    TellsApart l.saved l.prefix l.table (take l.device-index l.devices) l.least
