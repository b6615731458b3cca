use Rattle.std.proofs.Common.{take}
use Rattle.cn_net.specs.Kept.{AreNamesOf}
use Rattle.cn_net.proofs.copies.copied_names.Given as goal

abbrev pub invariant-loop-device : goal.invariant-loop-device
invariant-loop-device l = AreNamesOf (take l.device-index l.devices) l.names.keys
