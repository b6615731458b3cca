use Rattle.std.proofs.Common.{take}
use Rattle.cn_net.specs.Kept.{AreOwn}
use Rattle.cn_net.proofs.originated.own_by_prefix.Given as goal

abbrev pub invariant-loop-device : goal.invariant-loop-device
invariant-loop-device l = AreOwn (take l.device-index l.devices) l.lists.items
