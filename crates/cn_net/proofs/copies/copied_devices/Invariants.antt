use Rattle.std.proofs.Common.{◌≡◌, take}
use Rattle.cn_net.proofs.copies.copied_devices.Given as goal

abbrev pub invariant-loop-device : goal.invariant-loop-device
invariant-loop-device l = l.copied.items ≡ take l.device-index l.devices
