use Rattle.std.proofs.Common.{◌≡◌, None, take}
use Rattle.cn_record.specs.Rounds.{reset}
use Rattle.cn_record.proofs.soundness.clear.Given as goal

abbrev pub invariant-loop-device : goal.invariant-loop-device
invariant-loop-device l = l.table ≡ reset None (take l.device-index l.devices) l.initial.table
