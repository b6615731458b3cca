use Rattle.std.proofs.Common.{◌≡◌, false, take}
use Rattle.cn_record.specs.Rounds.{reset}
use Rattle.cn_record.proofs.converge.unmark.Given as goal

abbrev pub invariant-loop-device : goal.invariant-loop-device
invariant-loop-device l = l.marks ≡ reset false (take l.device-index l.devices) l.initial.marks
