use Rattle.std.proofs.Common.{◌≡◌, ◌++◌, take}
use Rattle.std.specs.List.{flat_map}
use Rattle.cn_top.specs.Texts.{emulate_line}
use Rattle.cn_top.proofs.texts.put_devices.Given as goal

abbrev pub invariant-loop-device : goal.invariant-loop-device
invariant-loop-device l =
    l.text.items ≡ l.fn.text.items ++ flat_map (emulate_line l.net) (take l.device-index l.devices)
