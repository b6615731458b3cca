use Rattle.std.proofs.Common.{◌≡◌, ◌++◌, take}
use Rattle.std.specs.Prelude.{codes}
use Rattle.std.specs.List.{flat_map}
use Rattle.cn_net.specs.Network.{name_of}
use Rattle.cn_top.proofs.texts.put_names.Given as goal

abbrev pub invariant-loop-device : goal.invariant-loop-device
invariant-loop-device l =
    l.text.items
    ≡ l.fn.text.items
    ++ flat_map (λ d. codes " " ++ name_of l.net d) (take l.device-index l.devices)
