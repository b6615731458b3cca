use Rattle.std.proofs.Common.{take, map}
use Rattle.std.specs.Prelude.{Contains}
use Rattle.cn_net.specs.Islands.{label_of}
use Rattle.cn_record.specs.Places.{AddsDevices, IsInside}
use Rattle.cn_record.proofs.places.add_inside.Given as goal

abbrev pub invariant-loop-place : goal.invariant-loop-place
invariant-loop-place l =
    AddsDevices
    (λ d. Contains (map (λ x. x.device) (take l.place-index l.places)) d
    × IsInside l.net (label_of l.labels) l.island d)
    (IsInside l.net (label_of l.labels) l.island) l.initial.devices.items l.devices.items
