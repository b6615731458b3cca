use Rattle.std.proofs.Common.{◌≡◌, take, flat_map}
use Rattle.cn_net.specs.Islands.{label_of, outside_of}
use Rattle.cn_cert.specs.Steps.{faced_by}
use Rattle.cn_cert.proofs.sides.facing.Given as goal

abbrev pub invariant-loop-link : goal.invariant-loop-link
invariant-loop-link l =
    l.facing.items
    ≡ flat_map (faced_by (outside_of l.emulated) (label_of l.names) l.side)
    (take l.link-index l.link-items)
