use Rattle.std.proofs.Common.{◌≡◌, true, take}
use Rattle.cn_net.specs.Islands.{holds_device}
use Rattle.cn_grow.specs.Members.{IsExtended, IsMarked}
use Rattle.cn_grow.proofs.members.add_all.Given as goal

abbrev pub invariant-loop-d : goal.invariant-loop-d
invariant-loop-d l = IsMarked l.marks l.members.items
    × IsExtended (λ x. holds_device (take l.d-index l.devices) x ≡ true) l.fn.members.items
    l.members.items
