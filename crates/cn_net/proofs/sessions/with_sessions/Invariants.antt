use Rattle.std.proofs.Common.{◌≡◌, ◌++◌, map, take}
use Rattle.std.specs.List.{filter}
use Rattle.cn_net.specs.Islands.{holds_device}
use Rattle.cn_net.proofs.sessions.with_sessions.Given as goal

abbrev pub invariant-loop-neighbour : goal.invariant-loop-neighbour
invariant-loop-neighbour l =
    l.more.items
    ≡ l.fn.ends.items
    ++ map (λ to. record { from = l.from; to = to })
    (filter (holds_device l.emulated)
    (map (λ n. n.device) (take l.neighbour-index l.neighbour-items)))
