use Rattle.std.proofs.Common.{◌≡◌, ◌≤◌, ◌*◌, take}
use Rattle.std.specs.List.{sum_by}
use Rattle.cn_net.specs.Limits.{emulated_ends}
use Rattle.cn_net.proofs.limits.session_count.Given as goal

abbrev pub invariant-loop-link : goal.invariant-loop-link
invariant-loop-link l =
    (l.count ≡ sum_by (emulated_ends l.emulated) (take l.link-index l.link-items))
    × (l.count ≤ l.link-index * 2)
