use Rattle.cn_net.specs.Changed.{with_body}
use Rattle.cn_change.proofs.Counted.{AreOfFirst}
use Rattle.cn_change.proofs.counting.prefix_count_with.Given as goal

abbrev pub invariant-loop-place : goal.invariant-loop-place
invariant-loop-place l =
    AreOfFirst (with_body l.net l.d l.body).devices l.place l.prefixes.keys
