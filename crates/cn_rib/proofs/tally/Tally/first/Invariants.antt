use Rattle.std.proofs.Common.{◌≡◌, ℕ, ◌<◌, get_or}
use Rattle.cn_rib.proofs.tally.Tally.first.Given as goal

abbrev pub invariant-loop-top : goal.invariant-loop-top
invariant-loop-top l = (k : ℕ) → k < l.top → get_or l.self-inside.tops.items k 0 ≡ 0
