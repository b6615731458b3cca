use Rattle.std.proofs.Common.{◌≡◌, map, take}
use Rattle.cn_rib.proofs.prefix_map.shared_front.Given as goal

abbrev pub invariant-loop-place : goal.invariant-loop-place
invariant-loop-place g l = map (λ r. r.prefix) (take l.place l.rows) ≡ take l.place l.prefixes
