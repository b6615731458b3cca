use Rattle.std.proofs.Common.{◌≡◌, ◌++◌, drop, map}
use Rattle.cn_wire.specs.Sizes.{longest_prefix_within}
use Rattle.cn_core.proofs.message.fitting.Given as goal

abbrev pub invariant-loop-row : goal.invariant-loop-row
invariant-loop-row l =
    l.prefixes.items ++ longest_prefix_within l.room (map (λ r. r.prefix) (drop l.row-index l.rows))
    ≡ longest_prefix_within 4073 (map (λ r. r.prefix) l.rows)
