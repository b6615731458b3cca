use Rattle.std.proofs.Common.{◌≡◌, ◌++◌, take, map}
use Rattle.cn_record.specs.Grouped.{of_island}
use Rattle.cn_record.proofs.islands.add_own.Given as goal

abbrev pub invariant-loop-item : goal.invariant-loop-item
invariant-loop-item l = l.prefixes.items
    ≡ l.initial.prefixes.items ++ map (λ o. of_island l.island o.prefix) (take l.item-index l.own)
