use Rattle.std.proofs.Common.{◌≡◌, drop, map}
use Rattle.cn_rib.specs.PrefixSet as prefixes
use Rattle.cn_core.proofs.start.own_dirty.Given as goal

abbrev pub invariant-loop-one : goal.invariant-loop-one
invariant-loop-one l =
    prefixes.insert_all l.dirty (map (λ o. o.prefix) (drop l.one-index l.own))
    ≡ prefixes.insert_all prefixes.empty (map (λ o. o.prefix) l.own)
