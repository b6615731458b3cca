use Rattle.std.proofs.Common.{◌≡◌, ◌||◌, map, take}
use Rattle.std.specs.List.{list_any}
use Rattle.cn_base.specs.Cidr.{Cidr, same_prefix}
use Rattle.cn_change.proofs.counting.add_own.Given as goal

abbrev pub invariant-loop-one : goal.invariant-loop-one
invariant-loop-one l =
    (q : Cidr)
    → list_any (same_prefix q) l.prefixes.keys
    ≡ (list_any (same_prefix q) l.initial.prefixes.keys || list_any (same_prefix q)
    (map (λ o. o.prefix) (take l.one-index l.own)))
