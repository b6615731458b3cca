use Rattle.std.proofs.Common.{◌≡◌, map, take}
use Rattle.std.specs.List.{flat_map, list_any}
use Rattle.cn_base.specs.Cidr.{Cidr, same_prefix}
use Rattle.cn_net.proofs.limits.prefix_count.Given as goal

abbrev pub invariant-loop-device : goal.invariant-loop-device
invariant-loop-device l =
    (q : Cidr)
    → list_any (same_prefix q) l.prefixes.keys
    ≡ list_any (same_prefix q)
    (flat_map (λ d. map (λ o. o.prefix) d.body.own) (take l.device-index l.device-items))
