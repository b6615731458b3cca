use Rattle.std.proofs.Common.{◌≡◌, drop, map, take}
use Rattle.std.specs.List.{list_any}
use Rattle.cn_base.specs.Cidr.{same_prefix}
use Rattle.cn_net.specs.Faults.{fault_if, first_from, first_repeat}
use Rattle.cn_net.proofs.repeat.repeated.Given as goal

abbrev pub invariant-loop-one : goal.invariant-loop-one
invariant-loop-one l = record {
  keys : l.before.keys ≡ take l.one-index (map (λ o. o.prefix) l.own);
  first : first_repeat (map (λ o. o.prefix) l.own)
      ≡ first_from (λ before p. fault_if (list_any (same_prefix p) before) p)
      (take l.one-index (map (λ o. o.prefix) l.own)) (drop l.one-index (map (λ o. o.prefix) l.own));
}
