use Rattle.std.proofs.Common.{◌≡◌, ◌++◌, take, map}
use Rattle.cn_record.specs.Places.{at_device}
use Rattle.cn_record.proofs.places.add_own.Given as goal

abbrev pub invariant-loop-item : goal.invariant-loop-item
invariant-loop-item l =
    l.places.items ≡ l.initial.places.items ++ map (λ o. at_device l.device o.prefix)
    (take l.item-index l.own)
