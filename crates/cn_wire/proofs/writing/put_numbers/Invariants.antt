use Rattle.std.proofs.Common.{◌≡◌, ◌++◌, take}
use Rattle.cn_wire.specs.Numbers.{four_octets}
use Rattle.std.specs.List.{flat_map}
use Rattle.cn_wire.specs.Spelling.{FitFourOctets}
use Rattle.cn_wire.proofs.writing.put_numbers.Given as goal

abbrev pub invariant-loop-number : goal.invariant-loop-number
invariant-loop-number l =
    (l.out.items
    ≡ l.fn.out.items ++ flat_map (λ m. four_octets m.0) (take l.number-index l.numbers))
    × FitFourOctets (take l.number-index l.numbers)
