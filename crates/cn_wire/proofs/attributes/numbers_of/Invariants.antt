use Rattle.std.proofs.Common.{◌≡◌, ◌-◌, ◌*◌, ◌++◌, length}
use Rattle.cn_wire.specs.Reading.{numbers_in}
use Rattle.cn_wire.proofs.attributes.numbers_of.Given as goal

abbrev pub invariant-loop : goal.invariant-loop
invariant-loop l =
    (length l.rest ≡ 4 * (l.count - l.counter)) × (length l.numbers.items ≡ l.counter)
    × (l.numbers.items ++ numbers_in (l.count - l.counter) l.rest ≡ numbers_in l.count l.bytes)
