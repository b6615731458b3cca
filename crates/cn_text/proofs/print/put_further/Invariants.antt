use Rattle.std.proofs.Common.{◌≡◌, ◌++◌, take}
use Rattle.cn_text.specs.Printed.{further_numbers}
use Rattle.cn_text.proofs.print.put_further.Given as goal

abbrev pub invariant-loop-number : goal.invariant-loop-number
invariant-loop-number l =
    l.out.items ≡ l.fn.out.items ++ further_numbers (take l.number-index l.numbers)
