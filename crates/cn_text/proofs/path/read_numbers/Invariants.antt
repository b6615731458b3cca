use Rattle.std.proofs.Common.{◌≡◌, ◌-◌, ◌≤◌, ◌<◌, length}
use Rattle.cn_text.specs.Atoms.{further_at, numbers_at}
use Rattle.cn_lists.proofs.Loops.{before_with, with_front}
use Rattle.cn_text.proofs.path.read_numbers.Given as goal

abbrev pub invariant-loop-numbers : goal.invariant-loop-numbers
invariant-loop-numbers l = record {
  within : l.end ≤ length l.bytes;
  some : 0 < length l.numbers.items;
  short : length l.numbers.items ≤ 255;
  same : with_front before_with l.numbers.items
      (further_at l.bytes (255 - length l.numbers.items) l.end)
      ≡ numbers_at l.bytes l.at;
}

abbrev pub decreases-loop-numbers : goal.decreases-loop-numbers
decreases-loop-numbers l = 255 - length l.numbers.items
