use Rattle.std.proofs.Common.{◌≡◌, ◌≤◌, drop}
use Rattle.cn_text.specs.Number.{value, value_after}
use Rattle.cn_text.proofs.number.value_within.Given as goal

abbrev pub invariant-loop-digit : goal.invariant-loop-digit
invariant-loop-digit l = record {
  within : l.value ≤ l.max;
  same : value_after l.value (drop l.digit-index l.digits) ≡ value l.digits;
}
