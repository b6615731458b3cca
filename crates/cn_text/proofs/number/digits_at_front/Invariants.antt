use Rattle.std.proofs.Common.{◌≡◌, ◌+◌, drop}
use Rattle.std.specs.List.{prefix_len}
use Rattle.cn_text.specs.Number.{is_digit}
use Rattle.cn_text.proofs.number.digits_at_front.Given as goal

abbrev pub invariant-loop-byte : goal.invariant-loop-byte
invariant-loop-byte l = record {
  count : l.count ≡ l.byte-index;
  value : l.count + prefix_len is_digit (drop l.byte-index l.bytes) ≡ prefix_len is_digit l.bytes;
}
