-- The numbers of a path fit where each was seen to.
use Rattle.std.proofs.Common.{ℕ, suc, ◌<◌, ◌≤◌, ◌^◌, List, [], ◌∷◌, length, get_or, arith}
use Rattle.cn_base.specs.declared.ids.Asn.{Asn}
use Rattle.cn_wire.specs.Spelling.{FitFourOctets}
use Rattle.cn_core.specs.Fits.{FitsPath}

numbers_from : (ns : List Asn)
    → ((k : ℕ) (d : Asn) → k < length ns → (get_or ns k d).0 < 2 ^ 32) → FitFourOctets ns
numbers_from [] each = tt
numbers_from (n ∷ ns) each = (
  each 0 n (omega arith),
  numbers_from ns (λ k d lt. each (suc k) d (omega (arith, lt))),
)

pub path_from : (ns : List Asn) (i : ℕ) → length ns ≤ i → length ns ≤ 255
    → ((k : ℕ) (d : Asn) → k < i → (get_or ns k d).0 < 2 ^ 32) → FitsPath ns
path_from ns i all short each = record {
  numbers = numbers_from ns (λ k d lt. each k d (omega (arith, lt, all)));
  short = short;
}
