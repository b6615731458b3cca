-- More digits spell no smaller number.
use Rattle.std.proofs.Common.{◌≡◌, ℕ, ◌+◌, ◌*◌, ◌-◌, ◌≤◌, ◌<◌, List, [], ◌∷◌, length, get_or, drop, false, cond, Some, None, refl, sym, ap, ◌∙◌, arith}
use Rattle.std.specs.Prelude.{nat_le}
use Rattle.std.proofs.lemmas.Bool.Decides.{nat_tests}
use Rattle.std.proofs.lemmas.List.{drop_more}
use Rattle.cn_text.specs.Number.{value, value_after}

value_after_grows : (n : ℕ) (ds : List ℕ) → n ≤ value_after n ds
value_after_grows n [] = omega arith
value_after_grows n (d ∷ ds) = let h = value_after_grows (n * 10 + (d - 48)) ds in omega (arith, h)

not_within : (m max : ℕ) → max < m → nat_le m max ≡ false
not_within m max lt = grind (arith, nat_tests)

-- where the next digit makes the value too great, the whole value is
pub too_great : (v max : ℕ) (ds : List ℕ) (i : ℕ) → i < length ds
    → value_after v (drop i ds) ≡ value ds → max < v * 10 + (get_or ds i 0 - 48)
    → None ≡ cond (nat_le (value ds) max) (Some (value ds)) None
too_great v max ds i lt same over =
    let step : value_after (v * 10 + (get_or ds i 0 - 48)) (drop (i + 1) ds) ≡ value ds =
    ap (value_after v) (sym (drop_more ds i 0 lt)) ∙ same in
    let more : max < value ds =
    omega (arith, value_after_grows (v * 10 + (get_or ds i 0 - 48)) (drop (i + 1) ds), step) in
    rw (not_within (value ds) max more) refl
