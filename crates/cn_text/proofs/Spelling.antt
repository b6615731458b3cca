-- What is read as a number is spelled as a number is printed.
use Rattle.std.proofs.Common.{◌≡◌, inl, inr, ℕ, suc, ◌+◌, ◌-◌, ◌^◌, ◌≤◌, ◌<◌, true, false, cond, List, [], ◌∷◌, length, get_or, take, drop, Result, Ok, Err, refl, sym, ap, subst, ◌∙◌, arith, eqb, leb}
use Rattle.std.specs.Int.{IsInRange}
use Rattle.std.specs.Fmt.{decimal}
use Rattle.std.specs.List.{prefix_len}
use Rattle.std.proofs.lemmas.Bool.{cases_Bool}
use Rattle.std.proofs.lemmas.Bool.Decides.{nat_tests}
use Rattle.std.proofs.lemmas.Fmt.{decimal-digits_value}
use Rattle.std.proofs.lemmas.List.{length-take, length-take-le}
use Rattle.std.proofs.lemmas.List.Sums.{prefix_len-le-length}
use Rattle.std.proofs.lemmas.Str.Parse.{IsNumeralModel, numerals_by_fold, tells_by_index, FoldsDigits}
use Rattle.cn_text.specs.Number.{is_digit, digit_count, value, value_after, number_at}
use Rattle.cn_text.specs.declared.number.Bad.{Bad}

-- each octet is a digit
abbrev pub AreDigits : List ℕ → Type 0
AreDigits ds = (i : ℕ) → i < length ds → IsInRange 48 57 (get_or ds i 0)

folds : FoldsDigits value_after
folds = record { empty = λ n. refl; more = λ n c cs r. refl }

-- the values of digits are those of std
pub own : IsNumeralModel AreDigits value
own = numerals_by_fold AreDigits tells_by_index value_after folds

digit_in_range : (b : ℕ) → is_digit b ≡ true → IsInRange 48 57 b
digit_in_range b h = grind (arith, nat_tests)

front_more : (b : ℕ) (bs : List ℕ) → IsInRange 48 57 b → AreDigits bs → AreDigits (b ∷ bs)
front_more b bs r h = tells_by_index.more b bs r h

run_is_digits : (bs : List ℕ) → AreDigits (take (prefix_len is_digit bs) bs)
run_is_digits [] = tells_by_index.empty
run_is_digits (b ∷ bs) =
    let P : ℕ → Type 0 = λ n. AreDigits (take n (b ∷ bs)) in
    elim (cases_Bool (is_digit b)) [
      | inl t ↦
          let e : prefix_len is_digit (b ∷ bs) ≡ suc (prefix_len is_digit bs) =
          rw t (omega arith) in
          subst P (sym e)
          (front_more b (take (prefix_len is_digit bs) bs) (digit_in_range b t) (run_is_digits bs))
      | inr f ↦
          let e : prefix_len is_digit (b ∷ bs) ≡ 0 = rw f refl in
          subst P (sym e) tells_by_index.empty
    ]

-- a 0 alone, or a run of digits that doesn't begin with one
pub record IsNumber (ds : List ℕ) : Type 0 where
  pub digits : AreDigits ds
  pub no_zero : get_or ds 0 0 ≡ 48 → length ds ≡ 1

abbrev front : List ℕ → List ℕ
front rest = take (digit_count rest) rest

run_no_zero : (b : ℕ) (bs : List ℕ) → eqb b 48 ≡ false
    → get_or (take (prefix_len is_digit (b ∷ bs)) (b ∷ bs)) 0 0 ≡ 48
    → length (take (prefix_len is_digit (b ∷ bs)) (b ∷ bs)) ≡ 1
run_no_zero b bs differs =
    let P : ℕ → Type 0 = λ n. get_or (take n (b ∷ bs)) 0 0 ≡ 48 → length (take n (b ∷ bs)) ≡ 1 in
    elim (cases_Bool (is_digit b)) [
      | inl t ↦
          let e : prefix_len is_digit (b ∷ bs) ≡ suc (prefix_len is_digit bs) =
          rw t (omega arith) in
          subst P (sym e) (λ (h : b ≡ 48). absurd (grind (arith, nat_tests)))
      | inr f ↦
          let e : prefix_len is_digit (b ∷ bs) ≡ 0 = rw f refl in
          subst P (sym e) (λ (h : 0 ≡ 48). absurd (omega arith))
    ]

front_is_number : (rest : List ℕ) → IsNumber (front rest)
front_is_number [] =
    record { digits = tells_by_index.empty; no_zero = λ (h : 0 ≡ 48). absurd (omega arith) }
front_is_number (b ∷ bs) =
    let P : ℕ → Type 0 = λ n. IsNumber (take n (b ∷ bs)) in
    elim (cases_Bool (eqb b 48)) [
      | inl t ↦
          let e : digit_count (b ∷ bs) ≡ 1 = rw t refl in
          let is : b ≡ 48 = grind (arith, nat_tests) in
          subst P (sym e) (record {
            digits = front_more b [] (omega arith, omega arith) tells_by_index.empty;
            no_zero = λ _. refl;
          })
      | inr f ↦
          let e : digit_count (b ∷ bs) ≡ prefix_len is_digit (b ∷ bs) = rw f refl in
          subst P (sym e) (record { digits = run_is_digits (b ∷ bs); no_zero = run_no_zero b bs f })
    ]

number_parts : (c v max at : ℕ) (x : ℕ × ℕ) (d : Bad)
    → let r : Result (ℕ × ℕ) Bad =
    cond (eqb c 0) (Err d) (cond (leb v max) (Ok (v, at + c)) (Err d)) in
    r ≡ Ok x
    → (0 < c) × (v ≤ max) × (x ≡ (v, at + c))
number_parts c v max at x d =
    elim (cases_Bool (eqb c 0)) [
      | inl t ↦ rw t (λ e. absurd cc)
      | inr f ↦ rw f (elim (cases_Bool (leb v max)) [
        | inl t ↦ rw t (λ e. (grind (arith, nat_tests), grind (arith, nat_tests), cc))
        | inr g ↦ rw g (λ e. absurd cc)
      ])
    ]

digit_count_within : (rest : List ℕ) → digit_count rest ≤ length rest
digit_count_within [] = omega arith
digit_count_within (b ∷ bs) =
    elim (cases_Bool (eqb b 48)) [
      | inl t ↦ rw t (omega arith)
      | inr f ↦ rw f (prefix_len-le-length is_digit (b ∷ bs))
    ]

not_empty : (rest : List ℕ) → 0 < digit_count rest → 0 < length (front rest)
not_empty [] h = absurd (omega arith)
not_empty (b ∷ bs) h = omega (arith, length-take (digit_count (b ∷ bs)) (b ∷ bs))

-- where what was read ends, and what it is
pub number_shape : (bytes : List ℕ) (at max n after : ℕ) → max < 2 ^ 64
    → number_at bytes at max ≡ Ok (n, after)
    → (after ≡ at + length (decimal n)) × (take (length (decimal n)) (drop at bytes) ≡ decimal n)
    × (n ≤ max)
number_shape bytes at max n after small e =
    let rest = drop at bytes in
    let p =
    number_parts (digit_count rest) (value (front rest)) max at (n, after) (record { at = at }) e in
    let is = front_is_number rest in
    let n_is : n ≡ value (front rest) = ap (λ (x : ℕ × ℕ). x.0) p.2 in
    let after_is : after ≡ at + digit_count rest = ap (λ (x : ℕ × ℕ). x.1) p.2 in
    let printed : decimal (value (front rest)) ≡ front rest =
    decimal-digits_value own (front rest) is.digits (not_empty rest p.0) is.no_zero
    (omega (arith, p.1)) in
    let spelled : decimal n ≡ front rest = ap decimal n_is ∙ printed in
    let long : length (decimal n) ≡ digit_count rest =
    ap length spelled ∙ length-take-le (digit_count rest) rest (digit_count_within rest) in (
      omega (arith, after_is, long),
      ap (λ (k : ℕ). take k rest) long ∙ sym spelled,
      omega (arith, p.1),
    )

-- what was read is what is printed
pub read_is_printed : (bytes : List ℕ) (at max n after : ℕ) → max < 2 ^ 64
    → number_at bytes at max ≡ Ok (n, after)
    → (n ≤ max) × (take (after - at) (drop at bytes) ≡ decimal n)
read_is_printed bytes at max n after small e =
    let h = number_shape bytes at max n after small e in
    let length_is : after - at ≡ length (decimal n) = omega (arith, h.0) in
    (h.2, ap (λ (k : ℕ). take k (drop at bytes)) length_is ∙ h.1)
