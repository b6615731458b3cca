-- What is printed as a number is read as that number, whatever follows that is no digit.
use Rattle.std.proofs.Common.{◌≡◌, ℕ, zero, suc, ◌+◌, ◌^◌, ◌≤◌, ◌<◌, true, false, List, [], ◌∷◌, ◌++◌, length, get_or, take, Ok, refl, arith, eqb, leb}
use Rattle.std.specs.Int.{IsInRange}
use Rattle.std.specs.Fmt.{decimal}
use Rattle.std.specs.List.{prefix_len}
use Rattle.std.proofs.lemmas.Bool.Decides.{nat_tests}
use Rattle.std.proofs.lemmas.Fmt.{decimal_digit, decimal_nonempty, digits_decimal, digits_value-decimal, first_decimal}
use Rattle.std.proofs.lemmas.List.{take_at}
use Rattle.std.proofs.lemmas.Str.Parse.{tells_by_index}
use Rattle.cn_text.specs.Number.{is_digit, digit_count, value, number_in}
use Rattle.cn_text.proofs.Spelling.{AreDigits, own}

-- an octet from 48 to 57 is a digit
pub is_digit_in : (b : ℕ) → IsInRange 48 57 b → is_digit b ≡ true
is_digit_in b h = grind (arith, nat_tests)

no_run : (tail : List ℕ) → is_digit (get_or tail 0 0) ≡ false → prefix_len is_digit tail ≡ 0
no_run [] h = refl
no_run (t ∷ ts) h = rw h refl

run_ends : (ds tail : List ℕ) → AreDigits ds → is_digit (get_or tail 0 0) ≡ false
    → prefix_len is_digit (ds ++ tail) ≡ length ds
run_ends [] tail p h = no_run tail h
run_ends (d ∷ ds) tail p h =
    let q = tells_by_index.parts d ds p in
    rw (is_digit_in d q.0, run_ends ds tail q.1 h) (omega arith)

count_is : (ds tail : List ℕ) → AreDigits ds → 48 < get_or ds 0 0
    → is_digit (get_or tail 0 0) ≡ false → digit_count (ds ++ tail) ≡ length ds
count_is [] tail p big h = absurd (omega arith)
count_is (d ∷ ds) tail p big h =
    let e : eqb d 48 ≡ false = grind (arith, nat_tests) in
    rw e (run_ends (d ∷ ds) tail p h)

taken : (max at n : ℕ) (ds tail : List ℕ) → digit_count (ds ++ tail) ≡ length ds → 0 < length ds
    → value ds ≡ n → n ≤ max → number_in max at (ds ++ tail) ≡ Ok (n, at + length ds)
taken max at n ds tail count some is le =
    let t : take (length ds) (ds ++ tail) ≡ ds = take_at ds tail _ refl in
    let z : eqb (length ds) 0 ≡ false = grind (arith, nat_tests) in
    let w : leb n max ≡ true = grind (arith, nat_tests) in
    rw (count, z, t, is, w) refl

-- what is printed of a number is read
pub printed_is_read : (n max at : ℕ) (tail : List ℕ) → n ≤ max → n < 2 ^ 64
    → is_digit (get_or tail 0 0) ≡ false
    → number_in max at (decimal n ++ tail) ≡ Ok (n, at + length (decimal n))
printed_is_read zero max at tail le small h =
    let zero_is : decimal 0 ≡ 48 ∷ [] = decimal_digit 0 (omega arith) in
    rw zero_is (taken max at 0 (48 ∷ []) tail refl (omega arith) refl le)
printed_is_read (suc n) max at tail le small h =
    taken max at (suc n) (decimal (suc n)) tail
    (count_is (decimal (suc n)) tail (digits_decimal own (suc n) small)
    (first_decimal (suc n) (omega arith) small) h)
    (decimal_nonempty (suc n) small) (digits_value-decimal own (suc n) small) le
