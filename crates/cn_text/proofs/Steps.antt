-- What stands at a place of a text, step by step.
use Rattle.std.proofs.Common.{◌≡◌, inl, inr, ℕ, ◌+◌, ◌≤◌, ◌<◌, ◌-◌, ◌^◌, true, false, Option, Some, None, List, [], ◌∷◌, ◌++◌, length, get_or, take, drop, Result, Ok, Err, refl, sym, ap, ◌∙◌, arith, append_assoc, length-append, eqb}
use Rattle.std.specs.Fmt.{decimal}
use Rattle.std.specs.List.{slice_get}
use Rattle.std.proofs.Math.Seq.{drop-append-add}
use Rattle.std.proofs.lemmas.Bool.{cases_Bool}
use Rattle.std.proofs.lemmas.Bool.Decides.{nat_tests}
use Rattle.std.proofs.lemmas.List.{drop-drop, drop_more, take-append-drop, get_or-drop, length-drop, take_at}
use Rattle.std.proofs.lemmas.Option.{slice_get_within, get_or_from_slice_get, slice_get-get_or}
use Rattle.cn_text.specs.Number.{is_digit, number_at}
use Rattle.cn_text.specs.Atoms.{is_mark, mark_at}
use Rattle.cn_text.specs.declared.number.Bad.{Bad}
use Rattle.cn_text.proofs.Spelling.{number_shape}
use Rattle.cn_text.proofs.Printed.{printed_is_read}

-- xs stands from one place to another
pub record Spells (bytes : List ℕ) (at after : ℕ) (xs : List ℕ) : Type 0 where
  pub after_is : after ≡ at + length xs
  pub bytes_are : drop at bytes ≡ xs ++ drop after bytes

-- what stands behind xs, where xs and it stand
pub drop_from : (bytes xs rest : List ℕ) (at : ℕ) → drop at bytes ≡ xs ++ rest
    → drop (at + length xs) bytes ≡ rest
drop_from bytes xs rest at e =
    let cut : drop (length xs) (xs ++ rest) ≡ rest =
    ap (λ (k : ℕ). drop k (xs ++ rest)) (omega arith) ∙ drop-append-add xs rest 0 in
    sym (drop-drop (length xs) at bytes) ∙ ap (drop (length xs)) e ∙ cut

-- what stands in two parts, one behind the other
pub spells_more : (bytes xs ys : List ℕ) (at p after : ℕ) → Spells bytes at p xs
    → Spells bytes p after ys → Spells bytes at after (xs ++ ys)
spells_more bytes xs ys at p after h k = record {
  after_is = omega (arith, h.after_is, k.after_is, length-append xs ys);
  bytes_are =
      h.bytes_are ∙ ap (λ (zs : List ℕ). xs ++ zs) k.bytes_are
      ∙ sym (append_assoc xs ys (drop after bytes));
}

-- a number that was read is spelled as it is printed
pub number_spells : (bytes : List ℕ) (at max n after : ℕ) → max < 2 ^ 64
    → number_at bytes at max ≡ Ok (n, after) → Spells bytes at after (decimal n)
number_spells bytes at max n after small e =
    let h = number_shape bytes at max n after small e in
    record {
      after_is = h.0;
      bytes_are =
          sym (take-append-drop (length (decimal n)) (drop at bytes))
          ∙ ap (λ (xs : List ℕ). xs ++ drop (length (decimal n)) (drop at bytes)) h.1
          ∙ ap (λ (ys : List ℕ). decimal n ++ ys)
          (drop-drop (length (decimal n)) at bytes ∙ ap (λ (k : ℕ). drop k bytes) (sym h.0));
    }

mark_is : (at mark p b : ℕ) (found : Option ℕ) → is_mark at mark found ≡ Ok p
    → (found ≡ Some mark) × (p ≡ at + 1)
mark_is at mark p b None e = absurd cc
mark_is at mark p b (Some x) e =
    elim (cases_Bool (eqb x mark)) [
      | inl t ↦
          let same : x ≡ mark = grind (arith, nat_tests) in
          let k : ◌≡◌ {A = Result ℕ Bad} (Ok (at + 1)) (Ok p) = rw t at e in
          (ap (λ (y : ℕ). Some y) same, cc k)
      | inr f ↦
          let k : ◌≡◌ {A = Result ℕ Bad} (Err (record { at = at })) (Ok p) = rw f at e in
          absurd (cc k)
    ]

-- a mark that was read is spelled by itself
pub mark_spells : (bytes : List ℕ) (at mark p : ℕ) → mark_at bytes at mark ≡ Ok p
    → Spells bytes at p (mark ∷ [])
mark_spells bytes at mark p e =
    let h = mark_is at mark p 0 (slice_get bytes at) e in
    let within : at < length bytes = slice_get_within bytes at mark h.0 in
    record {
      after_is = h.1;
      bytes_are =
          drop_more bytes at 0 within
          ∙ ap (λ (x : ℕ). x ∷ drop (at + 1) bytes) (get_or_from_slice_get bytes at mark 0 h.0)
          ∙ ap (λ (k : ℕ). mark ∷ drop k bytes) (sym h.1);
    }

-- what is printed there is read
pub number_reads : (bytes tail : List ℕ) (at max n : ℕ) → drop at bytes ≡ decimal n ++ tail
    → n ≤ max → n < 2 ^ 64 → is_digit (get_or tail 0 0) ≡ false
    → number_at bytes at max ≡ Ok (n, at + length (decimal n))
number_reads bytes tail at max n e le small h = rw e (printed_is_read n max at tail le small h)

-- the octet at a place where this one stands
pub some_from : (bytes tail : List ℕ) (at mark : ℕ) → drop at bytes ≡ mark ∷ tail
    → slice_get bytes at ≡ Some mark
some_from bytes tail at mark e =
    let here : get_or bytes at 0 ≡ mark =
    ap (λ (k : ℕ). get_or bytes k 0) (omega arith) ∙ sym (get_or-drop at bytes 0 0)
    ∙ ap (λ (xs : List ℕ). get_or xs 0 0) e in
    let within : at < length bytes = omega (arith, length-drop at bytes, ap length e) in
    slice_get-get_or bytes at 0 within ∙ ap (λ (x : ℕ). Some x) here

-- a mark is read where it stands
pub mark_reads : (bytes tail : List ℕ) (at mark : ℕ) → drop at bytes ≡ mark ∷ tail
    → mark_at bytes at mark ≡ Ok (at + 1)
mark_reads bytes tail at mark e =
    let same : eqb mark mark ≡ true = grind (arith, nat_tests) in
    rw (some_from bytes tail at mark e) (rw same refl)

-- what is spelled from one place to another is the part between them
pub taken_part : (bytes xs : List ℕ) (at after : ℕ) → Spells bytes at after xs
    → take (after - at) (drop at bytes) ≡ xs
taken_part bytes xs at after h =
    let long : after - at ≡ length xs = omega (arith, h.after_is) in
    ap (λ (k : ℕ). take k (drop at bytes)) long ∙ ap (take (length xs)) h.bytes_are
    ∙ take_at xs (drop after bytes) _ refl
