-- A path is read as it is printed.
use Rattle.std.proofs.Common.{◌≡◌, inl, inr, ℕ, zero, suc, ◌+◌, ◌≤◌, ◌<◌, ◌^◌, true, false, List, [], ◌∷◌, ◌++◌, length, get_or, drop, Result, Ok, Err, refl, sym, ap, subst, ◌∙◌, arith, eqb, append_assoc, length-append}
use Rattle.std.specs.List.{All}
use Rattle.std.specs.Fmt.{decimal}
use Rattle.std.proofs.lemmas.Bool.{cases_Bool}
use Rattle.std.proofs.lemmas.Bool.Decides.{nat_tests}
use Rattle.std.proofs.lemmas.Fmt.{decimal_nonempty, digits_decimal}
use Rattle.std.proofs.lemmas.List.Elements.{All-nil, All-cons, All-head, All-tail}
use Rattle.cn_lists.specs.Steps.{◌>>=◌}
use Rattle.cn_lists.proofs.Loops.{bind-Ok, from_Ok_bind}
use Rattle.cn_base.specs.declared.ids.Asn.{Asn}
use Rattle.cn_text.specs.Number.{is_digit, number_at}
use Rattle.cn_text.specs.Printed.{further_numbers, path_text}
use Rattle.cn_text.specs.Atoms.{mark_at, is_further, further_at, numbers_at, empty_or, path_at, IsPath}
use Rattle.cn_text.specs.declared.number.Bad.{Bad}
use Rattle.cn_text.proofs.Address.{octet_spells}
use Rattle.cn_text.proofs.Further.{asn_of, joined, further_more, further_full, further_done}
use Rattle.cn_text.proofs.Spelling.{AreDigits, own}
use Rattle.cn_text.proofs.Printed.{is_digit_in}
use Rattle.cn_text.proofs.Steps.{Spells, spells_more, mark_spells, drop_from, number_reads, some_from, mark_reads}

-- a number of four octets
abbrev pub IsSmall : Asn → Type 0
IsSmall n = n.0 < 2 ^ 32

-- what is known of numbers that were read
pub record NumbersSpell (bytes : List ℕ) (room at after : ℕ) (xs : List ℕ)
    (ns : List Asn) : Type 0 where
  pub spells : Spells bytes at after xs
  pub short : length ns ≤ room
  pub small : All IsSmall ns

nothing_spells : (bytes : List ℕ) (at : ℕ) → Spells bytes at at []
nothing_spells bytes at = record { after_is = omega arith; bytes_are = refl }

space_first : (bytes rest : List ℕ) (at : ℕ) → drop at bytes ≡ rest → is_further rest ≡ true
    → Spells bytes at (at + 1) (32 ∷ [])
space_first bytes [] at e h = absurd (cc h)
space_first bytes (b ∷ bs) at e h =
    let space : b ≡ 32 = grind (arith, nat_tests) in
    let next : drop (at + 1) bytes ≡ bs = drop_from bytes (b ∷ []) bs at e in
    record {
      after_is = refl;
      bytes_are = e ∙ ap (λ (x : ℕ). x ∷ bs) space ∙ ap (λ (xs : List ℕ). 32 ∷ xs) (sym next);
    }

-- what further numbers that were read are spelled as
abbrev pub Further : List ℕ → ℕ → ℕ → List Asn × ℕ → Type 0
Further bytes room at z = NumbersSpell bytes room at z.1 (further_numbers z.0) z.0

-- what numbers that were read are spelled as
abbrev pub Numbers : List ℕ → ℕ → ℕ → List Asn × ℕ → Type 0
Numbers bytes room at z = NumbersSpell bytes room at z.1 (path_text z.0) z.0

is_same : (P : List Asn × ℕ → Type 0) (x y : List Asn × ℕ)
    → ◌≡◌ {A = Result (List Asn × ℕ) Bad} (Ok x) (Ok y) → P x → P y
is_same P x y e h = let same : x ≡ y = cc e in subst P same h

one_more : (bytes : List ℕ) (room at : ℕ) (n : ℕ × ℕ) (ns : List Asn × ℕ)
    → number_at bytes at 4294967295 ≡ Ok n → Further bytes room n.1 ns
    → Numbers bytes (suc room) at (asn_of n.0 ∷ ns.0, ns.1)
one_more bytes room at n ns read others =
    let one = octet_spells bytes at 4294967295 n (omega arith) read in
    record {
      spells =
          spells_more bytes (decimal n.0) (further_numbers ns.0) at n.1 ns.1 one.0 others.spells;
      short = omega (arith, others.short);
      small = All-cons IsSmall (asn_of n.0) ns.0 (omega (arith, one.1)) others.small;
    }

after_space : (bytes : List ℕ) (room at : ℕ) (n : Asn) (ns : List Asn × ℕ)
    → Spells bytes at (at + 1) (32 ∷ []) → Numbers bytes room (at + 1) (n ∷ ns.0, ns.1)
    → Further bytes room at (n ∷ ns.0, ns.1)
after_space bytes room at n ns space numbers = record {
  spells = spells_more bytes (32 ∷ []) (path_text (n ∷ ns.0)) at (at + 1) ns.1 space numbers.spells;
  short = numbers.short;
  small = numbers.small;
}

none_more : (bytes : List ℕ) (room at : ℕ) → Further bytes room at ([], at)
none_more bytes room at =
    record { spells = nothing_spells bytes at; short = omega arith; small = All-nil IsSmall }

further_spells : (bytes : List ℕ) (room at : ℕ) (y : List Asn × ℕ)
    → further_at bytes room at ≡ Ok y → Further bytes room at y
further_spells bytes zero at y e =
    elim (cases_Bool (is_further (drop at bytes))) [
      | inl t ↦
          let k : ◌≡◌ {A = Result (List Asn × ℕ) Bad} (Err (record { at = at + 1 })) (Ok y) =
          sym (further_full bytes at t) ∙ e in
          absurd (cc k)
      | inr f ↦
          is_same (Further bytes zero at) ([], at) y (sym (further_done bytes zero at f) ∙ e)
          (none_more bytes zero at)
    ]
further_spells bytes (suc room) at y e =
    elim (cases_Bool (is_further (drop at bytes))) [
      | inl t ↦
          from_Ok_bind (number_at bytes (at + 1) 4294967295) _ y
          (sym (further_more bytes room at t) ∙ e)
          (λ n hn en.
          from_Ok_bind (further_at bytes room n.1) _ y en (λ ns hns ens.
          is_same (Further bytes (suc room) at) (asn_of n.0 ∷ ns.0, ns.1) y ens
          (after_space bytes (suc room) at (asn_of n.0) ns
          (space_first bytes (drop at bytes) at refl t)
          (one_more bytes room (at + 1) n ns hn (further_spells bytes room n.1 ns hns)))))
      | inr f ↦
          is_same (Further bytes (suc room) at) ([], at) y
          (sym (further_done bytes (suc room) at f) ∙ e) (none_more bytes (suc room) at)
    ]

numbers_spell : (bytes : List ℕ) (at : ℕ) (y : List Asn × ℕ) → numbers_at bytes at ≡ Ok y
    → Numbers bytes 255 at y
unfolding numbers_at
numbers_spell bytes at y e =
    from_Ok_bind (number_at bytes at 4294967295) _ y e (λ n hn en.
    from_Ok_bind (further_at bytes 254 n.1) _ y en (λ ns hns ens.
    is_same (Numbers bytes 255 at) (asn_of n.0 ∷ ns.0, ns.1) y ens
    (one_more bytes 254 at n ns hn (further_spells bytes 254 n.1 ns hns))))

-- what was read is what is printed
path_is : (bytes : List ℕ) (at : ℕ) (y : List Asn × ℕ) (dash : Result ℕ Bad)
    → mark_at bytes at 45 ≡ dash → empty_or dash (numbers_at bytes at) ≡ Ok y
    → Numbers bytes 255 at y
path_is bytes at y (Ok after) found e =
    is_same (Numbers bytes 255 at) ([], after) y e (record {
      spells = mark_spells bytes at 45 after found;
      short = omega arith;
      small = All-nil IsSmall;
    })
path_is bytes at y (Err bad) found e = numbers_spell bytes at y e

-- a path that was read is spelled as it is printed, and can be printed
pub path_spells : (bytes : List ℕ) (at : ℕ) (y : List Asn × ℕ) → path_at bytes at ≡ Ok y
    → Spells bytes at y.1 (path_text y.0) × IsPath y.0
unfolding path_at
path_spells bytes at y e =
    let h = path_is bytes at y (mark_at bytes at 45) refl e in
    (h.spells, record { short = h.short; numbers = h.small })

digit_first : (ds tail : List ℕ) → AreDigits ds → 0 < length ds
    → is_digit (get_or (ds ++ tail) 0 0) ≡ true
digit_first [] tail p some = absurd (omega arith)
digit_first (d ∷ ds) tail p some = is_digit_in d (p 0 (omega arith))

number_first : (n : ℕ) (tail : List ℕ) → n < 2 ^ 64
    → is_digit (get_or (decimal n ++ tail) 0 0) ≡ true
number_first n tail small =
    digit_first (decimal n) tail (digits_decimal own n small) (decimal_nonempty n small)

no_digit : (ns : List Asn) (tail : List ℕ) → is_digit (get_or tail 0 0) ≡ false
    → is_digit (get_or (further_numbers ns ++ tail) 0 0) ≡ false
no_digit [] tail h = h
no_digit (n ∷ ns) tail h = refl

-- what is printed is read
number_then : (bytes tail : List ℕ) (at room : ℕ) (n : Asn) (ns : List Asn)
    → drop at bytes ≡ path_text (n ∷ ns) ++ tail → IsSmall n → is_digit (get_or tail 0 0) ≡ false
    → ((after : ℕ) → drop after bytes ≡ further_numbers ns ++ tail
    → further_at bytes room after ≡ Ok (ns, after + length (further_numbers ns)))
    → (number_at bytes at 4294967295 >>= λ x. further_at bytes room x.1 >>= joined x.0)
    ≡ Ok (n ∷ ns, at + length (path_text (n ∷ ns)))
number_then bytes tail at room n ns e small h others =
    let rest = further_numbers ns ++ tail in
    let d0 : drop at bytes ≡ decimal n.0 ++ rest =
    e ∙ append_assoc (decimal n.0) (further_numbers ns) tail in
    let h1 =
    number_reads bytes rest at 4294967295 n.0 d0 (omega (arith, small)) (omega (arith, small))
    (no_digit ns tail h) in
    let h2 = others (at + length (decimal n.0)) (drop_from bytes (decimal n.0) rest at d0) in
    let end : at + length (decimal n.0) + length (further_numbers ns)
    ≡ at + length (path_text (n ∷ ns)) =
    omega (arith, length-append (decimal n.0) (further_numbers ns)) in
    bind-Ok _ _ _ _ h1 (bind-Ok _ _ _ _ h2 (ap (λ (k : ℕ). Ok (n ∷ ns, k)) end))

further_reads : (bytes tail : List ℕ) (room at : ℕ) (ns : List Asn)
    → drop at bytes ≡ further_numbers ns ++ tail → length ns ≤ room → All IsSmall ns
    → is_digit (get_or tail 0 0) ≡ false → is_further tail ≡ false
    → further_at bytes room at ≡ Ok (ns, at + length (further_numbers ns))
further_reads bytes tail room at [] e short small h g =
    let none : is_further (drop at bytes) ≡ false = ap is_further e ∙ g in
    further_done bytes room at none ∙ ap (λ (k : ℕ). Ok ([], k)) (omega arith)
further_reads bytes tail zero at (n ∷ ns) e short small h g = absurd (omega (arith, short))
further_reads bytes tail (suc room) at (n ∷ ns) e short small h g =
    let rest = path_text (n ∷ ns) ++ tail in
    let one : IsSmall n = All-head IsSmall n ns small in
    let begins : is_digit (get_or rest 0 0) ≡ true =
    rw (append_assoc (decimal n.0) (further_numbers ns) tail)
    (number_first n.0 (further_numbers ns ++ tail) (omega (arith, one))) in
    let goes : is_further (drop at bytes) ≡ true = ap is_further e ∙ begins in
    let next : drop (at + 1) bytes ≡ rest = drop_from bytes (32 ∷ []) rest at e in
    further_more bytes room at goes
    ∙ number_then bytes tail (at + 1) room n ns next one h (λ after later. further_reads bytes tail
    room after ns later (omega (arith, short)) (All-tail IsSmall n ns small) h g)
    ∙ ap (λ (k : ℕ). Ok (n ∷ ns, k)) (omega arith)

not_dash : (bytes rest : List ℕ) (at : ℕ) → drop at bytes ≡ rest → is_digit (get_or rest 0 0) ≡ true
    → mark_at bytes at 45 ≡ Err (record { at = at })
not_dash bytes [] at e h = absurd (cc h)
not_dash bytes (b ∷ rest) at e h =
    let other : eqb b 45 ≡ false = grind (arith, nat_tests) in
    rw (some_from bytes rest at b e) (rw other refl)

-- what is printed of a path is read
pub path_reads : (bytes tail : List ℕ) (at : ℕ) (path : List Asn)
    → drop at bytes ≡ path_text path ++ tail → IsPath path → is_digit (get_or tail 0 0) ≡ false
    → is_further tail ≡ false
    → path_at bytes at ≡ Ok (path, at + length (path_text path))
unfolding path_at numbers_at
path_reads bytes tail at [] e is h g = rw (mark_reads bytes tail at 45 e) refl
path_reads bytes tail at (n ∷ ns) e is h g =
    let one : IsSmall n = All-head IsSmall n ns is.numbers in
    let begins : is_digit (get_or (path_text (n ∷ ns) ++ tail) 0 0) ≡ true =
    rw (append_assoc (decimal n.0) (further_numbers ns) tail)
    (number_first n.0 (further_numbers ns ++ tail) (omega (arith, one))) in
    rw (not_dash bytes (path_text (n ∷ ns) ++ tail) at e begins)
    (number_then bytes tail at 254 n ns e one h (λ after later. further_reads bytes tail 254 after
    ns later (omega (arith, is.short)) (All-tail IsSmall n ns is.numbers) h g))
