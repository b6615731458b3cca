-- A prefix is read as it is printed.
use Rattle.std.proofs.Common.{◌≡◌, inl, inr, ℕ, ◌+◌, ◌-◌, ◌%◌, ◌≤◌, ◌<◌, ◌^◌, true, false, cond, List, [], ◌∷◌, ◌++◌, length, get_or, drop, Result, Ok, Err, refl, ap, subst, ◌∙◌, arith, eqb, append_assoc, length-append}
use Rattle.std.specs.Prelude.{codes}
use Rattle.std.specs.Fmt.{decimal}
use Rattle.std.proofs.lemmas.Bool.{cases_Bool}
use Rattle.std.proofs.lemmas.Bool.Decides.{nat_tests}
use Rattle.cn_lists.proofs.Loops.{bind-Ok, from_Ok_bind}
use Rattle.cn_base.specs.Cidr.{Cidr, IsCidr}
use Rattle.cn_text.specs.Number.{is_digit, number_at}
use Rattle.cn_text.specs.Printed.{address, prefix_text}
use Rattle.cn_text.specs.Atoms.{mark_at, address_at, prefix_at}
use Rattle.cn_text.specs.declared.number.Bad.{Bad}
use Rattle.cn_text.proofs.Address.{address_spells, address_reads, octet_spells}
use Rattle.cn_text.proofs.Steps.{Spells, spells_more, mark_spells, drop_from, number_reads, mark_reads}

abbrev checked : ℕ → ℕ → ℕ → ℕ → Result (Cidr × ℕ) Bad
checked bits len end at =
    cond (eqb (bits % 2 ^ (32 - len)) 0) (Ok (record { bits = bits; len = len }, end))
    (Err (record { at = at }))

-- a read prefix: what it is, where it ends, and that its other bits are zero
record IsChecked (bits len end : ℕ) (p : Cidr) (after : ℕ) : Type 0 where
  bits_are : bits ≡ p.bits
  len_is : len ≡ p.len
  end_is : end ≡ after
  clear : p.bits % 2 ^ (32 - p.len) ≡ 0

record_is : (bits len end : ℕ) (p : Cidr) (after : ℕ) → bits % 2 ^ (32 - len) ≡ 0
    → ◌≡◌ {A = Result (Cidr × ℕ) Bad} (Ok (record { bits = bits; len = len }, end)) (Ok (p, after))
    → IsChecked bits len end p after
record_is bits len end p after zero e =
    let q : Cidr = record { bits = bits; len = len } in
    let h : ◌≡◌ {A = Cidr × ℕ} (q, end) (p, after) = cc in
    let same : q ≡ p = ap (λ (y : Cidr × ℕ). y.0) h in
    let P : Cidr → Type 0 = λ c. IsChecked bits len end c after in
    subst P same
    (record { bits_are = refl; len_is = refl; end_is = ap (λ (y : Cidr × ℕ). y.1) h; clear = zero })

check_is : (bits len end at : ℕ) (p : Cidr) (after : ℕ) → checked bits len end at ≡ Ok (p, after)
    → IsChecked bits len end p after
check_is bits len end at p after e =
    elim (cases_Bool (eqb (bits % 2 ^ (32 - len)) 0)) [
      | inl t ↦
          let zero : bits % 2 ^ (32 - len) ≡ 0 = grind (arith, nat_tests) in
          record_is bits len end p after zero (rw t at e)
      | inr f ↦
          let k : ◌≡◌ {A = Result (Cidr × ℕ) Bad} (Err (record { at = at })) (Ok (p, after)) =
          rw f at e in
          absurd (cc k)
    ]

-- what is known of a read prefix
pub record PrefixSpells (bytes : List ℕ) (at : ℕ) (p : Cidr) (after : ℕ) : Type 0 where
  pub spells : Spells bytes at after (prefix_text p)
  pub is_cidr : IsCidr p
  pub small : p.bits < 2 ^ 32

put_together : (bytes : List ℕ) (at q after : ℕ) (p : Cidr) (a n : ℕ × ℕ)
    → address_at bytes at ≡ Ok a → mark_at bytes a.1 47 ≡ Ok q → number_at bytes q 32 ≡ Ok n
    → IsChecked a.0 n.0 n.1 p after → PrefixSpells bytes at p after
put_together bytes at q after p a n ha hq hn is =
    let sa = address_spells bytes at a.0 a.1 ha in
    let sn = octet_spells bytes q 32 n (omega arith) hn in
    let t1 = spells_more bytes _ _ at a.1 q sa.0 (mark_spells bytes a.1 47 q hq) in
    let t2 = spells_more bytes _ _ at q n.1 t1 sn.0 in
    let P : ℕ → Type 0 = λ bits. Spells bytes at n.1 (address bits ++ codes "/" ++ decimal n.0) in
    let Q : ℕ → Type 0 = λ len. Spells bytes at n.1 (address p.bits ++ codes "/" ++ decimal len) in
    let R : ℕ → Type 0 = λ end. Spells bytes at end (prefix_text p) in
    record {
      spells = subst R is.end_is (subst Q is.len_is (subst P is.bits_are t2));
      is_cidr = record { short = omega (arith, sn.1, is.len_is); clear = is.clear };
      small = omega (arith, sa.1, is.bits_are);
    }

-- what was read is what is printed
pub prefix_spells : (bytes : List ℕ) (at : ℕ) (p : Cidr) (after : ℕ)
    → prefix_at bytes at ≡ Ok (p, after) → PrefixSpells bytes at p after
unfolding prefix_at
prefix_spells bytes at p after e =
    from_Ok_bind (address_at bytes at) _ (p, after) e (λ a ha ea.
    from_Ok_bind (mark_at bytes a.1 47) _ (p, after) ea (λ q hq eq.
    from_Ok_bind (number_at bytes q 32) _ (p, after) eq (λ n hn en.
    put_together bytes at q after p a n ha hq hn (check_is a.0 n.0 n.1 q p after en))))

is_checked : (p : Cidr) (end after at : ℕ) → IsCidr p → end ≡ after
    → checked p.bits p.len end at ≡ Ok (p, after)
is_checked p end after at h e =
    let zero : eqb (p.bits % 2 ^ (32 - p.len)) 0 ≡ true =
    let k : p.bits % 2 ^ (32 - p.len) ≡ 0 = h.clear in
    rw k refl in
    rw zero (ap (λ (x : ℕ). Ok (p, x)) e)

-- what is printed is read
pub prefix_reads : (bytes tail : List ℕ) (at : ℕ) (p : Cidr) → drop at bytes ≡ prefix_text p ++ tail
    → p.bits < 2 ^ 32 → IsCidr p → is_digit (get_or tail 0 0) ≡ false
    → prefix_at bytes at ≡ Ok (p, at + length (prefix_text p))
unfolding prefix_at
prefix_reads bytes tail at p e small is h =
    let r = decimal p.len ++ tail in
    let short : p.len ≤ 32 = is.short in
    let d0 : drop at bytes ≡ address p.bits ++ 47 ∷ r =
    e
    ∙ (append_assoc (address p.bits ++ codes "/") (decimal p.len) tail
    ∙ append_assoc (address p.bits) (codes "/") r) in
    let d1 = drop_from bytes (address p.bits) (47 ∷ r) at d0 in
    let d2 = drop_from bytes (47 ∷ []) r _ d1 in
    let h1 = address_reads bytes (47 ∷ r) at p.bits d0 small refl in
    let h2 = mark_reads bytes r _ 47 d1 in
    let h3 = number_reads bytes tail _ 32 p.len d2 short (omega arith) h in
    let end : at + length (address p.bits) + 1 + length (decimal p.len)
    ≡ at + length (prefix_text p) =
    omega (
      arith,
      length-append (address p.bits ++ codes "/") (decimal p.len),
      length-append (address p.bits) (codes "/"),
    ) in
    bind-Ok _ _ _ _ h1 (bind-Ok _ _ _ _ h2 (bind-Ok _ _ _ _ h3 (is_checked p _ _ _ is end)))
