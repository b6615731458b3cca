-- An address is read as it is printed.
use Rattle.std.proofs.Common.{◌≡◌, ℕ, ◌+◌, ◌*◌, ◌/◌, ◌%◌, ◌≤◌, ◌<◌, ◌^◌, false, List, [], ◌∷◌, ◌++◌, length, get_or, drop, Result, Ok, refl, sym, ap, subst, ◌∙◌, arith, append_assoc, length-append}
use Rattle.std.specs.Prelude.{codes}
use Rattle.std.specs.Fmt.{decimal}
use Rattle.cn_lists.proofs.Loops.{bind-Ok, from_Ok_bind}
use Rattle.cn_text.specs.Number.{is_digit, number_at}
use Rattle.cn_text.specs.Printed.{address}
use Rattle.cn_text.specs.Atoms.{mark_at, address_at}
use Rattle.cn_text.specs.declared.number.Bad.{Bad}
use Rattle.cn_text.proofs.Spelling.{number_shape}
use Rattle.cn_text.proofs.Steps.{Spells, spells_more, number_spells, mark_spells, drop_from, number_reads, mark_reads}

-- four octets joined by dots
abbrev pub dotted : ℕ → ℕ → ℕ → ℕ → List ℕ
dotted a b c d =
    decimal a ++ codes "." ++ decimal b ++ codes "." ++ decimal c ++ codes "." ++ decimal d

-- the address whose octets these are, as one number
abbrev pub number_of : ℕ → ℕ → ℕ → ℕ → ℕ
number_of a b c d = a * 16777216 + b * 65536 + c * 256 + d

address-number_of : (a b c d : ℕ) → a ≤ 255 → b ≤ 255 → c ≤ 255 → d ≤ 255
    → address (number_of a b c d) ≡ dotted a b c d
address-number_of a b c d ha hb hc hd =
    let n = number_of a b c d in
    let p1 : n / 16777216 ≡ a = omega arith in
    let p2 : n / 65536 % 256 ≡ b = omega arith in
    let p3 : n / 256 % 256 ≡ c = omega arith in
    let p4 : n % 256 ≡ d = omega arith in
    rw (p1, p2, p3, p4) refl

octets_of : (n : ℕ) → number_of (n / 16777216) (n / 65536 % 256) (n / 256 % 256) (n % 256) ≡ n
octets_of n = omega arith

-- a number that was read is spelled as it is printed, and is at most max
pub octet_spells : (bytes : List ℕ) (at max : ℕ) (x : ℕ × ℕ) → max < 2 ^ 64
    → number_at bytes at max ≡ Ok x → Spells bytes at x.1 (decimal x.0) × (x.0 ≤ max)
octet_spells bytes at max x small e =
    (number_spells bytes at max x.0 x.1 small e, (number_shape bytes at max x.0 x.1 small e).2)

put_together : (bytes : List ℕ) (at p q r n after : ℕ) (a b c d : ℕ × ℕ)
    → number_at bytes at 255 ≡ Ok a → mark_at bytes a.1 46 ≡ Ok p → number_at bytes p 255 ≡ Ok b
    → mark_at bytes b.1 46 ≡ Ok q
    → number_at bytes q 255 ≡ Ok c → mark_at bytes c.1 46 ≡ Ok r → number_at bytes r 255 ≡ Ok d
    → number_of a.0 b.0 c.0 d.0 ≡ n → d.1 ≡ after → Spells bytes at after (address n) × (n < 2 ^ 32)
put_together bytes at p q r n after a b c d ha hp hb hq hc hr hd n_is after_is =
    let sa = octet_spells bytes at 255 a (omega arith) ha in
    let sb = octet_spells bytes p 255 b (omega arith) hb in
    let sc = octet_spells bytes q 255 c (omega arith) hc in
    let sd = octet_spells bytes r 255 d (omega arith) hd in
    let t1 = spells_more bytes _ _ at a.1 p sa.0 (mark_spells bytes a.1 46 p hp) in
    let t2 = spells_more bytes _ _ at p b.1 t1 sb.0 in
    let t3 = spells_more bytes _ _ at b.1 q t2 (mark_spells bytes b.1 46 q hq) in
    let t4 = spells_more bytes _ _ at q c.1 t3 sc.0 in
    let t5 = spells_more bytes _ _ at c.1 r t4 (mark_spells bytes c.1 46 r hr) in
    let t6 = spells_more bytes _ _ at r d.1 t5 sd.0 in
    let spelled : address n ≡ dotted a.0 b.0 c.0 d.0 =
    ap address (sym n_is) ∙ address-number_of a.0 b.0 c.0 d.0 sa.1 sb.1 sc.1 sd.1 in
    let P : List ℕ → Type 0 = λ xs. Spells bytes at d.1 xs in
    let Q : ℕ → Type 0 = λ k. Spells bytes at k (address n) in
    (subst Q after_is (subst P (sym spelled) t6), omega (arith, n_is, sa.1, sb.1, sc.1, sd.1))

pair_is : (x : ℕ × ℕ) (n after : ℕ) → ◌≡◌ {A = Result (ℕ × ℕ) Bad} (Ok x) (Ok (n, after))
    → (x.0 ≡ n) × (x.1 ≡ after)
pair_is x n after e =
    let h : x ≡ (n, after) = cc in (ap (λ (y : ℕ × ℕ). y.0) h, ap (λ (y : ℕ × ℕ). y.1) h)

-- what was read is what is printed
pub address_spells : (bytes : List ℕ) (at n after : ℕ) → address_at bytes at ≡ Ok (n, after)
    → Spells bytes at after (address n) × (n < 2 ^ 32)
unfolding address_at
address_spells bytes at n after e =
    from_Ok_bind (number_at bytes at 255) _ (n, after) e (λ a ha ea.
    from_Ok_bind (mark_at bytes a.1 46) _ (n, after) ea (λ p hp ep.
    from_Ok_bind (number_at bytes p 255) _ (n, after) ep (λ b hb eb.
    from_Ok_bind (mark_at bytes b.1 46) _ (n, after) eb (λ q hq eq.
    from_Ok_bind (number_at bytes q 255) _ (n, after) eq (λ c hc ec.
    from_Ok_bind (mark_at bytes c.1 46) _ (n, after) ec (λ r hr er.
    from_Ok_bind (number_at bytes r 255) _ (n, after) er (λ d hd ed.
    let h = pair_is (number_of a.0 b.0 c.0 d.0, d.1) n after ed in
    put_together bytes at p q r n after a b c d ha hp hb hq hc hr hd h.0 h.1)))))))

pair_of : (m after n end : ℕ) → m ≡ n → after ≡ end
    → ◌≡◌ {A = Result (ℕ × ℕ) Bad} (Ok (m, after)) (Ok (n, end))
pair_of m after n end p q = cc

ends : (at a b c d : ℕ)
    → at + length (decimal a) + 1 + length (decimal b) + 1 + length (decimal c) + 1
    + length (decimal d)
    ≡ at + length (dotted a b c d)
ends at a b c d = simp length-append (omega arith)

-- the next octet, and the dot before it
dot_then : (bytes rest : List ℕ) (at : ℕ) → drop at bytes ≡ 46 ∷ rest
    → drop (at + 1) bytes ≡ rest
dot_then bytes rest at e = drop_from bytes (46 ∷ []) rest at e

-- what is printed is read
pub address_reads : (bytes tail : List ℕ) (at n : ℕ) → drop at bytes ≡ address n ++ tail
    → n < 2 ^ 32 → is_digit (get_or tail 0 0) ≡ false
    → address_at bytes at ≡ Ok (n, at + length (address n))
unfolding address_at
address_reads bytes tail at n e small h =
    let a = n / 16777216 in
    let b = n / 65536 % 256 in
    let c = n / 256 % 256 in
    let d = n % 256 in
    let r3 = decimal d ++ tail in
    let r2 = decimal c ++ 46 ∷ r3 in
    let r1 = decimal b ++ 46 ∷ r2 in
    let d0 : drop at bytes ≡ decimal a ++ 46 ∷ r1 = e ∙ simp append_assoc in
    let d1 = drop_from bytes (decimal a) (46 ∷ r1) at d0 in
    let d2 = dot_then bytes r1 _ d1 in
    let d3 = drop_from bytes (decimal b) (46 ∷ r2) _ d2 in
    let d4 = dot_then bytes r2 _ d3 in
    let d5 = drop_from bytes (decimal c) (46 ∷ r3) _ d4 in
    let d6 = dot_then bytes r3 _ d5 in
    let h1 = number_reads bytes (46 ∷ r1) at 255 a d0 (omega arith) (omega arith) refl in
    let h2 = mark_reads bytes r1 _ 46 d1 in
    let h3 = number_reads bytes (46 ∷ r2) _ 255 b d2 (omega arith) (omega arith) refl in
    let h4 = mark_reads bytes r2 _ 46 d3 in
    let h5 = number_reads bytes (46 ∷ r3) _ 255 c d4 (omega arith) (omega arith) refl in
    let h6 = mark_reads bytes r3 _ 46 d5 in
    let h7 = number_reads bytes tail _ 255 d d6 (omega arith) (omega arith) h in
    bind-Ok _ _ _ _ h1
    (bind-Ok _ _ _ _ h2
    (bind-Ok _ _ _ _ h3
    (bind-Ok _ _ _ _ h4
    (bind-Ok _ _ _ _ h5
    (bind-Ok _ _ _ _ h6 (bind-Ok _ _ _ _ h7 (pair_of _ _ n _ (octets_of n) (ends at a b c d))))))))
