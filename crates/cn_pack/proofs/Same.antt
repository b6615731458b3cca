-- The tests for equal paths and ORIGINs.
use Rattle.std.proofs.Common.{◌≡◌, ◌↔◌, true, List, [], ◌∷◌, Option, Some, None, refl, sym, ap, ◌∙◌}
use Rattle.std.specs.Prelude.{◌==◌}
use Rattle.std.proofs.lemmas.Bool.{and_from, and_parts, eqb-true, eq-eqb}
use Rattle.cn_base.specs.Rank.{origin_code}
use Rattle.cn_base.specs.declared.ids.Asn.{Asn}
use Rattle.cn_base.specs.declared.ids.Origin.{Origin}
use Rattle.cn_base.specs.declared.ids.Origin.TheVariants.{Igp, Egp, Incomplete}
use Rattle.cn_pack.specs.declared.owed.Owed.{Owed}
use Rattle.cn_pack.specs.Packing.{same_numbers, is_same, wants}

number_is : (a b : Asn) → a.0 ≡ b.0 → a ≡ b
number_is a b e = λ i. record { 0 = e i }

numbers_are : (p q : List Asn) → same_numbers p q ≡ true → p ≡ q
numbers_are [] [] e = refl
numbers_are [] (b ∷ q) e = absurd cc
numbers_are (a ∷ p) [] e = absurd cc
numbers_are (a ∷ p) (b ∷ q) e =
    let h = and_parts (a.0 == b.0) (same_numbers p q) e in
    ap (λ (x : Asn). x ∷ p) (number_is a b (eqb-true _ _ h.0))
    ∙ ap (λ (xs : List Asn). b ∷ xs) (numbers_are p q h.1)

numbers_same : (p : List Asn) → same_numbers p p ≡ true
numbers_same [] = refl
numbers_same (a ∷ p) =
    and_from (a.0 == a.0) (same_numbers p p) (eq-eqb a.0 a.0 refl) (numbers_same p)

origin_is : (o o' : Origin) → (origin_code o == origin_code o') ≡ true → o ≡ o'
origin_is Igp Igp e = refl
origin_is Igp Egp e = absurd cc
origin_is Igp Incomplete e = absurd cc
origin_is Egp Igp e = absurd cc
origin_is Egp Egp e = refl
origin_is Egp Incomplete e = absurd cc
origin_is Incomplete Igp e = absurd cc
origin_is Incomplete Egp e = absurd cc
origin_is Incomplete Incomplete e = refl

abbrev wanted : List Asn → Origin → Option (List Asn × Origin)
wanted path origin = Some (path, origin)

pair_is : (p q : List Asn) (o o' : Origin) → p ≡ q → o ≡ o' → wanted q o' ≡ wanted p o
pair_is p q o o' e f = sym (ap (λ (x : List Asn). wanted x o) e ∙ ap (λ (x : Origin). wanted q x) f)

same_is : (path : List Asn) (origin : Origin) (w : Option (List Asn × Origin))
    → is_same path origin w ≡ true → w ≡ Some (path, origin)
same_is path origin None e = absurd cc
same_is path origin (Some w) e =
    let h = and_parts (same_numbers path w.0) (origin_code origin == origin_code w.1) e in
    pair_is path w.0 origin w.1 (numbers_are path w.0 h.0) (origin_is origin w.1 h.1)

is_same_itself : (path : List Asn) (origin : Origin)
    → is_same path origin (Some (path, origin)) ≡ true
is_same_itself path origin =
    and_from (same_numbers path path) (origin_code origin == origin_code origin) (numbers_same path)
    (eq-eqb (origin_code origin) (origin_code origin) refl)

-- the test for equal wishes tells whether they are equal
pub wants_is_equal : (path : List Asn) (origin : Origin) (owed : Owed)
    → (wants path origin owed ≡ true) ↔ (owed.wanted ≡ Some (path, origin))
wants_is_equal path origin owed =
    (same_is path origin owed.wanted, λ e. ap (is_same path origin) e ∙ is_same_itself path origin)
