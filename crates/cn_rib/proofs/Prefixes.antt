-- The order of prefixes.
use Rattle.std.proofs.Common.{◌≢◌, ◌⊎◌, false, inl, inr, refl, ◌≡◌, true, sym, ap, ◌∙◌, arith}
use Rattle.std.specs.Prelude.{◌&&◌}
use mathlib.Core.Bool.{true≢false}
use Rattle.std.specs.Cmp.{tied_then, unsigned_tied}
use Rattle.std.specs.FinMap.{IsAntisymmetric}
use Rattle.std.specs.Ordering.{eq_by_cmp, is_eq, nat_cmp}
use Rattle.std.proofs.lemmas.Bool.Decides.{nat_tests}
use Rattle.cn_base.specs.Cidr.{Cidr, same_prefix}
use Rattle.cn_base.specs.Table.{prefix_cmp}
pub use Rattle.cn_base.proofs.Lookups.{prefix_cmp_total}

-- the order ties just the prefixes that are the same
pub tied_is_same : (p q : Cidr) → eq_by_cmp prefix_cmp p q ≡ same_prefix p q
tied_is_same p q =
    sym (tied_then (nat_cmp p.bits q.bits) (nat_cmp p.len q.len))
    ∙ (λ i. unsigned_tied p.bits q.bits i && unsigned_tied p.len q.len i)

same_bits : (p q : Cidr) → same_prefix p q ≡ true → p.bits ≡ q.bits
same_bits p q e = grind (arith, nat_tests)

same_len : (p q : Cidr) → same_prefix p q ≡ true → p.len ≡ q.len
same_len p q e = grind (arith, nat_tests)

-- prefixes that the test calls the same are equal
pub same_is : (p q : Cidr) → same_prefix p q ≡ true → p ≡ q
same_is p q e = λ i. record { bits = same_bits p q e i; len = same_len p q e i }

-- prefixes that tie are equal
pub prefix_cmp-IsAntisymmetric : IsAntisymmetric prefix_cmp
prefix_cmp-IsAntisymmetric p q e = same_is p q (sym (tied_is_same p q) ∙ ap is_eq e)

-- ---- each prefix is the same as itself alone

-- a prefix is the same as itself
pub same_itself : (p : Cidr) → same_prefix p p ≡ true
same_itself p = grind (arith, nat_tests)

-- the test for the same prefix tells whether they are equal
pub same_tells : (p q : Cidr)
    → ((same_prefix p q ≡ true) × (p ≡ q)) ⊎ ((same_prefix p q ≡ false) × (p ≢ q))
same_tells p q =
    elim (same_prefix p q) as (λ t. same_prefix p q ≡ t
    → ((same_prefix p q ≡ true) × (p ≡ q)) ⊎ ((same_prefix p q ≡ false) × (p ≢ q))) [
      | true ↦ λ e. inl (e, same_is p q e)
      | false ↦
          λ e. inr (e, λ is. absurd (true≢false (sym (same_itself p) ∙ ap (same_prefix p) is ∙ e)))
    ] refl

-- the test for the same prefix has no sides
pub same_flip : (p q : Cidr) → same_prefix p q ≡ same_prefix q p
same_flip p q = grind (arith, nat_tests)

-- a prefix ties with itself
pub tied_itself : (p : Cidr) → eq_by_cmp prefix_cmp p p ≡ true
tied_itself p = tied_is_same p p ∙ same_itself p

-- prefixes that tie by the test are equal
pub tied : (p q : Cidr) → eq_by_cmp prefix_cmp p q ≡ true → p ≡ q
tied p q e = same_is p q (sym (tied_is_same p q) ∙ e)
