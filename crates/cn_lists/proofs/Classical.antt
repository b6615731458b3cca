-- How what can't be missing goes together. Other crates may cite this module.
use Rattle.std.proofs.Common.{◌≡◌, ℕ, zero, suc, ◌+◌, ◌<◌, ◌≤◌, ◌⊎◌, Bool, true, false, List, [], ◌∷◌, length, Option, None, Some, slice_get, refl, sym, ◌∙◌, ap, subst, inl, inr, arith}
use Rattle.std.specs.Bool.{Decides}
use Rattle.std.proofs.lemmas.Bool.{cases_Bool, cases_lt, false≢true}
use Rattle.std.proofs.lemmas.Option.{none-some, same_Some}
use Rattle.cn_lists.specs.Classical.{Classically}

-- ---- one after the other

-- what is there isn't missing
pub given : {A : Type 0} → A → Classically A
given a missing = missing a

-- what follows from what can't be missing
pub and_then : {A B : Type 0} → Classically A → (A → Classically B) → Classically B
and_then a follows missing = a (λ x. follows x missing)

-- the same, where it is given outright
pub with_found : {A B : Type 0} → Classically A → (A → B) → Classically B
with_found a follows missing = a (λ x. missing (follows x))

-- what a test tells is there where it can't be missing
pub given_by_test : {A : Type 0} (test : Bool) → Decides test A → Classically A → A
given_by_test test decides a = elim (cases_Bool test) [
  | inl t ↦ decides.0 t
  | inr f ↦ absurd (a (λ x. false≢true (sym f ∙ decides.1 x)))
]

-- options that can't be apart are one, where this is so of what they have
pub same_option : {X : Type 0} → ((x y : X) → Classically (x ≡ y) → x ≡ y)
    → (o q : Option X) → Classically (o ≡ q) → o ≡ q
same_option same None None h = refl
same_option same None (Some y) h = absurd (h (none-some y))
same_option same (Some x) None h = absurd (h (λ e. none-some x (sym e)))
same_option same (Some x) (Some y) h = ap Some (same x y (with_found h (same_Some x y)))

-- everything is so or isn't
pub settled : (A : Type 0) → Classically (A ⊎ (A → ⊥))
settled A missing = missing (inr (λ a. missing (inl a)))

-- ---- numbers

-- of the numbers with a property, where one is given, one is the least
pub least_of : (P : ℕ → Type 0) (n k : ℕ) → k < n → P k
    → Classically ((m : ℕ) × P m × ((j : ℕ) → P j → m ≤ j))
least_of P zero k lt p = absurd (omega arith)
least_of P (suc n) k lt p =
    and_then (settled ((j : ℕ) × (j < k) × P j)) (λ found. elim found [
      | inl (j, under, q) ↦ least_of P n j (omega arith) q
      | inr none ↦ given (
        k,
        p,
        λ (j : ℕ) (q : P j). elim (cases_lt j k) [
          | inl under ↦ absurd (none (j, under, q))
          | inr over ↦ omega arith
        ],
      )
    ])

-- of what has a property, where something has it, something is least by a measure
pub least_by : {A : Type 0} (P : A → Type 0) (size : A → ℕ) (a : A) → P a
    → Classically ((m : A) × P m × ((b : A) → P b → size m ≤ size b))
least_by {A} P size a p =
    with_found (least_of Sized (size a + 1) (size a) (omega arith) (a, p, refl)) sized
  where
    Sized : ℕ → Type 0
    Sized k = (b : A) × P b × (size b ≡ k)

    sized : (k : ℕ) × Sized k × ((j : ℕ) → Sized j → k ≤ j)
        → (m : A) × P m × ((b : A) → P b → size m ≤ size b)
    sized (k, (m, p, e), low) =
        (m, p, λ b q. subst (λ k. k ≤ size b) (sym e) (low (size b) (b, q, refl)))

-- the same by two measures: by the second where the first doesn't tell
pub least_by_two : {A : Type 0} (P : A → Type 0) (size size' : A → ℕ) (a : A) → P a
    → Classically ((m : A) × P m
    × ((b : A) → P b → (size b < size m) ⊎ ((size b ≡ size m) × (size' b < size' m)) → ⊥))
least_by_two {A} P size size' a p =
    and_then (least_by P size a p) (λ low.
    with_found (least_by (λ b. P b × (size b ≡ size low.0)) size' low.0 (low.1, refl)) (λ m. (
      m.0,
      m.1.0,
      λ b q before. elim before [
        | inl under ↦ omega (arith, low.2 b q, m.1.1)
        | inr tied ↦ omega (arith, tied.1, m.2 b (q, tied.0 ∙ m.1.1))
      ],
    )))

-- a property of each number below n can't be missing at all of them, where at none it can
pub each_below : (P : ℕ → Type 0) (n : ℕ) → ((k : ℕ) → k < n → Classically (P k))
    → Classically ((k : ℕ) → k < n → P k)
each_below P zero each = given (λ k lt. absurd (omega arith))
each_below P (suc n) each =
    and_then (each_below P n (λ k lt. each k (omega arith))) (λ below.
    with_found (each n (omega arith)) (λ last k lt. elim (cases_lt k n) [
      | inl under ↦ below k under
      | inr over ↦ let e : k ≡ n = omega arith in subst P (sym e) last
    ]))

-- a test that tells of each number below n whether it has a property
pub record Tells (P : ℕ → Type 0) (n : ℕ) (test : ℕ → Bool) : Type 0 where
  pub so : (k : ℕ) → k < n → test k ≡ true → P k
  pub told : (k : ℕ) → k < n → P k → test k ≡ true

module _ {P : ℕ → Type 0} {n : ℕ} (known : (k : ℕ) → k < n → P k ⊎ (P k → ⊥)) where
  abbrev answer : {k : ℕ} → P k ⊎ (P k → ⊥) → Bool
  answer (inl p) = true
  answer (inr none) = false

  abbrev answered : (k : ℕ) → (k < n) ⊎ (n ≤ k) → Bool
  answered k (inl lt) = answer (known k lt)
  answered k (inr le) = false

  so_answer : {k : ℕ} (d : P k ⊎ (P k → ⊥)) → answer d ≡ true → P k
  so_answer (inl p) h = p
  so_answer (inr none) h = absurd (let e : false ≡ true = h in cc)

  so_answered : (k : ℕ) (c : (k < n) ⊎ (n ≤ k)) → answered k c ≡ true → P k
  so_answered k (inl lt) h = so_answer (known k lt) h
  so_answered k (inr le) h = absurd (let e : false ≡ true = h in cc)

  told_answer : {k : ℕ} (d : P k ⊎ (P k → ⊥)) → P k → answer d ≡ true
  told_answer (inl p) q = refl
  told_answer (inr none) q = absurd (none q)

  told_answered : (k : ℕ) (c : (k < n) ⊎ (n ≤ k)) → k < n → P k → answered k c ≡ true
  told_answered k (inl lt) under q = told_answer (known k lt) q
  told_answered k (inr le) under q = absurd (omega arith)

  test_known : (test : ℕ → Bool) × Tells P n test
  test_known = (
    λ k. answered k (cases_lt k n),
    record {
      so = λ k lt h. so_answered k (cases_lt k n) h;
      told = λ k lt q. told_answered k (cases_lt k n) lt q;
    },
  )

-- there is such a test
pub test_below : (P : ℕ → Type 0) (n : ℕ) → Classically ((test : ℕ → Bool) × Tells P n test)
test_below P n =
    with_found (each_below (λ k. P k ⊎ (P k → ⊥)) n (λ k lt. settled (P k))) test_known

-- ---- lists

-- there is a list of so many items with a property each, at its place, where none of them can be
-- missing
pub list_below : {B : Type 0} (P : ℕ → B → Type 0) (n : ℕ)
    → ((k : ℕ) → k < n → Classically ((b : B) × P k b))
    → Classically ((bs : List B) × (length bs ≡ n)
    × ((k : ℕ) → k < n → (b : B) × (slice_get bs k ≡ Some b) × P k b))
list_below P zero each = given ([], refl, λ k lt. absurd (omega arith))
list_below {B} P (suc n) each =
    and_then (each 0 (omega arith)) (λ first.
    with_found (list_below (λ k. P (suc k)) n (λ k lt. each (suc k) (omega arith)))
    (λ rest. (first.0 ∷ rest.0, ap suc rest.1, at first.0 first.1 rest.0 rest.2)))
  where
    at : (b : B) → P 0 b → (bs : List B)
        → ((k : ℕ) → k < n → (c : B) × (slice_get bs k ≡ Some c) × P (suc k) c)
        → (k : ℕ) → k < suc n → (c : B) × (slice_get (b ∷ bs) k ≡ Some c) × P k c
    at b p bs rest zero lt = (b, refl, p)
    at b p bs rest (suc k) lt = rest k (omega arith)
