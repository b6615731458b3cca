-- Rows in another order say the same, where no device and prefix has two of them.
use Rattle.std.proofs.Common.{◌≡◌, ℕ, zero, suc, ◌<◌, inl, inr, Bool, true, cond, List, [], ◌∷◌, Option, Some, None, option_map, refl, sym, ap, subst, ◌∙◌, arith}
use Rattle.std.specs.Prelude.{Contains, count_by}
use Rattle.std.specs.List.{find}
use Rattle.std.specs.List.Sorted.{IsPermutation}
use Rattle.std.proofs.lemmas.Bool.{cases_Bool, cases_lt, cond-false, cond-true}
use Rattle.std.proofs.lemmas.List.Sorted.{Contains-permutation, IsPermutation-sym}
use Rattle.std.proofs.lemmas.List.Sums.{sum_by-cons}
use Rattle.std.proofs.lemmas.Option.{none-some, same_Some}
use Rattle.cn_base.specs.Cidr.{Cidr}
use Rattle.cn_base.specs.declared.ids.DeviceId.{DeviceId}
use Rattle.cn_record.specs.Rows.{IsRepeated, is_row, row_for}
use Rattle.cn_record.specs.declared.saved.Row.{Row}

-- ---- a search among elements of which at most one passes

module _ {X : Type 0} (t : X → Bool) where
  found_there : (xs : List X) (x : X) → find t xs ≡ Some x → Contains xs x × (t x ≡ true)
  found_there [] x e = absurd (none-some x e)
  found_there (y ∷ ys) x e =
      elim (cases_Bool (t y)) [
        | inl passes ↦
            let same : y ≡ x =
            same_Some y x (sym (cond-true (t y) (Some y) (find t ys) passes) ∙ e) in
            ((0, omega arith, same), subst (λ z. t z ≡ true) same passes)
        | inr fails ↦
            let more = found_there ys x (sym (cond-false (t y) (Some y) (find t ys) fails) ∙ e) in
            let at = more.0 in
            ((suc at.0, omega (arith, at.1), at.2), more.1)
      ]

  found_nowhere : (xs : List X) (x : X) → find t xs ≡ None → Contains xs x → t x ≡ true → ⊥
  found_nowhere [] x e (k, lt, is) passes = omega (arith, lt)
  found_nowhere (y ∷ ys) x e (zero, lt, is) passes =
      none-some y (sym e ∙ cond-true (t y) (Some y) (find t ys) (ap t is ∙ passes))
  found_nowhere (y ∷ ys) x e (suc k, lt, is) passes =
      elim (cases_Bool (t y)) [
        | inl first ↦ none-some y (sym e ∙ cond-true (t y) (Some y) (find t ys) first)
        | inr fails ↦
            found_nowhere ys x (sym (cond-false (t y) (Some y) (find t ys) fails) ∙ e)
            (k, omega (arith, lt), is) passes
      ]

  counted : (xs : List X) (x : X) → Contains xs x → t x ≡ true → 0 < count_by t xs
  counted [] x (k, lt, is) passes = absurd (omega (arith, lt))
  counted (y ∷ ys) x (zero, lt, is) passes =
      let one : ◌≡◌ {A = ℕ} (cond (t y) 1 0) 1 = cond-true (t y) 1 0 (ap t is ∙ passes) in
      omega (arith, sum_by-cons (λ z. cond (t z) 1 0) y ys, one)
  counted (y ∷ ys) x (suc k, lt, is) passes =
      let more = counted ys x (k, omega (arith, lt), is) passes in
      omega (arith, sum_by-cons (λ z. cond (t z) 1 0) y ys, more)

  -- two elements that pass are one
  only_one : (xs : List X) (x z : X) → count_by t xs < 2 → Contains xs x → Contains xs z
      → t x ≡ true → t z ≡ true → x ≡ z
  only_one [] x z few (k, lt, is) there passes passes' = absurd (omega (arith, lt))
  only_one (y ∷ ys) x z few (zero, lt, is) (zero, lt', is') passes passes' = sym is ∙ is'
  only_one (y ∷ ys) x z few (zero, lt, is) (suc k, lt', is') passes passes' =
      let one : ◌≡◌ {A = ℕ} (cond (t y) 1 0) 1 = cond-true (t y) 1 0 (ap t is ∙ passes) in
      absurd (omega (
        arith,
        few,
        sum_by-cons (λ w. cond (t w) 1 0) y ys,
        one,
        counted ys z (k, omega (arith, lt'), is') passes',
      ))
  only_one (y ∷ ys) x z few (suc k, lt, is) (zero, lt', is') passes passes' =
      let one : ◌≡◌ {A = ℕ} (cond (t y) 1 0) 1 = cond-true (t y) 1 0 (ap t is' ∙ passes') in
      absurd (omega (
        arith,
        few,
        sum_by-cons (λ w. cond (t w) 1 0) y ys,
        one,
        counted ys x (k, omega (arith, lt), is) passes,
      ))
  only_one (y ∷ ys) x z few (suc k, lt, is) (suc j, lt', is') passes passes' =
      only_one ys x z (omega (arith, few, sum_by-cons (λ w. cond (t w) 1 0) y ys))
      (k, omega (arith, lt), is) (j, omega (arith, lt'), is') passes passes'

  same_found : (xs ys : List X) → IsPermutation xs ys → count_by t xs < 2 → (o q : Option X)
      → find t xs ≡ o → find t ys ≡ q → o ≡ q
  same_found xs ys moved few None None e f = refl
  same_found xs ys moved few None (Some y) e f =
      let at = found_there ys y f in
      absurd (found_nowhere xs y e
      (Contains-permutation ys xs y (IsPermutation-sym xs ys moved) at.0) at.1)
  same_found xs ys moved few (Some x) None e f =
      let at = found_there xs x e in
      absurd (found_nowhere ys x f (Contains-permutation xs ys x moved at.0) at.1)
  same_found xs ys moved few (Some x) (Some y) e f =
      let at = found_there xs x e in
      let to = found_there ys y f in
      ap Some (only_one xs x y few at.0
      (Contains-permutation ys xs y (IsPermutation-sym xs ys moved) to.0) at.1 to.1)

-- ---- rows

pub same_rows : (rows saved : List Row) → IsPermutation rows saved
    → ((d : DeviceId) (p : Cidr) → IsRepeated rows d p → ⊥) → row_for saved ≡ row_for rows
same_rows rows saved moved once =
    λ i d p.
    let t = is_row d p in
    let few : count_by t rows < 2 =
    elim (cases_lt (count_by t rows) 2) [ inl lt ↦ lt | inr le ↦ absurd (once d p le) ] in
    option_map (λ (r : Row). r.choice)
    (sym (same_found t rows saved moved few (find t rows) (find t saved) refl refl) i)
