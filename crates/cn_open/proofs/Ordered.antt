-- Lists whose elements stand above those before them: those of the same elements are one list.
use Rattle.std.proofs.Common.{◌≡◌, ℕ, zero, suc, ◌<◌, ◌⊎◌, inl, inr, List, [], ◌∷◌, length, get_or, Less, Greater, refl, sym, ap, subst, ◌∙◌, arith}
use Rattle.std.specs.Prelude.{Contains}
use Rattle.std.specs.List.Sorted.{IsPermutation}
use Rattle.std.specs.Ordering.{on, ordering_reverse}
use Rattle.std.specs.declared.cmp.Ordering.{Ordering}
use Rattle.std.proofs.lemmas.List.Sorted.{Contains-permutation, IsPermutation-sym}
use Rattle.std.proofs.lemmas.Map.Keys.{Less-from_sorted}
use Rattle.cn_record.specs.Rows.{AscendsByPair, pair_cmp}
use Rattle.cn_record.specs.declared.saved.Row.{Row}
use Rattle.cn_record.proofs.Pairs.{pair_cmp_total, pair_of}

-- an order in which nothing is both below and above
module _ {X : Type 0} (c : X → X → Ordering)
    (one_way : (x y : X) → c x y ≡ Less → c y x ≡ Less → ⊥) where
  -- each element stands above those before it
  abbrev Ascends : List X → Type 0
  Ascends xs =
      (i j : ℕ) (d : X) → i < j → j < length xs → c (get_or xs i d) (get_or xs j d) ≡ Less

  tail_up : (x : X) (xs : List X) → Ascends (x ∷ xs) → Ascends xs
  tail_up x xs up i j d lt within = up (suc i) (suc j) d (omega (arith, lt)) (omega (arith, within))

  above_first : (x : X) (xs : List X) (y : X) → Ascends (x ∷ xs) → Contains xs y → c x y ≡ Less
  above_first x xs y up (k, lt, is) =
      subst (λ z. c x z ≡ Less) is (up 0 (suc k) y (omega arith) (omega (arith, lt)))

  first_or : (x : X) (xs : List X) (y : X) → Contains (x ∷ xs) y → (x ≡ y) ⊎ Contains xs y
  first_or x xs y (zero, lt, is) = inl is
  first_or x xs y (suc k, lt, is) = inr (k, omega (arith, lt), is)

  same_first : (x y : X) (xs ys : List X) → Ascends (x ∷ xs) → Ascends (y ∷ ys)
      → Contains (y ∷ ys) x → Contains (x ∷ xs) y → x ≡ y
  same_first x y xs ys up up' f g =
      elim (first_or y ys x f) [
        | inl e ↦ sym e
        | inr later ↦ elim (first_or x xs y g) [
          | inl e ↦ e
          | inr too ↦
              absurd (one_way x y (above_first x xs y up too) (above_first y ys x up' later))
        ]
      ]

  tail_only : (x y : X) (xs ys : List X) (d : X) → x ≡ y → Ascends (x ∷ xs) → Contains xs d
      → Contains (y ∷ ys) d → Contains ys d
  tail_only x y xs ys d first up here there =
      elim (first_or y ys d there) [
        | inl e ↦
            let self : c x x ≡ Less =
            subst (λ z. c x z ≡ Less) (sym (first ∙ e)) (above_first x xs d up here) in
            absurd (one_way x x self self)
        | inr later ↦ later
      ]

  behind : (x : X) (xs : List X) (d : X) → Contains xs d → Contains (x ∷ xs) d
  behind x xs d (k, lt, is) = (suc k, omega (arith, lt), is)

  same_elements : (xs ys : List X) → Ascends xs → Ascends ys
      → ((d : X) → Contains xs d → Contains ys d) → ((d : X) → Contains ys d → Contains xs d)
      → xs ≡ ys
  same_elements [] [] up up' f g = refl
  same_elements [] (y ∷ ys) up up' f g =
      let at = g y (0, omega arith, refl) in absurd (omega (arith, at.1))
  same_elements (x ∷ xs) [] up up' f g =
      let at = f x (0, omega arith, refl) in absurd (omega (arith, at.1))
  same_elements (x ∷ xs) (y ∷ ys) up up' f g =
      let first =
      same_first x y xs ys up up' (f x (0, omega arith, refl)) (g y (0, omega arith, refl)) in
      let others =
      same_elements xs ys (tail_up x xs up) (tail_up y ys up')
      (λ d h. tail_only x y xs ys d first up h (f d (behind x xs d h)))
      (λ d h. tail_only y x ys xs d (sym first) up' h (g d (behind y ys d h))) in
      λ i. first i ∷ others i

-- ---- rows

rows_one_way : (x y : Row) → on pair_of pair_cmp x y ≡ Less → on pair_of pair_cmp y x ≡ Less → ⊥
rows_one_way x y h k =
    let e : Less ≡ Greater =
    sym h ∙ pair_cmp_total.antisymm (pair_of x) (pair_of y) ∙ ap ordering_reverse k in
    absurd cc

-- the same rows by device and then by prefix are one list
pub rows_one : (rows xs ys : List Row) → IsPermutation rows xs → IsPermutation rows ys
    → AscendsByPair xs → AscendsByPair ys → xs ≡ ys
rows_one rows xs ys moved moved' up up' =
    same_elements (on pair_of pair_cmp) rows_one_way xs ys
    (λ i j d lt within. Less-from_sorted (on pair_of pair_cmp) xs i j d up lt within)
    (λ i j d lt within. Less-from_sorted (on pair_of pair_cmp) ys i j d up' lt within)
    (λ d h. Contains-permutation rows ys d moved'
    (Contains-permutation xs rows d (IsPermutation-sym rows xs moved) h))
    (λ d h. Contains-permutation rows xs d moved
    (Contains-permutation ys rows d (IsPermutation-sym rows ys moved') h))
