-- The items of a list can be put in order. Other crates may cite this module.
use Rattle.std.proofs.Common.{◌≡◌, ℕ, zero, suc, ◌+◌, Bool, true, false, cond, inl, inr, List, [], ◌∷◌, get_or, Ordering, sym, subst, arith}
use Rattle.std.specs.Cmp.{IsTotalOrder}
use Rattle.std.specs.List.Sorted.{IsPermutation, IsSortedByKey}
use Rattle.std.specs.Ordering.{is_lt}
use Rattle.std.proofs.lemmas.Bool.{cases_Bool, cond-false, cond-true}
use Rattle.std.proofs.lemmas.List.Sorted.{IsPermutation-cons, IsPermutation-middle, IsPermutation-refl, IsPermutation-sym, IsPermutation-trans}
use Rattle.cn_lists.proofs.Order.{Less-from_is_lt, is_lt-flipped}

module _ {X K : Type 0} {R : K → K → Ordering} (o : IsTotalOrder R) (key : X → K) where
  abbrev below : X → X → Bool
  below x y = is_lt (R (key x) (key y))

  -- the first of these items isn't below x
  abbrev NoneBelow : X → List X → Type 0
  NoneBelow x [] = Unit {0}
  NoneBelow x (y ∷ ys) = below y x ≡ false

  abbrev IsUp : List X → Type 0
  IsUp [] = Unit {0}
  IsUp (x ∷ xs) = NoneBelow x xs × IsUp xs

  -- x in its place
  abbrev placed : X → List X → List X
  placed x [] = x ∷ []
  placed x (y ∷ ys) = cond (below y x) (y ∷ placed x ys) (x ∷ y ∷ ys)

  abbrev in_order : List X → List X
  in_order [] = []
  in_order (x ∷ xs) = placed x (in_order xs)

  placed-behind : (x y : X) (ys : List X) → below y x ≡ true
      → placed x (y ∷ ys) ≡ y ∷ placed x ys
  placed-behind x y ys t = cond-true (below y x) (y ∷ placed x ys) (x ∷ y ∷ ys) t

  placed-first : (x y : X) (ys : List X) → below y x ≡ false → placed x (y ∷ ys) ≡ x ∷ y ∷ ys
  placed-first x y ys f = cond-false (below y x) (y ∷ placed x ys) (x ∷ y ∷ ys) f

  NoneBelow-placed : (y x : X) (ys : List X) → below x y ≡ false → NoneBelow y ys
      → NoneBelow y (placed x ys)
  NoneBelow-placed y x [] low h = low
  NoneBelow-placed y x (z ∷ zs) low h =
      elim (cases_Bool (below z x)) [
        | inl t ↦ subst (NoneBelow y) (sym (placed-behind x z zs t)) h
        | inr f ↦ subst (NoneBelow y) (sym (placed-first x z zs f)) low
      ]

  IsUp-placed : (x : X) (ys : List X) → IsUp ys → IsUp (placed x ys)
  IsUp-placed x [] up = (tt, tt)
  IsUp-placed x (y ∷ ys) up =
      elim (cases_Bool (below y x)) [
        | inl t ↦
            subst IsUp (sym (placed-behind x y ys t)) (
              NoneBelow-placed y x ys
                  (is_lt-flipped o (key y) (key x) (Less-from_is_lt (R (key y) (key x)) t)) up.0,
              IsUp-placed x ys up.1,
            )
        | inr f ↦ subst IsUp (sym (placed-first x y ys f)) (f, up)
      ]

  IsUp-in_order : (xs : List X) → IsUp (in_order xs)
  IsUp-in_order [] = tt
  IsUp-in_order (x ∷ xs) = IsUp-placed x (in_order xs) (IsUp-in_order xs)

  IsPermutation-placed : (x : X) (ys : List X) → IsPermutation (x ∷ ys) (placed x ys)
  IsPermutation-placed x [] = IsPermutation-refl (x ∷ [])
  IsPermutation-placed x (y ∷ ys) =
      elim (cases_Bool (below y x)) [
        | inl t ↦
            subst (IsPermutation (x ∷ y ∷ ys)) (sym (placed-behind x y ys t))
            (IsPermutation-trans (x ∷ y ∷ ys) (y ∷ x ∷ ys) (y ∷ placed x ys)
            (IsPermutation-sym (y ∷ x ∷ ys) (x ∷ y ∷ ys) (IsPermutation-middle (y ∷ []) x ys))
            (IsPermutation-cons y (x ∷ ys) (placed x ys) (IsPermutation-placed x ys)))
        | inr f ↦
            subst (IsPermutation (x ∷ y ∷ ys)) (sym (placed-first x y ys f))
            (IsPermutation-refl (x ∷ y ∷ ys))
      ]

  IsPermutation-in_order : (xs : List X) → IsPermutation xs (in_order xs)
  IsPermutation-in_order [] = IsPermutation-refl []
  IsPermutation-in_order (x ∷ xs) =
      IsPermutation-trans (x ∷ xs) (x ∷ in_order xs) (placed x (in_order xs))
      (IsPermutation-cons x xs (in_order xs) (IsPermutation-in_order xs))
      (IsPermutation-placed x (in_order xs))

  IsSortedByKey-up : (xs : List X) → IsUp xs → IsSortedByKey key R xs
  IsSortedByKey-up [] up k d low within = absurd (omega (arith, within))
  IsSortedByKey-up (x ∷ []) up k d low within = absurd (omega (arith, within))
  IsSortedByKey-up (x ∷ y ∷ ys) up zero d low within = up.0
  IsSortedByKey-up (x ∷ y ∷ ys) up (suc k) d low within =
      let next : suc (k + 1) ≡ suc k + 1 = omega arith in
      subst (λ (n : ℕ). below (get_or (x ∷ y ∷ ys) n d) (get_or (y ∷ ys) k d) ≡ false) next
      (IsSortedByKey-up (y ∷ ys) up.1 k d (omega arith) (omega (arith, within)))

  -- a list's items, sorted by a key
  pub sorted_there : (xs : List X) → (ys : List X) × IsPermutation xs ys × IsSortedByKey key R ys
  sorted_there xs =
      (in_order xs, IsPermutation-in_order xs, IsSortedByKey-up (in_order xs) (IsUp-in_order xs))
