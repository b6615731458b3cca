-- What a search by halving finds among items whose keys ascend. Other crates may cite this module.
use Rattle.std.proofs.Common.{◌≡◌, ℕ, ◌+◌, ◌<◌, ◌↔◌, Bool, true, false, IsTrue, List, [], ◌∷◌, length, get_or, Result, Ok, Err, Some, None, Ordering, Less, Equal, Greater, find, refl, sym, ap, ◌∙◌, inl, inr, arith}
use Rattle.std.specs.Cmp.{IsTotalOrder}
use Rattle.std.specs.List.{All, AllPairs, position, IsAllAdjacentAnswer}
use Rattle.std.specs.List.Sorted.{IsBinarySearchResult, IsNonDecreasingBy, IsPartitionPoint, IsSearchInRange, IsStrictlySortedBy}
use Rattle.std.specs.Result.{result_ok}
use Rattle.std.specs.Ordering.{is_eq, is_lt, on, ordering_index}
use Rattle.std.proofs.lemmas.Bool.{cases_lt}
use Rattle.std.proofs.lemmas.Cmp.{on_total}
use Rattle.std.proofs.lemmas.List.Sorted.{searchable_from_sorted}
use Rattle.std.proofs.lemmas.Map.Keys.{Less-from_sorted, sorted_from_all_adjacent}
use Rattle.cn_lists.proofs.Finding.{find-first, find-none, position-first, position-none}
use Rattle.cn_lists.proofs.Order.{IsSortedByKey-from_pairs, Less-before_tied, Less-from_is_lt}

module _ {K : Type 0} {R : K → K → Ordering} (o : IsTotalOrder R) {X : Type 0} (key : X → K)
    (xs : List X) (k : K) where
  -- a search among items that ascend has what it asks for
  pub IsNonDecreasingBy-from_pairs : AllPairs (λ x y. R (key x) (key y) ≡ Less) xs
      → IsNonDecreasingBy (λ x. ordering_index (R (key x) k)) xs
  IsNonDecreasingBy-from_pairs up =
      searchable_from_sorted o key xs k (IsSortedByKey-from_pairs o key xs up)

  module _ (p : X → Bool) (tests : (x : X) → p x ≡ is_eq (R (key x) k))
      (up : AllPairs (λ x y. R (key x) (key y) ≡ Less) xs) where
    earlier_fail : (i : ℕ) (d : X) → i < length xs → R (key (get_or xs i d)) k ≡ Equal → (j : ℕ)
        → j < i → p (get_or xs j d) ≡ false
    earlier_fail i d inside here j lt =
        tests (get_or xs j d)
        ∙ ap is_eq
        (Less-before_tied o (key (get_or xs j d)) (key (get_or xs i d)) k (up j i d lt inside) here)

    -- the place that a search gave holds what is found
    pub find-searched : (i : ℕ) (d : X) → i < length xs → R (key (get_or xs i d)) k ≡ Equal
        → find p xs ≡ Some (get_or xs i d)
    find-searched i d inside here =
        find-first p xs i d inside (earlier_fail i d inside here)
        (tests (get_or xs i d) ∙ ap is_eq here)

    -- the place that a search gave is the first that passes
    pub position-searched : (i : ℕ) → i < length xs → ((d : X) → R (key (get_or xs i d)) k ≡ Equal)
        → position p xs ≡ Some i
    position-searched i inside here =
        position-first p xs i inside (λ d. earlier_fail i d inside (here d))
        (λ d. tests (get_or xs i d) ∙ ap is_eq (here d))

    module _ (i : ℕ) (parted : IsNonDecreasingBy (λ x. ordering_index (R (key x) k)) xs
        → IsPartitionPoint (λ x. R (key x) k ≡ Less) (λ x. R (key x) k ≡ Greater) xs i) where
      -- no item passes where a search gave no place
      pub All-missed : All (λ x. p x ≡ false) xs
      All-missed j d within =
          let parts = parted (IsNonDecreasingBy-from_pairs up) in
          elim (cases_lt j i) [
            | inl low ↦ tests (get_or xs j d) ∙ ap is_eq (parts.0 j d (omega arith) low)
            | inr high ↦ tests (get_or xs j d) ∙ ap is_eq (parts.1 j d high within)
          ]

      -- nothing is found where a search gave no place
      pub find-missed : find p xs ≡ None
      find-missed = find-none p xs All-missed

      -- and no place passes
      pub position-missed : position p xs ≡ None
      position-missed = position-none p xs All-missed

    -- what a search answers is the place of what is found, if there is one
    pub position-answered : (r : Result ℕ ℕ) → IsSearchInRange r (length xs)
        → IsBinarySearchResult (λ x. R (key x) k) xs r → position p xs ≡ result_ok r
    position-answered (Ok i) within here = position-searched i within here
    position-answered (Err i) within parted = position-missed i parted

module _ {K : Type 0} {R : K → K → Ordering} (o : IsTotalOrder R) {X : Type 0} (key : X → K) where
  -- a test of neighbours tells whether a list ascends
  pub IsStrictlySortedBy-tested : (xs : List X) (r : Bool)
      → IsAllAdjacentAnswer (λ x y b. b ≡ is_lt (R (key x) (key y))) xs r
      → IsTrue r ↔ IsStrictlySortedBy (on key R) xs
  unfolding IsStrictlySortedBy
  IsStrictlySortedBy-tested [] true h = (λ _. tt, λ _. refl)
  IsStrictlySortedBy-tested [] false h = absurd (omega (arith, h.1))
  IsStrictlySortedBy-tested (x ∷ xs) true h = (
    λ _. sorted_from_all_adjacent (on_total key o) (x ∷ xs) x
        (λ i lt. Less-from_is_lt _ (sym (h i x lt))),
    λ _. refl,
  )
  IsStrictlySortedBy-tested (x ∷ xs) false h = (
    λ t. cc,
    λ up.
        let less = Less-from_sorted (on key R) (x ∷ xs) h.0 (h.0 + 1) x up (omega arith) h.1 in
        absurd (let no : false ≡ true = h.2 x ∙ ap is_lt less in cc),
  )
