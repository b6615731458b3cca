-- What a search finds among rows whose prefixes ascend.
use Rattle.std.proofs.Common.{◌≡◌, ℕ, zero, suc, ◌+◌, ◌<◌, ◌≤◌, ◌↔◌, Bool, true, false, IsTrue, List, [], ◌∷◌, length, get_or, Some, None, Less, Equal, Greater, refl, sym, ap, ◌∙◌, inl, inr, arith}
use Rattle.std.specs.Cmp.{IsTotalOrder}
use Rattle.std.specs.List.{IsAllAdjacentAnswer, find}
use Rattle.std.specs.List.Sorted.{IsNonDecreasingBy, IsPartitionPoint, IsSortedBy, IsStrictlySortedBy}
use Rattle.std.specs.Option.{option_map}
use Rattle.std.specs.Ordering.{is_lt, on, ordering_index, ordering_reverse}
use Rattle.std.specs.declared.cmp.Ordering.{Ordering}
use Rattle.std.proofs.lemmas.Bool.{cases_lt}
use Rattle.std.proofs.lemmas.Bool.Decides.{nat_tests}
use Rattle.std.proofs.lemmas.Cmp.{nat_cmp_total, on_total, then_total}
use Rattle.std.proofs.lemmas.List.Sorted.{searchable_from_sorted}
use Rattle.std.proofs.lemmas.Map.Keys.{Less-from_sorted, sorted_from_all_adjacent}
use Rattle.cn_base.specs.Cidr.{Cidr, same_prefix}
use Rattle.cn_base.specs.Table.{AscendsByPrefix, choice_for, prefix_cmp}
use Rattle.cn_base.specs.declared.table.TableRow.{TableRow}

-- ---- the order of prefixes

pub prefix_cmp_total : IsTotalOrder prefix_cmp
prefix_cmp_total =
    then_total (on_total (λ (p : Cidr). p.bits) nat_cmp_total)
    (on_total (λ (p : Cidr). p.len) nat_cmp_total)

below_differs : (p q : Cidr) → prefix_cmp p q ≡ Less → same_prefix p q ≡ false
below_differs p q h = grind (arith, nat_tests)

above_differs : (p q : Cidr) → prefix_cmp p q ≡ Greater → same_prefix p q ≡ false
above_differs p q h = grind (arith, nat_tests)

equal_is_same : (p q : Cidr) → prefix_cmp p q ≡ Equal → same_prefix p q ≡ true
equal_is_same p q h = grind (arith, nat_tests)

-- nothing is both below and above
not_fallen : (p q : Cidr) → prefix_cmp p q ≡ Less → is_lt (prefix_cmp q p) ≡ false
not_fallen p q h = ap is_lt (prefix_cmp_total.antisymm q p) ∙ ap (λ o. is_lt (ordering_reverse o)) h

below_equal : (p q r : Cidr) → prefix_cmp p q ≡ Less → prefix_cmp q r ≡ Equal
    → prefix_cmp p r ≡ Less
below_equal p q r less equal =
    prefix_cmp_total.antisymm p r ∙ ap ordering_reverse (sym (prefix_cmp_total.congr q r p equal))
    ∙ sym (prefix_cmp_total.antisymm p q) ∙ less

-- ---- what `find` gives

find_none : {X : Type 0} (p : X → Bool) (xs : List X)
    → ((k : ℕ) (d : X) → k < length xs → p (get_or xs k d) ≡ false) → find p xs ≡ None
find_none p [] fails = refl
find_none p (x ∷ xs) fails =
    rw (fails 0 x (omega arith)) (find_none p xs (λ k d lt. fails (suc k) d (omega arith)))

find_first : {X : Type 0} (p : X → Bool) (xs : List X) (i : ℕ) (d : X) → i < length xs
    → ((k : ℕ) → k < i → p (get_or xs k d) ≡ false) → p (get_or xs i d) ≡ true
    → find p xs ≡ Some (get_or xs i d)
find_first p [] i d inside before here = absurd (omega arith)
find_first p (x ∷ xs) zero d inside before here = rw here
find_first p (x ∷ xs) (suc i) d inside before here =
    rw (before 0 (omega arith))
    (find_first p xs i d (omega arith) (λ k lt. before (suc k) (omega arith)) here)

-- ---- what a table has

module _ (rows : List TableRow) (p : Cidr) (up : AscendsByPrefix rows) where
  pub found_at : (i : ℕ) (d : TableRow) → i < length rows
      → prefix_cmp (get_or rows i d).prefix p ≡ Equal
      → choice_for rows p ≡ Some (get_or rows i d).choice
  found_at i d inside here =
      let rises =
      λ (k : ℕ) (lt : k < i).
      Less-from_sorted (on (λ (r : TableRow). r.prefix) prefix_cmp) rows k i d up lt inside in
      let before =
      λ (k : ℕ) (lt : k < i). below_differs (get_or rows k d).prefix p
      (below_equal (get_or rows k d).prefix (get_or rows i d).prefix p (rises k lt) here) in
      ap (option_map (λ (r : TableRow). r.choice))
      (find_first (λ (r : TableRow). same_prefix r.prefix p) rows i d inside before
      (equal_is_same (get_or rows i d).prefix p here))

  pub found_nowhere : (i : ℕ) → i ≤ length rows
      → (IsNonDecreasingBy (λ y. ordering_index (prefix_cmp y.prefix p)) rows
      → IsPartitionPoint (λ y. prefix_cmp y.prefix p ≡ Less) (λ y. prefix_cmp y.prefix p ≡ Greater)
      rows i) → choice_for rows p ≡ None
  found_nowhere i inside parted =
      let sorted : IsSortedBy (λ a b. is_lt (prefix_cmp a.prefix b.prefix)) rows =
      λ k d low within. not_fallen (get_or rows k d).prefix (get_or rows (k + 1) d).prefix
      (Less-from_sorted (on (λ (r : TableRow). r.prefix) prefix_cmp) rows k (k + 1) d up
      (omega arith) within) in
      let parts =
      parted (searchable_from_sorted prefix_cmp_total (λ (r : TableRow). r.prefix) rows p sorted) in
      let differs : (k : ℕ) (d : TableRow) → k < length rows
      → same_prefix (get_or rows k d).prefix p ≡ false =
      λ k d within. elim (cases_lt k i) [
        | inl low ↦ below_differs (get_or rows k d).prefix p (parts.0 k d (omega arith) low)
        | inr high ↦ above_differs (get_or rows k d).prefix p (parts.1 k d high within)
      ] in
      ap (option_map (λ (r : TableRow). r.choice))
      (find_none (λ (r : TableRow). same_prefix r.prefix p) rows differs)

-- ---- the test of the order

less_from_test : (o : Ordering) → is_lt o ≡ true → o ≡ Less
less_from_test Less h = refl
less_from_test Equal h = cc
less_from_test Greater h = cc

pub tested : (rows : List TableRow) (r : Bool)
    → IsAllAdjacentAnswer (λ x y b. b ≡ is_lt (prefix_cmp x.prefix y.prefix)) rows r
    → IsTrue r ↔ AscendsByPrefix rows
unfolding IsStrictlySortedBy
tested [] true h = (λ _. tt, λ _. refl)
tested [] false h = absurd (omega (arith, h.1))
tested (x ∷ xs) true h = (
  λ _. sorted_from_all_adjacent (on_total (λ (r : TableRow). r.prefix) prefix_cmp_total) (x ∷ xs) x
      (λ k lt. less_from_test _ (sym (h k x lt))),
  λ _. refl,
)
tested (x ∷ xs) false h = (
  λ t. cc,
  λ up.
      let less =
      Less-from_sorted (on (λ (r : TableRow). r.prefix) prefix_cmp) (x ∷ xs) h.0 (h.0 + 1) x up
      (omega arith) h.1 in
      absurd (let no' : false ≡ true = h.2 x ∙ ap is_lt less in cc),
)
