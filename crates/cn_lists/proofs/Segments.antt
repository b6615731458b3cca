-- The items that tie with a key stand together in a list that ascends by it. Other crates may cite
-- this module.
use Rattle.std.proofs.Common.{◌≡◌, ℕ, ◌+◌, ◌-◌, ◌<◌, ◌≤◌, Bool, true, false, List, length, get_or, take, drop, Ordering, Less, Equal, Greater, sym, ap, subst, ◌∙◌, inl, inr, arith}
use Rattle.std.specs.List.{All, AllPairs, Contains, filter}
use Rattle.std.specs.List.Sorted.{IsNonDecreasingBy, IsPartitionPoint, IsPartitionedBy}
use Rattle.std.specs.Ordering.{is_eq, is_le, is_lt, ordering_index}
use Rattle.std.proofs.lemmas.Bool.{cases_lt}
use Rattle.std.proofs.lemmas.List.{get_or-drop, get_or-take, length-drop, length-take-le}
use Rattle.cn_lists.specs.Segment.{IsSegment}
use Rattle.cn_lists.proofs.Finding.{filter-all, filter-drop, filter-take}
use Rattle.cn_lists.proofs.Order.{Equal-from_is_le, Greater-from_is_le, Less-from_is_lt}

-- ---- what two searches by halving give

is_le-falls : (a b : Ordering) → ordering_index a ≤ ordering_index b → is_le b ≡ true
    → is_le a ≡ true
is_le-falls Less b le h = λ i. true
is_le-falls Equal b le h = λ i. true
is_le-falls Greater Less le h = absurd (omega arith)
is_le-falls Greater Equal le h = absurd (omega arith)
is_le-falls Greater Greater le h = h

is_lt-falls : (a b : Ordering) → ordering_index a ≤ ordering_index b → is_lt b ≡ true
    → is_lt a ≡ true
is_lt-falls Less b le h = λ i. true
is_lt-falls Equal Less le h = absurd (omega arith)
is_lt-falls Equal Equal le h = absurd (let no : false ≡ true = h in cc)
is_lt-falls Equal Greater le h = absurd (let no : false ≡ true = h in cc)
is_lt-falls Greater Less le h = absurd (omega arith)
is_lt-falls Greater Equal le h = absurd (let no : false ≡ true = h in cc)
is_lt-falls Greater Greater le h = absurd (let no : false ≡ true = h in cc)

module _ {X : Type 0} (order : X → Ordering) (xs : List X) where
  -- the test for `at most` parts a list that ascends
  pub IsPartitionedBy-is_le : IsNonDecreasingBy (λ x. ordering_index (order x)) xs
      → IsPartitionedBy (λ x. is_le (order x)) xs
  IsPartitionedBy-is_le up i j d le within h =
      is_le-falls (order (get_or xs i d)) (order (get_or xs j d)) (up i j d le within) h

  -- and so does the test for `below`
  pub IsPartitionedBy-is_lt : IsNonDecreasingBy (λ x. ordering_index (order x)) xs
      → IsPartitionedBy (λ x. is_lt (order x)) xs
  IsPartitionedBy-is_lt up i j d le within h =
      is_lt-falls (order (get_or xs i d)) (order (get_or xs j d)) (up i j d le within) h

  -- the place behind what is at most tied, and in front of it the place behind what is below, bound
  -- the segment
  pub IsSegment-from_points : (start end : ℕ) → end ≤ length xs → start ≤ length (take end xs)
      → IsPartitionPoint (λ x. is_le (order x) ≡ true) (λ x. is_le (order x) ≡ false) xs end
      → IsPartitionPoint (λ x. is_lt (order x) ≡ true) (λ x. is_lt (order x) ≡ false) (take end xs)
      start
      → IsSegment order xs start end
  IsSegment-from_points start end inside within ends starts =
      let many : length (take end xs) ≡ end = length-take-le end xs inside in
      record {
        ordered = omega arith;
        inside = inside;
        below = λ k d low lt.
            let at : get_or (take end xs) k d ≡ get_or xs k d =
            get_or-take end xs k d (omega arith) in
            Less-from_is_lt (order (get_or xs k d))
            (ap (λ x. is_lt (order x)) (sym at) ∙ starts.0 k d low lt);
        here = λ k d low lt.
            let at : get_or (take end xs) k d ≡ get_or xs k d = get_or-take end xs k d lt in
            Equal-from_is_le (order (get_or xs k d)) (ends.0 k d (omega arith) lt)
            (ap (λ x. is_lt (order x)) (sym at) ∙ starts.1 k d low (omega arith));
        above = λ k d low lt. Greater-from_is_le (order (get_or xs k d)) (ends.1 k d low lt);
      }

-- ---- what a segment has

module _ {X : Type 0} (order : X → Ordering) (xs : List X) (start end : ℕ)
    (cut : IsSegment order xs start end) where
  -- a segment is as long as its ends are apart
  pub length-segment : start + length (drop start (take end xs)) ≡ end
  length-segment =
      let ordered = cut.ordered in
      let many : length (take end xs) ≡ end = length-take-le end xs cut.inside in
      omega (arith, length-drop start (take end xs))

  -- the items of a segment stand in the list, from its start on
  pub get_or-segment : (k : ℕ) (d : X) → k < length (drop start (take end xs))
      → get_or (drop start (take end xs)) k d ≡ get_or xs (start + k) d
  get_or-segment k d lt =
      let long = length-segment in
      get_or-drop start (take end xs) k d ∙ get_or-take end xs (start + k) d (omega arith)

  -- all items of a segment tie
  pub All-segment : All (λ x. order x ≡ Equal) (drop start (take end xs))
  All-segment k d lt =
      let long = length-segment in
      ap order (get_or-segment k d lt) ∙ cut.here (start + k) d (omega arith) (omega arith)

  -- what holds of all items holds of those of a segment
  pub All-in_segment : (P : X → Type 0) → All P xs → All P (drop start (take end xs))
  All-in_segment P all k d lt =
      let long = length-segment in
      let inside = cut.inside in
      subst P (sym (get_or-segment k d lt)) (all (start + k) d (omega arith))

  -- pairs in a segment are pairs in the list
  pub AllPairs-segment : (S : X → X → Type 0) → AllPairs S xs
      → AllPairs S (drop start (take end xs))
  AllPairs-segment S all i j d lt within =
      let long = length-segment in
      let inside = cut.inside in
      let at = get_or-segment i d (omega arith) in
      let at' = get_or-segment j d within in
      subst (λ x. S x (get_or (drop start (take end xs)) j d)) (sym at)
      (subst (S (get_or xs (start + i) d)) (sym at')
      (all (start + i) (start + j) d (omega arith) (omega arith)))

  -- an item that ties stands in the segment
  pub Contains-segment : (x : X) → Contains xs x → order x ≡ Equal
      → Contains (drop start (take end xs)) x
  Contains-segment x (k, lt, is) tied =
      let long = length-segment in
      let ties : order (get_or xs k x) ≡ Equal = ap order is ∙ tied in
      let low : start ≤ k = elim (cases_lt k start) [
        | inl before ↦
            absurd (let no : Less ≡ Equal = sym (cut.below k x (omega arith) before) ∙ ties in cc)
        | inr le ↦ le
      ] in
      let high : k < end = elim (cases_lt k end) [
        | inl before ↦ before
        | inr behind ↦
            absurd (let no : Greater ≡ Equal = sym (cut.above k x behind lt) ∙ ties in cc)
      ] in
      let here : k - start < length (drop start (take end xs)) = omega arith in
      let place : start + (k - start) ≡ k = omega arith in (
        k - start,
        here,
        get_or-segment (k - start) x here ∙ ap (λ (n : ℕ). get_or xs n x) place ∙ is,
      )

  -- a filter for what ties keeps the segment
  pub filter-segment : (p : X → Bool) → ((x : X) → p x ≡ is_eq (order x))
      → filter p xs ≡ drop start (take end xs)
  filter-segment p tests =
      let many : length (take end xs) ≡ end = length-take-le end xs cut.inside in
      let ordered = cut.ordered in
      sym
      (filter-take p xs end (λ k d low lt. tests (get_or xs k d) ∙ ap is_eq (cut.above k d low lt)))
      ∙ sym (filter-drop p (take end xs) start (λ k d low lt.
      tests (get_or (take end xs) k d)
      ∙ ap (λ x. is_eq (order x)) (get_or-take end xs k d (omega arith))
      ∙ ap is_eq (cut.below k d low lt)))
      ∙ filter-all p (drop start (take end xs)) (λ k d lt.
      tests (get_or (drop start (take end xs)) k d) ∙ ap is_eq (All-segment k d lt))
