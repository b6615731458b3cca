-- What a total order says of what is below, ties and is above. Other crates may cite this module.
use Rattle.std.proofs.Common.{◌≡◌, ◌+◌, true, false, List, get_or, Ordering, Less, Equal, Greater, sym, ap, ◌∙◌, arith}
use Rattle.std.specs.Cmp.{IsTotalOrder}
use Rattle.std.specs.List.{AllPairs}
use Rattle.std.specs.List.Sorted.{IsSorted, IsSortedByKey, IsStrictlySortedBy}
use Rattle.std.specs.Ordering.{is_le, is_lt, on, ordering_reverse, ordering_then, then_cmp}
use Rattle.std.proofs.lemmas.Cmp.{alike_right}
use Rattle.std.proofs.lemmas.Map.Keys.{Less-from_sorted}

-- ---- what the tests say of an answer

-- the answer is Less where the test for it holds
pub Less-from_is_lt : (a : Ordering) → is_lt a ≡ true → a ≡ Less
Less-from_is_lt Less h = λ i. Less
Less-from_is_lt Equal h = absurd (let no : false ≡ true = h in cc)
Less-from_is_lt Greater h = absurd (let no : false ≡ true = h in cc)

-- the answer is Equal where it isn't above and isn't below
pub Equal-from_is_le : (a : Ordering) → is_le a ≡ true → is_lt a ≡ false → a ≡ Equal
Equal-from_is_le Less h g = absurd (let no : true ≡ false = g in cc)
Equal-from_is_le Equal h g = λ i. Equal
Equal-from_is_le Greater h g = absurd (let no : false ≡ true = h in cc)

-- the answer is Greater where it is neither below nor ties
pub Greater-from_is_le : (a : Ordering) → is_le a ≡ false → a ≡ Greater
Greater-from_is_le Less h = absurd (let no : true ≡ false = h in cc)
Greater-from_is_le Equal h = absurd (let no : true ≡ false = h in cc)
Greater-from_is_le Greater h = λ i. Greater

-- what isn't below by two keys isn't below by the first
pub is_lt-first : (a b : Ordering) → is_lt (ordering_then a b) ≡ false → is_lt a ≡ false
is_lt-first Less b h = h
is_lt-first Equal b h = λ i. false
is_lt-first Greater b h = λ i. false

-- items that are sorted by two keys are sorted by the first
pub IsSortedByKey-first : {X K : Type 0} (key : X → K) (R : K → K → Ordering) (S : X → X → Ordering)
    (xs : List X)
    → IsSorted (then_cmp (on key R) S) xs → IsSortedByKey key R xs
IsSortedByKey-first key R S xs up k d low within =
    is_lt-first _ _ (up k d low within)

-- ---- any total order

module _ {K : Type 0} {R : K → K → Ordering} (o : IsTotalOrder R) where
  -- what is below isn't above
  pub is_lt-flipped : (x y : K) → R x y ≡ Less → is_lt (R y x) ≡ false
  is_lt-flipped x y h = ap is_lt (o.antisymm y x ∙ ap ordering_reverse h)

  -- what is below has the other above it
  pub Greater-flipped : (x y : K) → R x y ≡ Less → R y x ≡ Greater
  Greater-flipped x y h = o.antisymm y x ∙ ap ordering_reverse h

  -- what is below is below all that ties with the other
  pub Less-before_tied : (x y z : K) → R x y ≡ Less → R y z ≡ Equal → R x z ≡ Less
  Less-before_tied x y z less tied = sym (alike_right o y z x tied) ∙ less

  -- what ties with something below is below too
  pub Less-tied_before : (x y z : K) → R x y ≡ Equal → R y z ≡ Less → R x z ≡ Less
  Less-tied_before x y z tied less = o.congr x y z tied ∙ less

  module _ {X : Type 0} (key : X → K) (xs : List X) where
    -- items whose keys ascend, each below the later ones, do so in pairs
    pub AllPairs-from_strict : IsStrictlySortedBy (on key R) xs
        → AllPairs (λ x y. R (key x) (key y) ≡ Less) xs
    AllPairs-from_strict up i j d lt within = Less-from_sorted (on key R) xs i j d up lt within

    -- items of which each has a key below that of the next are sorted
    pub IsSortedByKey-from_pairs : AllPairs (λ x y. R (key x) (key y) ≡ Less) xs
        → IsSortedByKey key R xs
    IsSortedByKey-from_pairs up k d low within =
        is_lt-flipped (key (get_or xs k d)) (key (get_or xs (k + 1) d))
        (up k (k + 1) d (omega arith) within)

    -- items whose keys ascend strictly are sorted
    pub IsSortedByKey-from_strict : IsStrictlySortedBy (on key R) xs
        → IsSortedByKey key R xs
    IsSortedByKey-from_strict up = IsSortedByKey-from_pairs (AllPairs-from_strict up)
