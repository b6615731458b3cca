-- The order of devices and prefixes, and what a search finds among rows that stand in it.
use Rattle.std.proofs.Common.{◌≡◌, ℕ, suc, ◌+◌, ◌<◌, ◌≤◌, Bool, true, false, List, [], ◌∷◌, length, get_or, Some, None, Less, Equal, Greater, refl, sym, ap, ◌∙◌, inl, inr, arith, slice_get, find}
use Rattle.std.specs.Cmp.{IsTotalOrder}
use Rattle.std.specs.List.Sorted.{IsNonDecreasingBy, IsPartitionPoint, IsSortedBy}
use Rattle.std.specs.Option.{option_map}
use Rattle.std.specs.Ordering.{is_eq, is_lt, on, ordering_index, ordering_reverse}
use Rattle.std.specs.declared.cmp.Ordering.{Ordering}
use Rattle.std.proofs.lemmas.Bool.{cases_lt}
use Rattle.std.proofs.lemmas.Bool.Decides.{nat_tests}
use Rattle.std.proofs.lemmas.Cmp.{nat_cmp_total, on_total, then_total}
use Rattle.std.proofs.lemmas.List.Folds.{find_at}
use Rattle.std.proofs.lemmas.List.Sorted.{searchable_from_sorted}
use Rattle.std.proofs.lemmas.List.Sums.{position_or_len_is}
use Rattle.std.proofs.lemmas.Map.Keys.{Less-from_sorted}
use Rattle.std.proofs.lemmas.Option.{slice_get-get_or}
use Rattle.cn_base.specs.Cidr.{Cidr}
use Rattle.cn_base.specs.declared.ids.DeviceId.{DeviceId}
use Rattle.cn_record.specs.Rows.{AscendsByPair, is_row, pair_cmp, row_for}
use Rattle.cn_record.specs.declared.saved.Row.{Row}

-- ---- the order

pub pair_cmp_total : IsTotalOrder pair_cmp
pair_cmp_total =
    then_total (on_total (λ (x : DeviceId × Cidr). x.0.0) nat_cmp_total)
    (on_total (λ (x : DeviceId × Cidr). x.1)
    (then_total (on_total (λ (p : Cidr). p.bits) nat_cmp_total)
    (on_total (λ (p : Cidr). p.len) nat_cmp_total)))

-- the device and the prefix of a row
abbrev pub pair_of : Row → DeviceId × Cidr
pair_of r = (r.device, r.prefix)

-- the order ties a row with d and p just where it is theirs
pub tied : (r : Row) (d : DeviceId) (p : Cidr) → is_row d p r ≡ is_eq (pair_cmp (pair_of r) (d, p))
tied r d p = grind (arith, nat_tests)

pub differs : (r : Row) (d : DeviceId) (p : Cidr) (o : Ordering) → pair_cmp (pair_of r) (d, p) ≡ o
    → is_eq o ≡ false → is_row d p r ≡ false
differs r d p o e f = tied r d p ∙ ap is_eq e ∙ f

-- nothing is both below and above
pub not_fallen : (x y : DeviceId × Cidr) → pair_cmp x y ≡ Less → is_lt (pair_cmp y x) ≡ false
not_fallen x y h = ap is_lt (pair_cmp_total.antisymm y x ∙ ap ordering_reverse h)

pub below_equal : (x y z : DeviceId × Cidr) → pair_cmp x y ≡ Less → pair_cmp y z ≡ Equal
    → pair_cmp x z ≡ Less
below_equal x y z less equal = pair_cmp_total.antisymm x z
    ∙ ap ordering_reverse (sym (pair_cmp_total.congr y z x equal))
    ∙ sym (pair_cmp_total.antisymm x y) ∙ less

-- ---- the first that passes

pub found_there : {X : Type 0} (p : X → Bool) (xs : List X) (i : ℕ) (d : X) → i < length xs
    → p (get_or xs i d) ≡ true → ((k : ℕ) → k < i → p (get_or xs k d) ≡ false)
    → find p xs ≡ Some (get_or xs i d)
found_there p xs i d within t before =
    find_at p xs ∙ ap (slice_get xs) (position_or_len_is p xs i d (omega arith) before (λ _. t))
    ∙ slice_get-get_or xs i d within

pub found_none : {X : Type 0} (p : X → Bool) (xs : List X)
    → ((k : ℕ) (d : X) → k < length xs → p (get_or xs k d) ≡ false) → find p xs ≡ None
found_none p [] fails = refl
found_none p (x ∷ xs) fails =
    rw (fails 0 x (omega arith)) (found_none p xs (λ k d lt. fails (suc k) d (omega arith)))

-- ---- what is found among rows

module _ (rows : List Row) (d : DeviceId) (p : Cidr) (up : AscendsByPair rows) where
  pub found_at : (i : ℕ) (e : Row) → i < length rows
      → pair_cmp (pair_of (get_or rows i e)) (d, p) ≡ Equal
      → row_for rows d p ≡ Some (get_or rows i e).choice
  found_at i e within here =
      let before = λ (k : ℕ) (lt : k < i). differs (get_or rows k e) d p Less
      (below_equal (pair_of (get_or rows k e)) (pair_of (get_or rows i e)) (d, p)
      (Less-from_sorted (on pair_of pair_cmp) rows k i e up lt within) here) refl in
      ap (option_map (λ (r : Row). r.choice))
      (found_there (is_row d p) rows i e within
      (tied (get_or rows i e) d p ∙ ap is_eq here) before)

  pub found_nowhere : (i : ℕ) → i ≤ length rows
      → (IsNonDecreasingBy (λ y. ordering_index (pair_cmp (pair_of y) (d, p))) rows
      → IsPartitionPoint (λ y. pair_cmp (pair_of y) (d, p) ≡ Less)
      (λ y. pair_cmp (pair_of y) (d, p) ≡ Greater) rows i) → row_for rows d p ≡ None
  found_nowhere i inside parted =
      let sorted : IsSortedBy (λ a b. is_lt (pair_cmp (pair_of a) (pair_of b))) rows =
      λ k e low within. not_fallen (pair_of (get_or rows k e)) (pair_of (get_or rows (k + 1) e))
      (Less-from_sorted (on pair_of pair_cmp) rows k (k + 1) e up (omega arith) within) in
      let parts = parted (searchable_from_sorted pair_cmp_total pair_of rows (d, p) sorted) in
      ap (option_map (λ (r : Row). r.choice))
      (found_none (is_row d p) rows (λ k e within. elim (cases_lt k i) [
        | inl low ↦ differs (get_or rows k e) d p Less (parts.0 k e (omega arith) low) refl
        | inr high ↦ differs (get_or rows k e) d p Greater (parts.1 k e high within) refl
      ]))
