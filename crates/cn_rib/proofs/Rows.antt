-- Rows whose keys ascend, and the finite maps that they stand for.
use Rattle.std.proofs.Common.{◌≡◌, ℕ, zero, suc, ◌-◌, ◌<◌, ◌≤◌, Bool, true, false, cond, List, [], ◌∷◌, ◌++◌, length, length-drop, map, get_or, set, take, drop, Some, None, Less, Equal, Greater, refl, sym, ap, ◌∙◌, subst, arith}
use Rattle.std.specs.Prelude.{◌&&◌, T}
use Rattle.std.specs.Cmp.{IsTotalOrder}
use Rattle.std.specs.FinMap.{FinMap, IsAntisymmetric, empty, empty_of_len, entries, entries-from_sorted, entries-insert, find, from_sorted, get-from_sorted, get-remove, is_sorted, len-entries, put, same_entries_map, same_map}
use Rattle.std.specs.FinMap as fin
use Rattle.std.specs.FinMap.Entries.{below_all, by_order, is_sorted-put}
use Rattle.std.specs.List.{fold, insert, remove}
use Rattle.std.specs.List.Sorted.{IsNonDecreasingBy, IsPartitionPoint}
use Rattle.std.specs.Ordering.{eq_by_cmp, is_eq, is_lt, ordering_index, ordering_reverse}
use Rattle.std.specs.declared.cmp.Ordering.{Ordering}
use Rattle.std.proofs.lemmas.List.{length-map, take_at}
use Rattle.cn_lists.proofs.Halving.{IsNonDecreasingBy-from_pairs}

-- ---- tests

both : (a b : Bool) → T a → T b → T (a && b)
both true b p q = q
both false b p q = absurd p

-- of two that hold, the first
pub first_true : (a b : Bool) → T (a && b) → T a
first_true true b p = tt
first_true false b p = absurd p

-- of two that hold, the second
pub second_true : (a b : Bool) → T (a && b) → T b
second_true true b p = p
second_true false b p = absurd p

-- an answer that passes the test is Less
pub is_less : (a : Ordering) → T (is_lt a) → a ≡ Less
is_less Less p = refl
is_less Equal p = absurd p
is_less Greater p = absurd p

equal : (a : Ordering) → T (is_eq a) → a ≡ Equal
equal Less p = absurd p
equal Equal p = refl
equal Greater p = absurd p

swapped : {Y : Type 0} (a b : Bool) (x y z : Y) → (T a → T b → ⊥)
    → cond a x (cond b y z) ≡ cond b y (cond a x z)
swapped true true x y z apart = absurd (apart tt tt)
swapped true false x y z apart = refl
swapped false b x y z apart = refl

-- no rows stand for the empty map
pub from_no_rows : {K X : Type 0} (R : K → K → Ordering)
    → ◌≡◌ {A = FinMap R X} (from_sorted []) empty
from_no_rows R = empty_of_len _ (len-entries _ ∙ ap length (entries-from_sorted R [] tt))

-- rows that were turned by n, without their last n, are the old ones without their first n
pub turned_and_cut : {A : Type 0} (n len : ℕ) (old turned new : List A)
    → turned ≡ drop n old ++ take n old → new ≡ take (len - n) turned → len ≡ length old
    → new ≡ drop n old
turned_and_cut n len old turned new turn cut all =
    cut ∙ ap (take (len - n)) turn
    ∙ take_at (drop n old) (take n old) (len - n) (omega (arith, all, length-drop n old))

module _ {A K X : Type 0} {R : K → K → Ordering} (o : IsTotalOrder R) (exact : IsAntisymmetric R)
    (key : A → K) (value : A → X) where
  -- the entries that rows stand for
  abbrev pub entries_of : List A → List (K × X)
  entries_of rows = map (λ r. (key r, value r)) rows

  -- the place between the rows below k and those above it
  abbrev pub IsGap : List A → K → ℕ → Type 0
  IsGap rows k i = IsPartitionPoint (λ y. R (key y) k ≡ Less) (λ y. R (key y) k ≡ Greater) rows i

  flip : (x y : K) (a : Ordering) → R x y ≡ a → R y x ≡ ordering_reverse a
  flip x y a is = o.antisymm y x ∙ ap ordering_reverse is

  -- ---- where a key stands

  below_at : (x : K) (rows : List A) (i : ℕ) (d : A) → T (below_all R x (entries_of rows))
      → i < length rows → R x (key (get_or rows i d)) ≡ Less
  below_at x [] i d h l = absurd (omega arith)
  below_at x (r ∷ rows) zero d h l = is_less _ (first_true _ _ h)
  below_at x (r ∷ rows) (suc i) d h l = below_at x rows i d (second_true _ _ h) (omega arith)

  -- a row before that of k is below k
  before : (rows : List A) (r : A) (k : K) (i : ℕ) (d : A)
      → T (below_all R (key r) (entries_of rows)) → i < length rows
      → R (key (get_or rows i d)) k ≡ Equal → R (key r) k ≡ Less
  before rows r k i d h l here =
      subst (λ x. R (key r) x ≡ Less) (exact _ _ here) (below_at (key r) rows i d h l)

  rises : (rows : List A) (i j : ℕ) (d : A) → T (is_sorted R (entries_of rows)) → i < j
      → j < length rows → R (key (get_or rows i d)) (key (get_or rows j d)) ≡ Less
  rises [] i j d s l h = absurd (omega arith)
  rises (r ∷ rows) zero zero d s l h = absurd (omega arith)
  rises (r ∷ rows) zero (suc j) d s l h = below_at (key r) rows j d (first_true _ _ s) (omega arith)
  rises (r ∷ rows) (suc i) zero d s l h = absurd (omega arith)
  rises (r ∷ rows) (suc i) (suc j) d s l h =
      rises rows i j d (second_true _ _ s) (omega arith) (omega arith)

  -- what a search by halving asks of the rows
  pub gap_found : (rows : List A) (k : K) (i : ℕ) → T (is_sorted R (entries_of rows))
      → (IsNonDecreasingBy (λ y. ordering_index (R (key y) k)) rows → IsGap rows k i)
      → IsGap rows k i
  gap_found rows k i s parted =
      parted
      (IsNonDecreasingBy-from_pairs o key rows k (λ j l d lt within. rises rows j l d s lt within))

  gap_tail : (r : A) (rows : List A) (k : K) (i : ℕ) → IsGap (r ∷ rows) k (suc i) → IsGap rows k i
  gap_tail r rows k i gap = (
    λ j d l h. gap.0 (suc j) d (omega arith) (omega arith),
    λ j d l h. gap.1 (suc j) d (omega arith) (omega arith),
  )

  gap_past : (r : A) (rows : List A) (k : K) → IsGap (r ∷ rows) k 0 → IsGap rows k 0
  gap_past r rows k gap =
      (λ j d l h. absurd (omega arith), λ j d l h. gap.1 (suc j) d (omega arith) (omega arith))

  -- ---- a row is put

  put_there : (r : A) (rows : List A) (k : K) (v : X) (a : Ordering) → R k (key r) ≡ a
      → put R k v (entries_of (r ∷ rows))
      ≡ by_order a ((k, v) ∷ entries_of (r ∷ rows)) ((key r, v) ∷ entries_of rows)
      ((key r, value r) ∷ put R k v (entries_of rows))
  put_there r rows k v a is =
      ap (λ b. by_order b ((k, v) ∷ entries_of (r ∷ rows)) ((key r, v) ∷ entries_of rows)
      ((key r, value r) ∷ put R k v (entries_of rows))) is

  -- a row in the place of that of its key puts its entry
  pub put_at : (rows : List A) (r : A) (i : ℕ) (d : A) → T (is_sorted R (entries_of rows))
      → i < length rows → R (key (get_or rows i d)) (key r) ≡ Equal
      → entries_of (set rows i r) ≡ put R (key r) (value r) (entries_of rows)
  put_at [] r i d s l here = absurd (omega arith)
  put_at (x ∷ rows) r zero d s l here =
      ap (λ k. (k, value r) ∷ entries_of rows) (sym (exact (key x) (key r) here))
      ∙ sym (put_there x rows (key r) (value r) Equal (flip (key x) (key r) Equal here))
  put_at (x ∷ rows) r (suc i) d s l here =
      ap (λ es. (key x, value x) ∷ es) (put_at rows r i d (second_true _ _ s) (omega arith) here)
      ∙ sym (put_there x rows (key r) (value r) Greater
      (flip (key x) (key r) Less (before rows x (key r) i d (first_true _ _ s) (omega arith) here)))

  -- a row put where its key would stand puts its entry
  pub put_in_gap : (rows : List A) (r : A) (i : ℕ) → i ≤ length rows → IsGap rows (key r) i
      → entries_of (insert rows i r) ≡ put R (key r) (value r) (entries_of rows)
  put_in_gap [] r zero l gap = refl
  put_in_gap [] r (suc i) l gap = absurd (omega arith)
  put_in_gap (x ∷ rows) r zero l gap =
      sym (put_there x rows (key r) (value r) Less
      (flip (key x) (key r) Greater (gap.1 0 x (omega arith) (omega arith))))
  put_in_gap (x ∷ rows) r (suc i) l gap =
      ap (λ es. (key x, value x) ∷ es)
      (put_in_gap rows r i (omega arith) (gap_tail x rows (key r) i gap))
      ∙ sym (put_there x rows (key r) (value r) Greater
      (flip (key x) (key r) Less (gap.0 0 x (omega arith) (omega arith))))

  -- ---- a row is found

  find_there : (q : K) (r : A) (rows : List A) (a : Ordering) → R q (key r) ≡ a
      → find R q (entries_of (r ∷ rows))
      ≡ cond (is_eq a) (Some (value r)) (find R q (entries_of rows))
  find_there q r rows a is =
      ap (λ b. cond (is_eq b) (Some (value r)) (find R q (entries_of rows))) is

  find_at : (rows : List A) (k : K) (i : ℕ) (d : A) → T (is_sorted R (entries_of rows))
      → i < length rows → R (key (get_or rows i d)) k ≡ Equal
      → find R k (entries_of rows) ≡ Some (value (get_or rows i d))
  find_at [] k i d s l here = absurd (omega arith)
  find_at (r ∷ rows) k zero d s l here = find_there k r rows Equal (flip (key r) k Equal here)
  find_at (r ∷ rows) k (suc i) d s l here =
      find_there k r rows Greater
      (flip (key r) k Less (before rows r k i d (first_true _ _ s) (omega arith) here))
      ∙ find_at rows k i d (second_true _ _ s) (omega arith) here

  find_in_gap : (rows : List A) (k : K) (i : ℕ) → IsGap rows k i → find R k (entries_of rows) ≡ None
  find_in_gap [] k i gap = refl
  find_in_gap (r ∷ rows) k zero gap =
      find_there k r rows Less (flip (key r) k Greater (gap.1 0 r (omega arith) (omega arith)))
      ∙ find_in_gap rows k zero (gap_past r rows k gap)
  find_in_gap (r ∷ rows) k (suc i) gap =
      find_there k r rows Greater (flip (key r) k Less (gap.0 0 r (omega arith) (omega arith)))
      ∙ find_in_gap rows k i (gap_tail r rows k i gap)

  nowhere_below : (q : K) (rows : List A) → T (below_all R q (entries_of rows))
      → find R q (entries_of rows) ≡ None
  nowhere_below q [] h = refl
  nowhere_below q (r ∷ rows) h =
      find_there q r rows Less (is_less _ (first_true _ _ h))
      ∙ nowhere_below q rows (second_true _ _ h)

  -- ---- a row is taken out

  below_removed : (x : K) (rows : List A) (i : ℕ) → T (below_all R x (entries_of rows))
      → T (below_all R x (entries_of (remove rows i)))
  below_removed x [] zero h = tt
  below_removed x [] (suc i) h = tt
  below_removed x (r ∷ rows) zero h = second_true _ _ h
  below_removed x (r ∷ rows) (suc i) h =
      both _ _ (first_true _ _ h) (below_removed x rows i (second_true _ _ h))

  -- rows of which one is taken out ascend
  pub sorted_removed : (rows : List A) (i : ℕ) → T (is_sorted R (entries_of rows))
      → T (is_sorted R (entries_of (remove rows i)))
  sorted_removed [] zero s = tt
  sorted_removed [] (suc i) s = tt
  sorted_removed (r ∷ rows) zero s = second_true _ _ s
  sorted_removed (r ∷ rows) (suc i) s =
      both _ _ (below_removed (key r) rows i (first_true _ _ s))
      (sorted_removed rows i (second_true _ _ s))

  find_past : (r : A) (rows : List A) (q : K) → T (below_all R (key r) (entries_of rows))
      → find R q (entries_of rows)
      ≡ cond (eq_by_cmp R q (key r)) None (find R q (entries_of (r ∷ rows)))
  find_past r rows q h =
      elim (eq_by_cmp R q (key r)) as (λ t. eq_by_cmp R q (key r) ≡ t
      → find R q (entries_of rows)
      ≡ cond t None (cond t (Some (value r)) (find R q (entries_of rows)))) [
        | true ↦
            λ is. nowhere_below q rows
            (subst (λ k. T (below_all R k (entries_of rows)))
            (sym (exact q (key r) (equal _ (subst T (sym is) tt)))) h)
        | false ↦ λ is. refl
      ] refl

  find_removed : (rows : List A) (k : K) (i : ℕ) (d : A) (q : K) → T (is_sorted R (entries_of rows))
      → i < length rows → R (key (get_or rows i d)) k ≡ Equal
      → find R q (entries_of (remove rows i))
      ≡ cond (eq_by_cmp R q k) None (find R q (entries_of rows))
  find_removed [] k i d q s l here = absurd (omega arith)
  find_removed (r ∷ rows) k zero d q s l here =
      find_past r rows q (first_true _ _ s)
      ∙ ap (λ x. cond (eq_by_cmp R q x) None (find R q (entries_of (r ∷ rows))))
      (exact (key r) k here)
  find_removed (r ∷ rows) k (suc i) d q s l here =
      let apart : T (eq_by_cmp R q (key r)) → T (eq_by_cmp R q k) → ⊥ =
      λ same also. subst (λ a. T (is_lt a)) (equal _ also)
      (subst (λ a. T (is_lt a))
      (sym (o.congr q (key r) k (equal _ same)
      ∙ before rows r k i d (first_true _ _ s) (omega arith) here)) tt) in
      ap (λ f. cond (eq_by_cmp R q (key r)) (Some (value r)) f)
      (find_removed rows k i d q (second_true _ _ s) (omega arith) here)
      ∙ swapped (eq_by_cmp R q (key r)) (eq_by_cmp R q k) _ _ _ apart

  -- rows of which the first are taken out ascend
  pub sorted_dropped : (n : ℕ) (rows : List A) → T (is_sorted R (entries_of rows))
      → T (is_sorted R (entries_of (drop n rows)))
  sorted_dropped zero rows s = s
  sorted_dropped (suc n) [] s = tt
  sorted_dropped (suc n) (r ∷ rows) s = sorted_dropped n rows (second_true _ _ s)

  itself : (k : K) → R k k ≡ Equal
  itself k = alike (R k k) (o.antisymm k k)
    where
      alike : (a : Ordering) → a ≡ ordering_reverse a → a ≡ Equal
      alike Less e = cc
      alike Equal e = refl
      alike Greater e = cc

  -- ---- the map that the rows stand for

  module _ (rows : List A) (m : FinMap R X) (s : T (is_sorted R (entries_of rows)))
      (stands : from_sorted (entries_of rows) ≡ m) where
    -- the rows stand for the entries of the map
    pub rows_entries : entries_of rows ≡ entries m
    rows_entries = sym (entries-from_sorted R (entries_of rows) s) ∙ ap entries stands

    -- there are as many rows as the map has
    pub rows_len : length rows ≡ fin.len m
    rows_len =
        sym (length-map rows (λ r. (key r, value r))) ∙ ap length rows_entries ∙ sym (len-entries m)

    found : (q : K) → find R q (entries_of rows) ≡ fin.get m q
    found q = sym (get-from_sorted R (entries_of rows) q s) ∙ ap (λ n. fin.get n q) stands

    -- the row of a key has what the map has for it
    pub get_at : (k : K) (i : ℕ) (d : A) → i < length rows → R (key (get_or rows i d)) k ≡ Equal
        → Some (value (get_or rows i d)) ≡ fin.get m k
    get_at k i d l here = sym (find_at rows k i d s l here) ∙ found k

    -- the map has nothing for a key with no row
    pub get_in_gap : (k : K) (i : ℕ) → IsGap rows k i → None ≡ fin.get m k
    get_in_gap k i gap = sym (find_in_gap rows k i gap) ∙ found k

    -- rows with an entry put stand for the map with it
    pub insert_is : (es : List (K × X)) (k : K) (v : X) → es ≡ put R k v (entries_of rows)
        → from_sorted es ≡ fin.insert m k v
    insert_is es k v is = ap from_sorted is
        ∙ same_entries_map _ _
        (entries-from_sorted R _ (is_sorted-put R o k v (entries_of rows) s)
        ∙ ap (put R k v) rows_entries ∙ sym (entries-insert o m k v))

    -- rows with an entry put ascend
    pub sorted_insert : (es : List (K × X)) (k : K) (v : X) → es ≡ put R k v (entries_of rows)
        → T (is_sorted R es)
    sorted_insert es k v is =
        subst (λ l. T (is_sorted R l)) (sym is) (is_sorted-put R o k v (entries_of rows) s)

    -- rows without that of a key stand for the map without it
    pub remove_is : (k : K) (i : ℕ) (d : A) → i < length rows → R (key (get_or rows i d)) k ≡ Equal
        → from_sorted (entries_of (remove rows i)) ≡ fin.remove m k
    remove_is k i d l here =
        same_map o exact _ _ (λ q. get-from_sorted R (entries_of (remove rows i)) q
        (sorted_removed rows i s)
        ∙ find_removed rows k i d q s l here
        ∙ ap (cond (eq_by_cmp R q k) None) (found q) ∙ sym (get-remove o m k q))

    -- a key that has no row is taken out without a change
    pub remove_none : (k : K) (i : ℕ) → IsGap rows k i → m ≡ fin.remove m k
    remove_none k i gap =
        same_map o exact _ _ (λ q. elim (eq_by_cmp R q k) as
        (λ t. eq_by_cmp R q k ≡ t → fin.get m q ≡ cond t None (fin.get m q)) [
          | true ↦
              λ is.
              ap (fin.get m) (exact q k (equal _ (subst T (sym is) tt))) ∙ sym (get_in_gap k i gap)
          | false ↦ λ is. refl
        ] refl ∙ sym (get-remove o m k q))

  -- rows of which the first are taken out stand for the map without the keys of those
  pub front_removed : (n : ℕ) (rows : List A) → T (is_sorted R (entries_of rows))
      → from_sorted {R = R} (entries_of (drop n rows))
      ≡ fold fin.remove (from_sorted (entries_of rows)) (map key (take n rows))
  front_removed zero rows s = refl
  front_removed (suc n) [] s = refl
  front_removed (suc n) (r ∷ rows) s =
      front_removed n rows (second_true _ _ s)
      ∙ ap (λ m. fold fin.remove m (map key (take n rows)))
      (remove_is (r ∷ rows) _ s refl (key r) 0 r (omega arith) (itself (key r)))
