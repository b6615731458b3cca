-- The laws of finite maps from prefixes and of sets of prefixes, at each prefix.
use Rattle.std.proofs.Common.{◌≡◌, ℕ, ◌-◌, ◌+◌, ◌<◌, ◌⊎◌, Bool, true, false, cond, not, List, [], ◌∷◌, ◌++◌, drop, get_or, length, map, Option, Some, None, Less, refl, sym, ap, ◌∙◌, subst, inl, inr, arith}
use Rattle.std.specs.Prelude.{◌&&◌, ◌||◌, T, is_some, slice_get}
use Rattle.std.specs.List.{AllByRecursion, fold, list_any}
use Rattle.std.specs.List.Sorted.{IsStrictlySortedBy}
use Rattle.std.specs.FinMap.{FinMap, find, is_sorted}
use Rattle.std.specs.FinMap as fin
use Rattle.std.specs.FinMap.Entries.{below_all}
use Rattle.std.specs.Ordering.{eq_by_cmp, is_eq, on}
use Rattle.std.proofs.Math.Seq.{drop-cons}
use Rattle.std.proofs.lemmas.Bool.{cases_lt}
use native.Mathlib.Numerals.{add-one}
use Rattle.cn_lists.proofs.Finding.{None-from_is_some}
use Rattle.cn_base.specs.Cidr.{Cidr, same_prefix}
use Rattle.cn_base.specs.Table.{prefix_cmp}
use Rattle.cn_rib.specs.PrefixSet.{PrefixSet, contains, empty, insert, insert_all, least, remove}
use Rattle.cn_rib.proofs.Prefixes.{prefix_cmp_total, prefix_cmp-IsAntisymmetric, same_itself, same_tells, tied, tied_is_same, tied_itself}
use Rattle.cn_rib.proofs.Rows.{first_true, is_less, second_true}

-- ---- maps

either : {Y : Type 0} (a b : Bool) (x y : Y) → cond b x (cond a x y) ≡ cond (a || b) x y
either true true x y = refl
either true false x y = refl
either false b x y = refl

module _ {X : Type 0} where
  -- an empty map has nothing
  pub get_empty : (q : Cidr) → fin.get (fin.empty {X = X} {R = prefix_cmp}) q ≡ None
  get_empty q = fin.get-empty prefix_cmp q

  -- what a map has after a row was put in
  pub get_inserted : (m : FinMap prefix_cmp X) (p : Cidr) (v : X) (q : Cidr)
      → fin.get (fin.insert m p v) q ≡ cond (same_prefix q p) (Some v) (fin.get m q)
  get_inserted m p v q =
      fin.get-insert prefix_cmp_total m p v q
      ∙ ap (λ b. cond b (Some v) (fin.get m q)) (tied_is_same q p)

  -- the row that was put in is there
  pub inserted_there : (m : FinMap prefix_cmp X) (p : Cidr) (v : X)
      → fin.get (fin.insert m p v) p ≡ Some v
  inserted_there m p v =
      get_inserted m p v p ∙ ap (λ b. cond b (Some v) (fin.get m p)) (same_itself p)

  -- elsewhere a row that is put in changes nothing
  pub inserted_elsewhere : (m : FinMap prefix_cmp X) (p : Cidr) (v : X) (q : Cidr)
      → same_prefix q p ≡ false → fin.get (fin.insert m p v) q ≡ fin.get m q
  inserted_elsewhere m p v q other =
      get_inserted m p v q ∙ ap (λ b. cond b (Some v) (fin.get m q)) other

  -- what a map has after a row was taken out
  pub get_removed : (m : FinMap prefix_cmp X) (p q : Cidr)
      → fin.get (fin.remove m p) q ≡ cond (same_prefix q p) None (fin.get m q)
  get_removed m p q =
      fin.get-remove prefix_cmp_total m p q ∙ ap (λ b. cond b None (fin.get m q)) (tied_is_same q p)

  -- the row that was taken out is gone
  pub removed_there : (m : FinMap prefix_cmp X) (p : Cidr) → fin.get (fin.remove m p) p ≡ None
  removed_there m p = get_removed m p p ∙ ap (λ b. cond b None (fin.get m p)) (same_itself p)

  -- elsewhere a row that is taken out changes nothing
  pub removed_elsewhere : (m : FinMap prefix_cmp X) (p q : Cidr) → same_prefix q p ≡ false
      → fin.get (fin.remove m p) q ≡ fin.get m q
  removed_elsewhere m p q other = get_removed m p q ∙ ap (λ b. cond b None (fin.get m q)) other

  -- maps that have the same are the same
  pub same_rows : (m n : FinMap prefix_cmp X) → ((q : Cidr) → fin.get m q ≡ fin.get n q) → m ≡ n
  same_rows m n same = fin.same_map prefix_cmp_total prefix_cmp-IsAntisymmetric m n same

  -- ---- the keys and the entries of a map

  among_keys : (m : FinMap prefix_cmp X) (q : Cidr)
      → fin.contains_key m q ≡ list_any (same_prefix q) (fin.keys m)
  among_keys m q =
      fin.contains_key-keys m q ∙ ap (λ f. list_any f (fin.keys m)) (λ i p. tied_is_same q p i)

  -- a map has nothing for a prefix that is not among its keys
  pub get_outside_keys : (m : FinMap prefix_cmp X) (q : Cidr)
      → list_any (same_prefix q) (fin.keys m) ≡ false → fin.get m q ≡ None
  get_outside_keys m q e = None-from_is_some (fin.get m q) (among_keys m q ∙ e)

  no_entries : (es : List (Cidr × X)) → length es ≡ 0 → es ≡ []
  no_entries [] e = refl
  no_entries (x ∷ es) e = absurd (omega arith)

  -- an empty map has no entries
  pub entries_of_empty : fin.entries (fin.empty {X = X} {R = prefix_cmp}) ≡ []
  entries_of_empty = no_entries _ (sym (fin.len-entries fin.empty) ∙ fin.len-empty prefix_cmp X)

  -- a map without entries is empty
  pub empty_from_entries : (m : FinMap prefix_cmp X) → fin.entries m ≡ [] → m ≡ fin.empty
  empty_from_entries m e = fin.empty_of_len m (fin.len-entries m ∙ ap length e)

  -- a map that has a row is not empty
  pub held_has_len : (m : FinMap prefix_cmp X) (p : Cidr) → fin.contains_key m p ≡ true
      → 0 < fin.len m
  held_has_len m p e = elim (cases_lt 0 (fin.len m)) [
    | inl some ↦ some
    | inr none ↦
        let gone : true ≡ false =
        sym e ∙ ap (λ n. fin.contains_key n p) (fin.empty_of_len m (omega arith))
        ∙ ap is_some (get_empty p) in
        absurd (let never : ⊥ = cc in never)
  ]

  len_inserted : (m : FinMap prefix_cmp X) (p : Cidr) (v : X)
      → fin.len (fin.insert m p v) ≡ cond (fin.contains_key m p) (fin.len m) (fin.len m + 1)
  len_inserted m p v = fin.len-insert prefix_cmp_total m p v

  len_removed : (m : FinMap prefix_cmp X) (p : Cidr)
      → fin.len (fin.remove m p) ≡ cond (fin.contains_key m p) (fin.len m - 1) (fin.len m)
  len_removed m p = fin.len-remove prefix_cmp_total m p

  -- ---- what is found among ascending entries

  -- of ascending entries the first is below the others, and those ascend
  pub sorted_parts : (e : Cidr × X) (es : List (Cidr × X)) → T (is_sorted prefix_cmp (e ∷ es))
      → T (below_all prefix_cmp e.0 es) × T (is_sorted prefix_cmp es)
  sorted_parts e es h = (first_true _ _ h, second_true _ _ h)

  -- p isn't found among entries above it
  pub find_below : (p : Cidr) (es : List (Cidr × X)) → T (below_all prefix_cmp p es)
      → find prefix_cmp p es ≡ None
  find_below p [] h = refl
  find_below p (e ∷ es) h =
      ap (λ a. cond (is_eq a) (Some e.1) (find prefix_cmp p es)) (is_less _ (first_true _ _ h))
      ∙ find_below p es (second_true _ _ h)

  -- the first entry is found by its prefix
  pub found_first : (e : Cidr × X) (es : List (Cidr × X)) → find prefix_cmp e.0 (e ∷ es) ≡ Some e.1
  found_first e es = ap (λ b. cond b (Some e.1) (find prefix_cmp e.0 es)) (tied_itself e.0)

  -- what is found among the others is found among all
  pub found_later : (e : Cidr × X) (es : List (Cidr × X)) (p : Cidr) (v : X)
      → T (is_sorted prefix_cmp (e ∷ es)) → find prefix_cmp p es ≡ Some v
      → find prefix_cmp p (e ∷ es) ≡ Some v
  found_later e es p v s found =
      elim (eq_by_cmp prefix_cmp p e.0) as
      (λ b. eq_by_cmp prefix_cmp p e.0 ≡ b → cond b (Some e.1) (find prefix_cmp p es) ≡ Some v) [
        | true ↦
            λ is.
            let gone : find prefix_cmp p es ≡ None =
            ap (λ q. find prefix_cmp q es) (tied p e.0 is) ∙ find_below e.0 es (first_true _ _ s) in
            cc
        | false ↦ λ is. found
      ] refl

  is_found_later : (e : Cidr × X) (es : List (Cidr × X)) (p : Cidr)
      → is_some (find prefix_cmp p es) ≡ true → is_some (find prefix_cmp p (e ∷ es)) ≡ true
  is_found_later e es p found =
      elim (eq_by_cmp prefix_cmp p e.0) as
      (λ b. is_some (cond b (Some e.1) (find prefix_cmp p es)) ≡ true) [
        | true ↦ refl
        | false ↦ found
      ]

  -- what is found is at the first entry, or among the others
  found_cases : (e : Cidr × X) (es : List (Cidr × X)) (p : Cidr) (v : X)
      → find prefix_cmp p (e ∷ es) ≡ Some v
      → ((p ≡ e.0) × (v ≡ e.1)) ⊎ (find prefix_cmp p es ≡ Some v)
  found_cases e es p v found =
      elim (eq_by_cmp prefix_cmp p e.0) as (λ b. eq_by_cmp prefix_cmp p e.0 ≡ b
      → cond b (Some e.1) (find prefix_cmp p es) ≡ Some v
      → ((p ≡ e.0) × (v ≡ e.1)) ⊎ (find prefix_cmp p es ≡ Some v)) [
        | true ↦ λ is f. let value : v ≡ e.1 = cc in inl (tied p e.0 is, value)
        | false ↦ λ is f. inr f
      ] refl found

  -- ---- many prefixes

  -- what a map has after rows of one value were put in
  pub get_inserted_all : (m : FinMap prefix_cmp X) (ps : List Cidr) (v : X) (q : Cidr)
      → fin.get (fold (λ n p. fin.insert n p v) m ps) q
      ≡ cond (list_any (same_prefix q) ps) (Some v) (fin.get m q)
  get_inserted_all m [] v q = refl
  get_inserted_all m (p ∷ ps) v q =
      get_inserted_all (fin.insert m p v) ps v q
      ∙ ap (λ o. cond (list_any (same_prefix q) ps) (Some v) o) (get_inserted m p v q)
      ∙ either (same_prefix q p) (list_any (same_prefix q) ps) (Some v) (fin.get m q)

  -- what a map has after rows were taken out
  pub get_removed_all : (m : FinMap prefix_cmp X) (ps : List Cidr) (q : Cidr)
      → fin.get (fold fin.remove m ps) q ≡ cond (list_any (same_prefix q) ps) None (fin.get m q)
  get_removed_all m [] q = refl
  get_removed_all m (p ∷ ps) q =
      get_removed_all (fin.remove m p) ps q
      ∙ ap (λ o. cond (list_any (same_prefix q) ps) None o) (get_removed m p q)
      ∙ either (same_prefix q p) (list_any (same_prefix q) ps) None (fin.get m q)

keys_of_empty : (X : Type 0) → fin.keys (fin.empty {X = X} {R = prefix_cmp}) ≡ []
keys_of_empty X = ap (map (λ e. e.0)) (entries_of_empty {X = X})

-- ---- sets

some_or : (b : Bool) (o : Option (Unit {0})) → is_some (cond b (Some tt) o) ≡ (b || is_some o)
some_or true o = refl
some_or false o = refl

none_or : (b : Bool) (o : Option (Unit {0})) → is_some (cond b None o) ≡ (not b && is_some o)
none_or true o = refl
none_or false o = refl

marked : (o p : Option (Unit {0})) → is_some o ≡ is_some p → o ≡ p
marked None None e = refl
marked None (Some y) e = cc
marked (Some x) None e = cc
marked (Some x) (Some y) e = refl

-- an empty set has no prefix
pub contains-empty : (q : Cidr) → contains empty q ≡ false
contains-empty q = ap is_some (fin.get-empty prefix_cmp q)

-- what a set has after a prefix was put in
pub contains-insert : (s : PrefixSet) (p q : Cidr)
    → contains (insert s p) q ≡ (same_prefix q p || contains s q)
contains-insert s p q = ap is_some (get_inserted s p tt q) ∙ some_or _ (fin.get s q)

-- what a set has after a prefix was taken out
pub contains-remove : (s : PrefixSet) (p q : Cidr)
    → contains (remove s p) q ≡ (not (same_prefix q p) && contains s q)
contains-remove s p q = ap is_some (get_removed s p q) ∙ none_or _ (fin.get s q)

-- what a set has after prefixes were put in
pub contains-insert_all : (s : PrefixSet) (ps : List Cidr) (q : Cidr)
    → contains (insert_all s ps) q ≡ (list_any (same_prefix q) ps || contains s q)
contains-insert_all s [] q = refl
contains-insert_all s (p ∷ ps) q =
    contains-insert_all (insert s p) ps q
    ∙ ap (λ b. list_any (same_prefix q) ps || b) (contains-insert s p q)
    ∙ turned (list_any (same_prefix q) ps) (same_prefix q p) (contains s q)
  where
    turned : (x y z : Bool) → (x || (y || z)) ≡ ((y || x) || z)
    turned true true z = refl
    turned true false z = refl
    turned false true z = refl
    turned false false z = refl

contains-keys : (s : PrefixSet) (q : Cidr)
    → contains s q ≡ list_any (same_prefix q) (fin.keys s)
contains-keys s q = among_keys s q

-- sets that have the same prefixes are the same
pub same_set : (s t : PrefixSet) → ((q : Cidr) → contains s q ≡ contains t q) → s ≡ t
same_set s t same = same_rows s t (λ q. marked (fin.get s q) (fin.get t q) (same q))

-- what isn't in the set with p isn't p, and isn't in the set
pub not_inserted : (s : PrefixSet) (p q : Cidr) → contains (insert s p) q ≡ false
    → (same_prefix q p ≡ false) × (contains s q ≡ false)
not_inserted s p q e = neither (same_prefix q p) (contains s q) (sym (contains-insert s p q) ∙ e)
  where
    neither : (a b : Bool) → (a || b) ≡ false → (a ≡ false) × (b ≡ false)
    neither true b e = cc
    neither false b e = (refl, e)

-- what is not in the set with many prefixes is none of them, and was not in it
pub not_inserted_all : (s : PrefixSet) (ps : List Cidr) (q : Cidr)
    → contains (insert_all s ps) q ≡ false
    → (contains s q ≡ false) × (list_any (same_prefix q) ps ≡ false)
not_inserted_all s ps q e =
    neither (list_any (same_prefix q) ps) (contains s q) (sym (contains-insert_all s ps q) ∙ e)
  where
    neither : (a b : Bool) → (a || b) ≡ false → (b ≡ false) × (a ≡ false)
    neither true b e = cc
    neither false b e = (e, refl)

-- what was not there is gone again
pub undo_insert : (s : PrefixSet) (p : Cidr) → contains s p ≡ false → remove (insert s p) p ≡ s
undo_insert s p h =
    same_set _ _ (λ q. contains-remove (insert s p) p q
    ∙ ap (λ b. not (same_prefix q p) && b) (contains-insert s p q) ∙ elim (same_tells q p) [
      | inl same ↦
          ap (λ b. not b && (b || contains s q)) same.0 ∙ sym h ∙ ap (contains s) (sym same.1)
      | inr other ↦ ap (λ b. not b && (b || contains s q)) other.0
    ])

-- a prefix that is there is put in without a change
pub insert_again : (s : PrefixSet) (p : Cidr) → contains s p ≡ true → insert s p ≡ s
insert_again s p h = same_set _ _ (λ q. contains-insert s p q ∙ elim (same_tells q p) [
  | inl same ↦ ap (λ b. b || contains s q) same.0 ∙ sym h ∙ ap (contains s) (sym same.1)
  | inr other ↦ ap (λ b. b || contains s q) other.0
])

remove_again : (s : PrefixSet) (p : Cidr) → contains s p ≡ false → remove s p ≡ s
remove_again s p h = same_set _ _ (λ q. contains-remove s p q ∙ elim (same_tells q p) [
  | inl same ↦ ap (λ b. not b && contains s q) same.0 ∙ sym h ∙ ap (contains s) (sym same.1)
  | inr other ↦ ap (λ b. not b && contains s q) other.0
])

insert_all-append : (s : PrefixSet) (ps qs : List Cidr)
    → insert_all s (ps ++ qs) ≡ insert_all (insert_all s ps) qs
insert_all-append s [] qs = refl
insert_all-append s (p ∷ ps) qs = insert_all-append (insert s p) ps qs

-- a set is made of its prefixes
pub insert_all-keys : (s : PrefixSet) → insert_all empty (fin.keys s) ≡ s
insert_all-keys s =
    same_set (insert_all empty (fin.keys s)) s (λ q. contains-insert_all empty (fin.keys s) q
    ∙ ap (λ b. list_any (same_prefix q) (fin.keys s) || b) (contains-empty q)
    ∙ or_false (list_any (same_prefix q) (fin.keys s)) ∙ sym (contains-keys s q))
  where
    or_false : (t : Bool) → (t || false) ≡ t
    or_false true = refl
    or_false false = refl

-- one more of the prefixes that a loop puts in
pub insert_all-drop : {A : Type 0} (prefix : A → Cidr) (s : PrefixSet) (xs : List A) (i : ℕ) (x : A)
    → i < length xs → x ≡ get_or xs i x
    → insert_all (insert s (prefix x)) (map prefix (drop (i + 1) xs))
    ≡ insert_all s (map prefix (drop i xs))
insert_all-drop prefix s xs i x inside is =
    let next : drop i xs ≡ get_or xs i x ∷ drop (i + 1) xs = rw add-one (drop-cons xs i x inside) in
    ap (λ y. insert_all (insert s (prefix y)) (map prefix (drop (i + 1) xs))) is
    ∙ sym (ap (λ ys. insert_all s (map prefix ys)) next)

-- the keys that rows show
pub keys_of_rows : {A X : Type 0} (prefix : A → Cidr) (value : A → X) (rows : List A)
    (m : FinMap prefix_cmp X)
    → map (λ r. (prefix r, value r)) rows ≡ fin.entries m → map prefix rows ≡ fin.keys m
keys_of_rows {A} {X} prefix value rows m is = firsts rows ∙ ap (map (λ (e : Cidr × X). e.0)) is
  where
    firsts : (rows : List A)
        → map prefix rows ≡ map (λ (e : Cidr × X). e.0) (map (λ r. (prefix r, value r)) rows)
    firsts [] = refl
    firsts (r ∷ rows) = ap (λ ks. prefix r ∷ ks) (firsts rows)

-- the values that rows show
values_of_rows : {A X : Type 0} (prefix : A → Cidr) (value : A → X) (rows : List A)
    (m : FinMap prefix_cmp X)
    → map (λ r. (prefix r, value r)) rows ≡ fin.entries m → map value rows ≡ fin.values m
values_of_rows {A} {X} prefix value rows m is = seconds rows ∙ ap (map (λ (e : Cidr × X). e.1)) is
  where
    seconds : (rows : List A)
        → map value rows ≡ map (λ (e : Cidr × X). e.1) (map (λ r. (prefix r, value r)) rows)
    seconds [] = refl
    seconds (r ∷ rows) = ap (λ vs. value r ∷ vs) (seconds rows)

-- ---- the keys of a map ascend

above_all : {X : Type 0} (p : Cidr) (es : List (Cidr × X)) → T (below_all prefix_cmp p es)
    → AllByRecursion (λ q. prefix_cmp p q ≡ Less) (map (λ e. e.0) es)
above_all p [] h = tt
above_all p (e ∷ es) h = (is_less _ (first_true _ _ h), above_all p es (second_true _ _ h))

sorted_keys : {X : Type 0} (es : List (Cidr × X)) → T (is_sorted prefix_cmp es)
    → IsStrictlySortedBy prefix_cmp (map (λ e. e.0) es)
unfolding IsStrictlySortedBy
sorted_keys [] s = tt
sorted_keys (e ∷ es) s = (above_all e.0 es (first_true _ _ s), sorted_keys es (second_true _ _ s))

keys_ascend : {X : Type 0} (m : FinMap prefix_cmp X)
    → IsStrictlySortedBy prefix_cmp (fin.keys m)
keys_ascend m = sorted_keys (fin.entries m) (fin.entries_sorted m)

all_by_key : {A : Type 0} (prefix : A → Cidr) (p : Cidr) (rows : List A)
    → AllByRecursion (λ q. prefix_cmp p q ≡ Less) (map prefix rows)
    → AllByRecursion (λ r. prefix_cmp p (prefix r) ≡ Less) rows
all_by_key prefix p [] h = tt
all_by_key prefix p (r ∷ rows) h = (h.0, all_by_key prefix p rows h.1)

ascend_by_key : {A : Type 0} (prefix : A → Cidr) (rows : List A)
    → IsStrictlySortedBy prefix_cmp (map prefix rows)
    → IsStrictlySortedBy (on prefix prefix_cmp) rows
unfolding IsStrictlySortedBy
ascend_by_key prefix [] s = tt
ascend_by_key prefix (r ∷ rows) s =
    (all_by_key prefix (prefix r) rows s.0, ascend_by_key prefix rows s.1)

-- rows that show the keys of a map ascend
pub rows_ascend : {A X : Type 0} (prefix : A → Cidr) (rows : List A) (m : FinMap prefix_cmp X)
    → map prefix rows ≡ fin.keys m → IsStrictlySortedBy (on prefix prefix_cmp) rows
rows_ascend prefix rows m is =
    ascend_by_key prefix rows (subst (IsStrictlySortedBy prefix_cmp) (sym is) (keys_ascend m))

-- ---- the least prefix of a set

-- the least prefix of a set is in it
pub least_there : (s : PrefixSet) (p : Cidr) → least s ≡ Some p → contains s p ≡ true
least_there s p e = contains-keys s p ∙ head (fin.keys s) e
  where
    head : (ks : List Cidr) → slice_get ks 0 ≡ Some p → list_any (same_prefix p) ks ≡ true
    head [] e = cc
    head (k ∷ ks) e =
        let same : k ≡ p = cc in
        ap (λ b. b || list_any (same_prefix p) ks) (ap (same_prefix p) same ∙ same_itself p)

-- an empty set has no least prefix
pub least_of_empty : least empty ≡ None
least_of_empty = ap (λ ks. slice_get ks 0) (keys_of_empty (Unit {0}))

-- a set with no least prefix is empty
pub no_least : (s : PrefixSet) → least s ≡ None → s ≡ empty
no_least s e = empty_from_entries s (no_keys (fin.entries s) e)
  where
    no_keys : (es : List (Cidr × Unit {0})) → slice_get (map (λ e. e.0) es) 0 ≡ None → es ≡ []
    no_keys [] e = refl
    no_keys (x ∷ es) e = cc

-- the least prefix is below all others
pub least_is_below : (s : PrefixSet) (p q : Cidr) → least s ≡ Some p → contains s q ≡ true
    → same_prefix q p ≡ false → prefix_cmp p q ≡ Less
least_is_below s p q is held other =
    first_below (fin.entries s) (fin.entries_sorted s) is (sym (contains-keys s q) ∙ held)
  where
    above : (es : List (Cidr × Unit {0})) → T (below_all prefix_cmp p es)
        → list_any (same_prefix q) (map (λ e. e.0) es) ≡ true → prefix_cmp p q ≡ Less
    above [] h among = cc
    above (e ∷ es) h among = elim (same_tells q e.0) [
      | inl same ↦ ap (prefix_cmp p) same.1 ∙ is_less _ (first_true _ _ h)
      | inr not ↦
          above es (second_true _ _ h)
          (sym (ap (λ b. b || list_any (same_prefix q) (map (λ e. e.0) es)) not.0) ∙ among)
    ]

    first_below : (es : List (Cidr × Unit {0})) → T (is_sorted prefix_cmp es)
        → slice_get (map (λ e. e.0) es) 0 ≡ Some p
        → list_any (same_prefix q) (map (λ e. e.0) es) ≡ true → prefix_cmp p q ≡ Less
    first_below [] s e among = cc
    first_below (e ∷ es) s at among =
        let here : e.0 ≡ p = cc in
        above es (subst (λ k. T (below_all prefix_cmp k es)) here (first_true _ _ s))
        (sym (ap (λ b. b || list_any (same_prefix q) (map (λ e. e.0) es))
        (ap (same_prefix q) here ∙ other))
        ∙ among)
