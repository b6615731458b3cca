-- What a sort by device and prefix leaves, and the first pair that it brings together.
use Rattle.std.proofs.Common.{◌≡◌, ℕ, zero, suc, ◌+◌, ◌-◌, ◌<◌, ◌≤◌, Bool, true, false, cond, List, [], ◌∷◌, length, get_or, take, drop, Less, Equal, Greater, refl, sym, ap, subst, ◌∙◌, inl, inr, arith}
use Rattle.std.specs.Prelude.{count_by}
use Rattle.std.specs.List.{AllByRecursion}
use Rattle.std.specs.List.Sorted.{IsPermutation, IsSortedBy, IsStrictlySortedBy}
use Rattle.std.specs.Ordering.{is_eq, is_lt, ordering_reverse}
use Rattle.std.specs.declared.cmp.Ordering.{Ordering}
use Rattle.std.proofs.lemmas.Bool.{cases_Bool, true≢false}
use Rattle.std.proofs.lemmas.Bool.Decides.{nat_tests}
use Rattle.std.proofs.lemmas.Cmp.{on_total}
use Rattle.std.proofs.lemmas.List.{get_or_default, get_or-drop, get_or-take, length-drop, length-take-le, take_all}
use Rattle.std.proofs.lemmas.List.Elements.{recursion_from_All}
use Rattle.std.proofs.lemmas.List.Sorted.{ranks_by, sorted_far, sum_by-IsPermutation}
use Rattle.std.proofs.lemmas.List.Sums.{count_by_more_yes, sum_by-cons, sum_by-take-drop, sum_by-take-le}
use Rattle.std.proofs.lemmas.Map.Keys.{sorted_from_all_adjacent}
use Rattle.cn_base.specs.Cidr.{Cidr}
use Rattle.cn_base.specs.declared.ids.DeviceId.{DeviceId}
use Rattle.cn_record.specs.Repeats.{HasNoTie, HasNoTieBelow, IsFirstTie}
use Rattle.cn_record.specs.Rows.{AscendsByPair, IsFirstRepeat, IsRepeated, StandsBefore, is_row, pair_cmp}
use Rattle.cn_record.specs.declared.saved.Row.{Row}
use Rattle.cn_record.proofs.Pairs.{pair_cmp_total, pair_of}

-- the rows don't fall
abbrev pub IsByPair : List Row → Type 0
IsByPair rows = IsSortedBy (λ x y. is_lt (pair_cmp (pair_of x) (pair_of y))) rows

-- ---- rows that rise

risen : (x y : DeviceId × Cidr) (o : Ordering) → pair_cmp x y ≡ o → is_lt (pair_cmp y x) ≡ false
    → is_eq o ≡ false → o ≡ Less
risen x y Less e low no_tie = refl
risen x y Equal e low no_tie = absurd (true≢false no_tie)
risen x y Greater e low no_tie =
    absurd (true≢false (sym (ap is_lt (pair_cmp_total.antisymm y x ∙ ap ordering_reverse e)) ∙ low))

turned : (x y : Row) → is_row x.device x.prefix y ≡ is_eq (pair_cmp (pair_of x) (pair_of y))
turned x y = grind (arith, nat_tests)

rises_to : (rows : List Row) (n : ℕ) → n ≤ length rows → IsByPair rows → HasNoTieBelow rows n
    → AscendsByPair (take n rows)
unfolding IsStrictlySortedBy
rises_to [] zero le sorted apart = tt
rises_to [] (suc n) le sorted apart = absurd (omega arith)
rises_to (x ∷ xs) n le sorted apart =
    let rows : List Row = x ∷ xs in
    sorted_from_all_adjacent (on_total pair_of pair_cmp_total) (take n rows) x (λ k lt.
    let short : length (take n rows) ≡ n = length-take-le n rows le in
    let below : k + 1 < n = omega arith in
    let here = get_or-take n rows k x (omega arith) in
    let next = get_or-take n rows (k + 1) x below in
    let y = get_or rows k x in
    let z = get_or rows (k + 1) x in
    let less : pair_cmp (pair_of y) (pair_of z) ≡ Less =
    risen (pair_of y) (pair_of z) _ refl (sorted k x (omega arith) (omega arith))
    (sym (turned y z) ∙ apart k x below) in
    (λ i. pair_cmp (pair_of (here i)) (pair_of (next i))) ∙ less)

-- ---- how often a device and a prefix stand among rows that rise

none_counted : (t : Row → Bool) (rows : List Row) → AllByRecursion (λ r. t r ≡ false) rows
    → count_by t rows ≡ 0
none_counted t [] h = refl
none_counted t (r ∷ rows) h = sum_by-cons (λ x. cond (t x) 1 0) r rows
    ∙ (λ i. cond (h.0 i) 1 0 + none_counted t rows h.1 i)

later_differs : (x y : Row) (d : DeviceId) (p : Cidr) → pair_cmp (pair_of x) (pair_of y) ≡ Less
    → is_row d p x ≡ true → is_row d p y ≡ false
later_differs x y d p less t = grind (arith, nat_tests)

others_differ : (x : Row) (rows : List Row) (d : DeviceId) (p : Cidr) → is_row d p x ≡ true
    → AllByRecursion (λ y. pair_cmp (pair_of x) (pair_of y) ≡ Less) rows
    → AllByRecursion (λ r. is_row d p r ≡ false) rows
others_differ x [] d p t h = tt
others_differ x (y ∷ rows) d p t h = (later_differs x y d p h.0 t, others_differ x rows d p t h.1)

counted : (t b : Bool) → t ≡ b → ◌≡◌ {A = ℕ} (cond t 1 0) (cond b 1 0)
counted t b e = ap (λ (x : Bool). cond {A = ℕ} x 1 0) e

one_counted : (rows : List Row) (d : DeviceId) (p : Cidr) → AscendsByPair rows
    → count_by (is_row d p) rows ≤ 1
unfolding IsStrictlySortedBy
one_counted [] d p up = omega arith
one_counted (x ∷ rows) d p up =
    let step = sum_by-cons (λ r. cond (is_row d p r) 1 0) x rows in
    elim (cases_Bool (is_row d p x)) [
      | inl t ↦
          let none = none_counted (is_row d p) rows (others_differ x rows d p t up.0) in
          let one = counted (is_row d p x) true t in
          omega arith
      | inr f ↦
          let rest = one_counted rows d p up.1 in
          let none = counted (is_row d p x) false f in
          omega arith
    ]

moved : (xs ys : List Row) (d : DeviceId) (p : Cidr) → IsPermutation xs ys
    → count_by (is_row d p) ys ≡ count_by (is_row d p) xs
moved xs ys d p moves = sum_by-IsPermutation (λ r. cond (is_row d p r) 1 0) xs ys moves

-- ---- no two rows of one device and prefix

pub ascends : (rows : List Row) → IsByPair rows → HasNoTie rows → AscendsByPair rows
ascends rows sorted apart =
    subst AscendsByPair (take_all (length rows) rows (omega arith))
    (rises_to rows (length rows) (omega arith) sorted apart)

pub stands_once : (xs ys : List Row) → IsPermutation xs ys → IsByPair ys → HasNoTie ys
    → (d : DeviceId) (p : Cidr) → IsRepeated xs d p → ⊥
stands_once xs ys moves sorted apart d p twice =
    let one = one_counted ys d p (ascends ys sorted apart) in
    let same = moved xs ys d p moves in
    omega arith

-- ---- the first two rows of one device and prefix

both_pass : (x y : Row) → is_row x.device x.prefix y ≡ true → is_row y.device y.prefix x ≡ true
both_pass x y t = grind (arith, nat_tests)

itself : (x : Row) → is_row x.device x.prefix x ≡ true
itself x = grind (arith, nat_tests)

twice : (rows : List Row) (k : ℕ) (e : Row) → IsFirstTie rows k
    → IsRepeated rows (get_or rows k e).device (get_or rows k e).prefix
twice rows k e tie =
    let x = get_or rows k e in
    let t = is_row x.device x.prefix in
    let up : k - 1 + 1 ≡ k = omega arith in
    let first : t (get_or rows (k - 1) e) ≡ true =
    both_pass (get_or rows (k - 1) e) x
    (subst
    (λ n. is_row (get_or rows (k - 1) e).device (get_or rows (k - 1) e).prefix
    (get_or rows n e) ≡ true) up (tie.tie e)) in
    let one = count_by_more_yes t rows (k - 1) e (omega arith) first in
    let one' : count_by t (take k rows) ≡ count_by t (take (k - 1) rows) + 1 =
    subst (λ n. count_by t (take n rows) ≡ count_by t (take (k - 1) rows) + 1) up one in
    let two = count_by_more_yes t rows k e tie.within (itself x) in
    let most = sum_by-take-le (λ r. cond (t r) 1 0) rows (k + 1) in
    omega arith

above_differs : (x y : Row) (d : DeviceId) (p : Cidr) → pair_cmp (d, p) (pair_of x) ≡ Less
    → is_lt (pair_cmp (pair_of y) (pair_of x)) ≡ false → is_row d p y ≡ false
above_differs x y d p less low = grind (arith, nat_tests)

none_before : (rows : List Row) (k : ℕ) (e : Row) → IsByPair rows → IsFirstTie rows k
    → (x : DeviceId) (q : Cidr) → IsRepeated rows x q
    → StandsBefore x q (get_or rows k e).device (get_or rows k e).prefix → ⊥
none_before rows k e sorted tie x q many before =
    let t = is_row x q in
    let within : k ≤ length rows = omega (arith, tie.within) in
    let low = one_counted (take k rows) x q (rises_to rows k within sorted tie.first) in
    let high = none_counted t (drop k rows)
    (recursion_from_All (λ r. t r ≡ false) (drop k rows) (λ j d lt.
    let in' : k + j < length rows = let l = length-drop k rows in omega arith in
    let far = sorted_far (λ a b. is_lt (pair_cmp (pair_of a) (pair_of b)))
    (ranks_by pair_cmp_total pair_of) rows sorted k (k + j) d (omega arith) in' in
    let here = get_or_default rows k e d tie.within in
    ap t (get_or-drop k rows j d)
    ∙ above_differs (get_or rows k d) (get_or rows (k + j) d) x q
    (subst (λ r. pair_cmp (x, q) (pair_of r) ≡ Less) here before) far)) in
    let parts = sum_by-take-drop (λ r. cond (t r) 1 0) rows k in
    omega arith

at_pair : (P : DeviceId → Cidr → Type 0) (d e : DeviceId) (p q : Cidr) → d ≡ e → p ≡ q → P d p
    → P e q
at_pair P d e p q de pq h = subst (P e) pq (subst (λ z. P z p) de h)

pub first_pair : (xs ys : List Row) (k : ℕ) (x y : Row) → IsPermutation xs ys → IsByPair ys
    → IsFirstTie ys k → x ≡ get_or ys k x → y ≡ get_or ys k y → IsFirstRepeat xs x.device y.prefix
first_pair xs ys k x y moves sorted tie at at' =
    let there = at' ∙ get_or_default ys k y x tie.within in
    let device : x.device ≡ (get_or ys k x).device = ap (λ (r : Row). r.device) at in
    let prefix : y.prefix ≡ (get_or ys k x).prefix = ap (λ (r : Row). r.prefix) there in
    record {
      repeated = let same = moved xs ys x.device y.prefix moves in
          let two = at_pair (IsRepeated ys) _ _ _ _ (sym device) (sym prefix) (twice ys k x tie) in
          omega arith;
      first = λ d p many before. none_before ys k x sorted tie d p
          (let same = moved xs ys d p moves in omega arith)
          (at_pair (StandsBefore d p) _ _ _ _ device prefix before);
    }
