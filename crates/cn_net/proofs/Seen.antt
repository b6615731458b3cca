-- How the list of neighbours is made: two ends for each link, and then a sort.
use Rattle.std.proofs.Common.{◌≡◌, ◌≢◌, ℕ, ◌+◌, ◌<◌, ◌==◌, ◌&&◌, ◌||◌, Bool, true, false, List, [], ◌∷◌, ◌++◌, length, get_or, Ordering, Less, Equal, Greater, refl, sym, ◌∙◌, ap, subst, true≢false, inl, inr, arith}
use Rattle.std.specs.Bool.{Decides}
use Rattle.std.specs.Cmp.{IsEquivalence, IsTotalOrder}
use Rattle.std.specs.List.{All, Contains, IsDistinct, list_any}
use Rattle.std.specs.List.Sorted.{IsPermutation, IsSortedBy}
use Rattle.std.specs.Ordering.{is_eq, is_lt, ordering_reverse}
use Rattle.std.proofs.lemmas.Bool.{cases_lt, false_from_ne_true}
use Rattle.std.proofs.lemmas.Bool.Decides.{Decides-and, nat_tests}
use Rattle.std.proofs.lemmas.Cmp.{nat_cmp_total, on_total, then_total}
use Rattle.std.proofs.lemmas.List.{get_or_default}
use Rattle.std.proofs.lemmas.List.Elements.{All-nil, All-push, All-weaker, Contains-append_left, Contains-push}
use Rattle.std.proofs.lemmas.List.Folds.{Any-from_list_any, list_any-append}
use Rattle.std.proofs.lemmas.List.Sorted.{All-permutation, Contains-permutation, ranks_by, sorted_far}
use Rattle.std.proofs.lemmas.Map.Keys.{apart_from_distinct, IsDistinct-IsPermutation, IsDistinct-push}
use Rattle.cn_base.specs.declared.ids.DeviceId.{DeviceId}
use Rattle.cn_net.specs.Neighbours.{AreNeighbours, TellsOfLink, by_ends, seen_from_a, seen_from_b}
use Rattle.cn_net.specs.Network.{joins, same_device}
use Rattle.cn_net.specs.Valid.{same_ends}
use Rattle.cn_net.specs.declared.device.Link.{Link}
use Rattle.cn_net.specs.declared.neighbours.Neighbour.{Neighbour}
use Rattle.cn_net.proofs.Keys.{equivalence, same_device-Decides, same_number}

-- ---- two ends that are the same

abbrev pub same_neighbour : Neighbour → Neighbour → Bool
same_neighbour x y = x.link == y.link && (same_device x.of y.of && same_device x.device y.device)

parts_decide : (x y : Neighbour) → Decides (same_neighbour x y)
    ((x.link ≡ y.link) × ((x.of ≡ y.of) × (x.device ≡ y.device)))
parts_decide x y =
    Decides-and (x.link == y.link) (same_device x.of y.of && same_device x.device y.device)
    (same_number x.link y.link)
    (Decides-and (same_device x.of y.of) (same_device x.device y.device)
    (same_device-Decides x.of y.of) (same_device-Decides x.device y.device))

same_neighbour-Decides : (x y : Neighbour) → Decides (same_neighbour x y) (x ≡ y)
same_neighbour-Decides x y =
    let parts = parts_decide x y in (
      (λ t. let e = parts.0 t in λ i. record { of = e.1.0 i; device = e.1.1 i; link = e.0 i }),
      (λ e. parts.1 (ap (λ z. z.link) e, (ap (λ z. z.of) e, ap (λ z. z.device) e))),
    )

laws : IsEquivalence same_neighbour
laws = equivalence same_neighbour same_neighbour-Decides

-- ---- one more link

-- the first links, each as its two ends see it
pub record IsSeen (links : List Link) (count : ℕ) (list : List Neighbour) : Type 0 where
  pub below : All (λ n. n.link < count) list
  pub each : All (TellsOfLink links) list
  pub first : (k : ℕ) (l : Link) → k < count → Contains list (seen_from_a k (get_or links k l))
  pub second : (k : ℕ) (l : Link) → k < count → Contains list (seen_from_b k (get_or links k l))
  pub once : IsDistinct same_neighbour list

pub seen_none : (links : List Link) → IsSeen links 0 []
unfolding IsDistinct
seen_none links = record {
  below = All-nil (λ n. n.link < 0);
  each = All-nil (TellsOfLink links);
  first = λ k l lt. absurd (omega arith);
  second = λ k l lt. absurd (omega arith);
  once = tt;
}

joins_its_ends : (l : Link) → joins l.a l.b l ≡ true
joins_its_ends l = grind (arith, nat_tests)

joins_its_ends_turned : (l : Link) → joins l.b l.a l ≡ true
joins_its_ends_turned l = grind (arith, nat_tests)

moved : (links : List Link) (i : ℕ) (l d : Link) → i < length links → l ≡ get_or links i l
    → l ≡ get_or links i d
moved links i l d within is = is ∙ get_or_default links i l d within

tells_a : (links : List Link) (i : ℕ) (l : Link) → i < length links → l ≡ get_or links i l
    → TellsOfLink links (seen_from_a i l)
tells_a links i l within is = record {
  within = within;
  joined = λ d. ap (joins l.a l.b) (sym (moved links i l d within is)) ∙ joins_its_ends l;
}

tells_b : (links : List Link) (i : ℕ) (l : Link) → i < length links → l ≡ get_or links i l
    → TellsOfLink links (seen_from_b i l)
tells_b links i l within is = record {
  within = within;
  joined = λ d. ap (joins l.b l.a) (sym (moved links i l d within is)) ∙ joins_its_ends_turned l;
}

fresh : (n : Neighbour) (list : List Neighbour) (i : ℕ) → All (λ m. m.link < i) list → n.link ≡ i
    → list_any (same_neighbour n) list ≡ false
fresh n list i below is = false_from_ne_true (list_any (same_neighbour n) list) (λ t.
    let a = Any-from_list_any (same_neighbour n) list t in
    let at : (get_or list a.0 a.1).link < i = below a.0 a.1 a.2 in
    let same : n.link ≡ a.1.link = ((parts_decide n a.1).0 a.4).0 in
    let here : (get_or list a.0 a.1).link ≡ a.1.link = ap (λ z. z.link) a.3 in
    omega arith)

ends_differ : (i : ℕ) (l : Link) → l.a ≢ l.b → same_neighbour (seen_from_b i l)
    (seen_from_a i l) ≡ false
ends_differ i l apart = false_from_ne_true (same_neighbour (seen_from_b i l) (seen_from_a i l))
    (λ t.
    apart (((parts_decide (seen_from_b i l) (seen_from_a i l)).0 t).1.1))

fresh_behind : (i : ℕ) (l : Link) (list : List Neighbour) → l.a ≢ l.b → All (λ m. m.link < i) list
    → list_any (same_neighbour (seen_from_b i l)) (list ++ seen_from_a i l ∷ []) ≡ false
fresh_behind i l list apart below =
    list_any-append (same_neighbour (seen_from_b i l)) list (seen_from_a i l ∷ [])
    ∙ (λ j. fresh (seen_from_b i l) list i below refl j || (ends_differ i l apart j || false))

pub seen_more : (links : List Link) (i : ℕ) (l : Link) (list : List Neighbour) → i < length links
    → l ≡ get_or links i l → l.a ≢ l.b → IsSeen links i list → IsSeen links (i + 1)
    ((list ++ seen_from_a i l ∷ []) ++ seen_from_b i l ∷ [])
seen_more links i l list within is apart so =
    let x = seen_from_a i l in
    let y = seen_from_b i l in
    let one = list ++ x ∷ [] in
    let here : (k : ℕ) (d : Link) → i ≡ k → l ≡ get_or links k d =
    λ k d e. moved links i l d within is ∙ ap (λ m. get_or links m d) e in
    let below : All (λ n. n.link < i + 1) list = All-weaker (λ n. n.link < i) (λ n. n.link < i + 1)
    (λ n lt. omega arith) list so.below in
    record {
      below = All-push (λ n. n.link < i + 1) one y
          (All-push (λ n. n.link < i + 1) list x below (omega arith)) (omega arith);
      each = All-push (TellsOfLink links) one y
          (All-push (TellsOfLink links) list x so.each (tells_a links i l within is))
          (tells_b links i l within is);
      first = λ k d lt. Contains-append_left one (y ∷ []) (seen_from_a k (get_or links k d))
          (elim (cases_lt k i) [
            | inl low ↦ Contains-append_left list (x ∷ []) (seen_from_a k (get_or links k d))
                (so.first k d low)
            | inr high ↦ let e : i ≡ k = omega arith in subst (λ n. Contains one n)
                (λ j. seen_from_a (e j) (here k d e j)) (Contains-push list x)
          ]);
      second = λ k d lt. elim (cases_lt k i) [
        | inl low ↦ Contains-append_left one (y ∷ []) (seen_from_b k (get_or links k d))
            (Contains-append_left list (x ∷ []) (seen_from_b k (get_or links k d))
            (so.second k d low))
        | inr high ↦ let e : i ≡ k = omega arith in subst (λ n. Contains (one ++ y ∷ []) n)
            (λ j. seen_from_b (e j) (here k d e j)) (Contains-push one y)
      ];
      once = IsDistinct-push laws one y
          (IsDistinct-push laws list x so.once (fresh x list i so.below refl))
          (fresh_behind i l list apart so.below);
    }

-- ---- at most one link joins two devices

joined_alike : (a b : DeviceId) (k l : Link) → joins a b k ≡ true → joins a b l ≡ true
    → same_ends k l ≡ true
joined_alike a b k l s t = grind (arith, nat_tests)

pub one_place : (links : List Link) (a b : DeviceId) (i j : ℕ) (d : Link)
    → IsDistinct same_ends links → i < length links → j < length links
    → joins a b (get_or links i d) ≡ true → joins a b (get_or links j d) ≡ true → i ≡ j
one_place links a b i j d distinct within within' s t =
    elim (cases_lt i j) [
      | inl lt ↦ absurd (true≢false
          (sym (joined_alike a b (get_or links i d) (get_or links j d) s t)
          ∙ apart_from_distinct same_ends links i j d distinct lt within'))
      | inr le ↦ elim (cases_lt j i) [
        | inl lt ↦ absurd (true≢false
            (sym (joined_alike a b (get_or links j d) (get_or links i d) t s)
            ∙ apart_from_distinct same_ends links j i d distinct lt within))
        | inr ge ↦ omega arith
      ]
    ]

-- ---- after the sort

pub by_ends_total : IsTotalOrder by_ends
by_ends_total = then_total (on_total (λ (n : Neighbour). n.of.0) nat_cmp_total)
    (on_total (λ (n : Neighbour). n.device.0) nat_cmp_total)

tied : (x y : Neighbour) → (same_device x.of y.of && same_device x.device y.device)
    ≡ is_eq (by_ends x y)
tied x y = grind (arith, nat_tests)

pub same_from_tie : (x y : Neighbour) → by_ends x y ≡ Equal → (x.of ≡ y.of) × (x.device ≡ y.device)
same_from_tie x y e = (Decides-and (same_device x.of y.of) (same_device x.device y.device)
    (same_device-Decides x.of y.of) (same_device-Decides x.device y.device)).0 (tied x y
    ∙ ap is_eq e)

risen : (x y : Neighbour) (o : Ordering) → by_ends x y ≡ o → is_lt (by_ends y x) ≡ false
    → (by_ends x y ≡ Equal → ⊥) → o ≡ Less
risen x y Less e low no_tie = refl
risen x y Equal e low no_tie = absurd (no_tie e)
risen x y Greater e low no_tie =
    absurd (true≢false (sym (ap is_lt (by_ends_total.antisymm y x ∙ ap ordering_reverse e)) ∙ low))

no_tie : (links : List Link) (x y : Neighbour) → IsDistinct same_ends links → TellsOfLink links x
    → TellsOfLink links y → same_neighbour x y ≡ false → by_ends x y ≡ Equal → ⊥
no_tie links x y distinct tx ty differ e =
    let d : Link = record { a = x.of; b = x.of; up = false } in
    let same = same_from_tie x y e in
    let s : joins x.of x.device (get_or links y.link d) ≡ true =
    (λ j. joins (same.0 j) (same.1 j) (get_or links y.link d)) ∙ ty.joined d in
    let place = one_place links x.of x.device x.link y.link d distinct tx.within ty.within
    (tx.joined d) s in
    true≢false (sym ((parts_decide x y).1 (place, same)) ∙ differ)

pub sorted_seen : (links : List Link) (list ys : List Neighbour) → IsDistinct same_ends links
    → IsSeen links (length links) list → IsPermutation list ys
    → IsSortedBy (λ x y. is_lt (by_ends x y)) ys → AreNeighbours links ys
sorted_seen links list ys distinct so moves sorted =
    let each = All-permutation (TellsOfLink links) list ys moves so.each in
    let once = IsDistinct-IsPermutation same_neighbour laws.symm list ys moves so.once in
    record {
      each = each;
      first = λ k l lt. Contains-permutation list ys (seen_from_a k (get_or links k l)) moves
          (so.first k l lt);
      second = λ k l lt. Contains-permutation list ys (seen_from_b k (get_or links k l)) moves
          (so.second k l lt);
      ascending = λ i j d lt within.
          let x = get_or ys i d in
          let y = get_or ys j d in
          risen x y (by_ends x y) refl (sorted_far (λ m n. is_lt (by_ends m n))
          (ranks_by by_ends_total (λ (n : Neighbour). n)) ys sorted i j d (omega arith) within)
          (no_tie links x y distinct (each i d (omega arith)) (each j d within)
          (apart_from_distinct same_neighbour ys i j d once lt within));
    }
