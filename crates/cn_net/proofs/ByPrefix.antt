-- What devices originate, by prefix: how the lists are made, and what is found in them.
use Rattle.std.proofs.Common.{◌≡◌, ℕ, zero, suc, ◌<◌, Bool, true, false, List, [], ◌∷◌, ◌++◌, length, get_or, set, map, Option, Some, None, Less, option_map, find, refl, sym, ◌∙◌, ap, subst, true≢false, arith}
use Rattle.std.specs.List.{AllPairs, AllZip, IsDistinct, slice_get}
use Rattle.std.specs.List.Sorted.{IsPermutation, IsSortedBy}
use Rattle.std.specs.Option.{option_and_then}
use Rattle.std.specs.Ordering.{is_eq, is_lt}
use Rattle.std.proofs.lemmas.Bool.{false_from_ne_true}
use Rattle.std.proofs.lemmas.Bool.Decides.{nat_tests}
use Rattle.std.proofs.lemmas.List.{get_or-map, length-map}
use Rattle.std.proofs.lemmas.List.Sorted.{All-permutation, Contains-permutation, IsPermutation-map, ranks_by, sorted_far}
use Rattle.std.proofs.lemmas.Map.Keys.{apart_from_distinct, IsDistinct-IsPermutation}
use Rattle.cn_lists.proofs.Finding.{All-from_find_none, Contains-from_find, find-first, find-none}
use Rattle.cn_base.specs.Cidr.{Cidr, same_prefix}
use Rattle.cn_base.specs.Table.{prefix_cmp}
use Rattle.cn_base.proofs.Lookups.{prefix_cmp_total}
use Rattle.cn_net.specs.Kept.{AreOwn, IsByPrefix}
use Rattle.cn_net.specs.Network.{own_of}
use Rattle.cn_net.specs.declared.device.Device.{Device}
use Rattle.cn_net.specs.declared.device.Own.{Own}
use Rattle.cn_net.proofs.Keys.{equivalence, same_prefix-Decides}

-- ---- one list, by prefix

rises : (p q : Cidr) → is_lt (prefix_cmp q p) ≡ false → same_prefix p q ≡ false
    → prefix_cmp p q ≡ Less
rises p q low apart = grind (arith, nat_tests)

-- a sort of a list without a repeated prefix makes it ascend
pub IsByPrefix-from_sort : (own list : List Own) → IsDistinct same_prefix (map (λ o. o.prefix) own)
    → IsPermutation own list → IsSortedBy (λ x y. is_lt (prefix_cmp x.prefix y.prefix)) list
    → IsByPrefix own list
IsByPrefix-from_sort own list once moved sorted =
    let prefix : Own → Cidr = λ o. o.prefix in
    let apart =
    IsDistinct-IsPermutation same_prefix (equivalence same_prefix same_prefix-Decides).symm
    (map prefix own) (map prefix list) (IsPermutation-map prefix own list moved) once in
    record {
      moved = moved;
      ascending = λ i j d lt within.
          let within' : i < length list = omega arith in
          let many : length (map prefix list) ≡ length list = length-map list prefix in
          let at_i = get_or-map prefix list i d d.prefix within' in
          let at_j = get_or-map prefix list j d d.prefix within in
          rises (get_or list i d).prefix (get_or list j d).prefix
          (sorted_far (λ (x y : Own). is_lt (prefix_cmp x.prefix y.prefix))
          (ranks_by prefix_cmp_total prefix) list sorted i j d (omega arith) within)
          ((λ k. same_prefix (sym at_i k) (sym at_j k))
          ∙ apart_from_distinct same_prefix (map prefix list) i j d.prefix apart lt (omega arith));
    }

-- ---- what is found in it

-- the two tests for a prefix agree
pub is_eq-prefix_cmp : (p q : Cidr) → is_eq (prefix_cmp p q) ≡ same_prefix p q
is_eq-prefix_cmp p q = grind (arith, nat_tests)

below_differs : (p q r : Cidr) → prefix_cmp p q ≡ Less → same_prefix q r ≡ true
    → same_prefix p r ≡ true → ⊥
below_differs p q r less same also = true≢false (grind (arith, nat_tests))

module _ (own list : List Own) (p : Cidr) (kept : IsByPrefix own list) where
  has : Own → Bool
  has o = same_prefix o.prefix p

  found_too : (o : Option Own) → find (λ o. same_prefix o.prefix p) own ≡ o
      → find (λ o. same_prefix o.prefix p) list ≡ o
  found_too None none =
      find-none (λ o. same_prefix o.prefix p) list
      (All-permutation (λ o. same_prefix o.prefix p ≡ false) own list kept.moved
      (All-from_find_none (λ o. same_prefix o.prefix p) own none))
  found_too (Some x) some =
      let h = Contains-from_find (λ o. same_prefix o.prefix p) own x some in
      let at = Contains-permutation own list x kept.moved h.0 in
      let k : ℕ = at.0 in
      let within : k < length list = at.1 in
      let is : get_or list k x ≡ x = at.2 in
      let here : same_prefix (get_or list k x).prefix p ≡ true =
      ap (λ (o : Own). same_prefix o.prefix p) is ∙ h.1 in
      find-first (λ o. same_prefix o.prefix p) list k x within
      (λ j lt. false_from_ne_true (same_prefix (get_or list j x).prefix p) (λ t.
      below_differs (get_or list j x).prefix (get_or list k x).prefix p
      (kept.ascending j k x lt within) here t))
      here
      ∙ ap Some is

  -- what is found by prefix is what is found in the plan's order
  pub find-by_prefix : find (λ o. same_prefix o.prefix p) list
      ≡ find (λ o. same_prefix o.prefix p) own
  find-by_prefix = found_too (find (λ o. same_prefix o.prefix p) own) refl

-- ---- two lists, place by place

module _ {A B : Type 0} (R : A → B → Type 0) where
  -- one more pair
  pub AllZip-push : (xs : List A) (ys : List B) (x : A) (y : B) → AllZip R xs ys → R x y
      → AllZip R (xs ++ x ∷ []) (ys ++ y ∷ [])
  AllZip-push [] [] x y zip r = (r, tt)
  AllZip-push [] (b ∷ ys) x y zip r = absurd zip
  AllZip-push (a ∷ xs) [] x y zip r = absurd zip
  AllZip-push (a ∷ xs) (b ∷ ys) x y zip r = (zip.0, AllZip-push xs ys x y zip.1 r)

  -- another pair in the place of one
  pub AllZip-set : (xs : List A) (ys : List B) (i : ℕ) (x : A) (y : B) → AllZip R xs ys → R x y
      → AllZip R (set xs i x) (set ys i y)
  AllZip-set [] [] i x y zip r = tt
  AllZip-set [] (b ∷ ys) i x y zip r = absurd zip
  AllZip-set (a ∷ xs) [] i x y zip r = absurd zip
  AllZip-set (a ∷ xs) (b ∷ ys) zero x y zip r = (r, zip.1)
  AllZip-set (a ∷ xs) (b ∷ ys) (suc i) x y zip r = (zip.0, AllZip-set xs ys i x y zip.1 r)

-- ---- what a device originates

module _ (p : Cidr) where
  -- a prefix is found in the list of its device
  pub own_of-listed : (devices : List Device) (lists : List (List Own)) (i : ℕ) (list : List Own)
      → AreOwn devices lists → slice_get lists i ≡ Some list
      → option_map (λ o. o.origin) (find (λ o. same_prefix o.prefix p) list)
      ≡ option_and_then (λ x. own_of x.body p) (slice_get devices i)
  own_of-listed [] [] i list zip is = absurd (cc)
  own_of-listed [] (l ∷ ls) i list zip is = absurd zip
  own_of-listed (x ∷ xs) [] i list zip is = absurd zip
  own_of-listed (x ∷ xs) (l ∷ ls) zero list zip is =
      let same : l ≡ list = cc in
      ap (λ (ys : List Own). option_map (λ (o : Own). o.origin)
      (find (λ (o : Own). same_prefix o.prefix p) ys)) (sym same)
      ∙ ap (option_map (λ (o : Own). o.origin)) (find-by_prefix x.body.own l p zip.0)
  own_of-listed (x ∷ xs) (l ∷ ls) (suc i) list zip is = own_of-listed xs ls i list zip.1 is

  -- and nothing is found where no list is kept
  pub own_of-unlisted : (devices : List Device) (lists : List (List Own)) (i : ℕ)
      → AreOwn devices lists → slice_get lists i ≡ None
      → option_and_then (λ x. own_of x.body p) (slice_get devices i) ≡ None
  own_of-unlisted [] [] i zip none = refl
  own_of-unlisted [] (l ∷ ls) i zip none = absurd zip
  own_of-unlisted (x ∷ xs) [] i zip none = absurd zip
  own_of-unlisted (x ∷ xs) (l ∷ ls) zero zip none = absurd (cc)
  own_of-unlisted (x ∷ xs) (l ∷ ls) (suc i) zip none = own_of-unlisted xs ls i zip.1 none

-- each list that is kept ascends
pub ascending-listed : (devices : List Device) (lists : List (List Own)) (i : ℕ) (list : List Own)
    → AreOwn devices lists → slice_get lists i ≡ Some list
    → AllPairs (λ x y. prefix_cmp x.prefix y.prefix ≡ Less) list
ascending-listed [] [] i list zip is = absurd (cc)
ascending-listed [] (l ∷ ls) i list zip is = absurd zip
ascending-listed (x ∷ xs) [] i list zip is = absurd zip
ascending-listed (x ∷ xs) (l ∷ ls) zero list zip is =
    let same : l ≡ list = cc in
    subst (AllPairs (λ (y z : Own). prefix_cmp y.prefix z.prefix ≡ Less)) same zip.0.ascending
ascending-listed (x ∷ xs) (l ∷ ls) (suc i) list zip is = ascending-listed xs ls i list zip.1 is
