-- Which devices a list of numbers holds.
use Rattle.std.proofs.Common.{◌≡◌, ℕ, ◌+◌, true, false, List, length, get_or, Ordering, Less, Equal, Greater, Result, Ok, Err, sym, ap, ◌∙◌, inl, inr, arith}
use Rattle.std.specs.Cmp.{IsTotalOrder, IsEquivalence}
use Rattle.std.specs.List.{All, Contains, dedup}
use Rattle.std.specs.List.Sorted.{IsBinarySearchResult, IsPartitionPoint, IsSearchInRange, IsPermutation, IsSorted, IsSortedBy}
use Rattle.std.specs.Ordering.{eq_by_cmp, is_eq, is_lt, nat_cmp, on}
use Rattle.std.specs.Result.{is_ok}
use Rattle.std.proofs.lemmas.Bool.{cases_Bool, cases_lt, eqb-true}
use Rattle.std.proofs.lemmas.Bool.Decides.{nat_tests, same_from_decides}
use Rattle.std.proofs.lemmas.Cmp.{nat_cmp_total, on_total}
use Rattle.std.proofs.lemmas.List.Filters.{All-dedup}
use Rattle.std.proofs.lemmas.List.Kept.{Contains-dedup, Contains-from_dedup, IsStrictlySortedBy-dedup}
use Rattle.std.proofs.lemmas.List.Sorted.{All-permutation, Contains-permutation, IsPermutation-sym, searchable_from_sorted}
use Rattle.std.proofs.lemmas.Map.Keys.{Less-from_sorted}
use Rattle.std.proofs.lemmas.Map.Views.{Contains-from_any, list_any-from_Contains}
use Rattle.cn_base.specs.declared.ids.DeviceId.{DeviceId}
use Rattle.cn_net.specs.Islands.{IsAscending, holds_device}
use Rattle.cn_net.specs.Network.{Network, IsDevice, same_device}

abbrev by_number : DeviceId → DeviceId → Ordering
by_number = on (λ (d : DeviceId). d.0) nat_cmp

by_number_total : IsTotalOrder by_number
by_number_total = on_total (λ (d : DeviceId). d.0) nat_cmp_total

pub same_number : (a b : DeviceId) → same_device a b ≡ true → a ≡ b
same_number a b e = λ i. record { 0 = eqb-true a.0 b.0 e i }

same_device_laws : IsEquivalence same_device
same_device_laws = record {
  refl = λ x. grind (arith, nat_tests);
  symm = λ x y. grind (arith, nat_tests);
  congr = λ x y z e. grind (arith, nat_tests);
}

ties : (x y : DeviceId) → same_device x y ≡ eq_by_cmp by_number x y
ties x y = grind (arith, nat_tests)

-- ---- a list holds a device just where the device stands in it

pub contained : (set : List DeviceId) (d : DeviceId) → holds_device set d ≡ true → Contains set d
contained set d h =
    Contains-from_any {eq = λ q x. same_device x q} (λ x y e. sym (same_number y x e)) d set h

pub held : (set : List DeviceId) (d : DeviceId) → Contains set d → holds_device set d ≡ true
held set d h = list_any-from_Contains {eq = λ q x. same_device x q} (record {
  refl = λ x. grind (arith, nat_tests);
  symm = λ x y. grind (arith, nat_tests);
  congr = λ x y z e. grind (arith, nat_tests);
}) d set h

-- ---- after a sort and a `dedup`

pub ascending : (set : List DeviceId) → IsSorted by_number set → IsAscending (dedup same_device set)
ascending set h = IsStrictlySortedBy-dedup by_number_total ties set h

pub holds_the_same : (xs ys : List DeviceId) (d : DeviceId) → IsPermutation xs ys
    → holds_device (dedup same_device ys) d ≡ holds_device xs d
holds_the_same xs ys d moved =
    same_from_decides {P = Contains xs d} (holds_device (dedup same_device ys) d)
    (holds_device xs d) (
      λ t. Contains-permutation ys xs d (IsPermutation-sym xs ys moved)
          (Contains-from_dedup same_device ys d (contained (dedup same_device ys) d t)),
      λ h. held (dedup same_device ys) d (Contains-dedup same_device_laws same_number ys d
          (Contains-permutation xs ys d moved h)),
    )
    (contained xs d, held xs d)

pub all_within : (net : Network) (xs ys : List DeviceId) → IsPermutation xs ys
    → All (IsDevice net) xs → All (IsDevice net) (dedup same_device ys)
all_within net xs ys moved all =
    All-dedup same_device (IsDevice net) ys (All-permutation (IsDevice net) xs ys moved all)

-- ---- a binary search

not_fallen : (x y : DeviceId) → by_number x y ≡ Less → is_lt (by_number y x) ≡ false
not_fallen x y h = grind (arith, nat_tests)

is_itself : (x d : DeviceId) (o : Ordering) → by_number x d ≡ o → x ≡ d → o ≡ Equal
is_itself x d o e f = sym e ∙ rw f (grind (arith, nat_tests))

absent : (set : List DeviceId) (d : DeviceId) (i : ℕ)
    → IsPartitionPoint (λ y. by_number y d ≡ Less) (λ y. by_number y d ≡ Greater) set i
    → Contains set d → ⊥
absent set d i parts (k, k_in, is) =
    elim (cases_lt k i) [
      | inl low ↦ let e = is_itself (get_or set k d) d Less (parts.0 k d (omega arith) low) is in cc
      | inr high ↦ let e = is_itself (get_or set k d) d Greater (parts.1 k d high k_in) is in cc
    ]

pub searched : (set : List DeviceId) (d : DeviceId) (r : Result ℕ ℕ) → IsAscending set
    → IsSearchInRange r (length set) → IsBinarySearchResult (λ y. by_number y d) set r
    → is_ok r ≡ holds_device set d
searched set d (Ok i) up inside found =
    let e : get_or set i d ≡ d =
    same_number (get_or set i d) d (ties (get_or set i d) d ∙ ap is_eq (found d)) in
    sym (held set d (i, inside, e))
searched set d (Err i) up inside found =
    let sorted : IsSortedBy (λ a b. is_lt (by_number a b)) set =
    λ k e low within. not_fallen (get_or set k e) (get_or set (k + 1) e)
    (Less-from_sorted by_number set k (k + 1) e up (omega arith) within) in
    let parts =
    found (searchable_from_sorted nat_cmp_total (λ (x : DeviceId). x.0) set d.0 sorted) in
    elim (cases_Bool (holds_device set d)) [
      | inl t ↦ absurd (absent set d i parts (contained set d t))
      | inr f ↦ sym f
    ]
