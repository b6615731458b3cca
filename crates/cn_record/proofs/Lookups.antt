-- What a search for a prefix finds among the prefixes of islands.
use Rattle.std.proofs.Common.{◌≡◌, ℕ, ◌+◌, ◌<◌, true, List, length, false, get_or, Less, Equal, Greater, ap, ◌∙◌, inl, inr, arith}
use Rattle.std.specs.Prelude.{Contains}
use Rattle.std.specs.Cmp.{IsTotalOrder}
use Rattle.std.specs.List.Sorted.{IsNonDecreasingBy, IsPartitionPoint, IsSortedBy, IsStrictlySortedBy}
use Rattle.std.specs.Ordering.{is_lt, on, ordering_index, ordering_reverse}
use Rattle.std.proofs.lemmas.Bool.{and_parts, cases_lt, eqb-true}
use Rattle.std.proofs.lemmas.Bool.Decides.{nat_tests}
use Rattle.std.proofs.lemmas.Cmp.{nat_cmp_total, on_total, then_total}
use Rattle.std.proofs.lemmas.List.{get_or_default}
use Rattle.std.proofs.lemmas.List.Sorted.{searchable_from_sorted}
use Rattle.std.proofs.lemmas.Map.Keys.{Less-from_sorted}
use Rattle.cn_base.specs.Cidr.{Cidr, same_prefix}
use Rattle.cn_base.specs.Table.{prefix_cmp}
use Rattle.cn_base.specs.declared.ids.DeviceId.{DeviceId}
use Rattle.cn_record.specs.Grouped.{of_island}
use Rattle.cn_record.specs.declared.islands.IslandPrefix.{IslandPrefix}

prefix_cmp_total : IsTotalOrder prefix_cmp
prefix_cmp_total = then_total (on_total (λ (p : Cidr). p.bits) nat_cmp_total)
    (on_total (λ (p : Cidr). p.len) nat_cmp_total)

equal_is : (p q : Cidr) → prefix_cmp p q ≡ Equal → p ≡ q
equal_is p q e =
    let same : same_prefix p q ≡ true = grind (arith, nat_tests) in
    let both = and_parts _ _ same in
    let a = eqb-true p.bits q.bits both.0 in
    let b = eqb-true p.len q.len both.1 in
    λ i. record { bits = a i; len = b i }

pub ties_itself : (p : Cidr) → prefix_cmp p p ≡ Equal
ties_itself p = grind (arith, nat_tests)

not_fallen : (p q : Cidr) → prefix_cmp p q ≡ Less → is_lt (prefix_cmp q p) ≡ false
not_fallen p q h = ap is_lt (prefix_cmp_total.antisymm q p ∙ ap ordering_reverse h)

pub island_found : (list : List IslandPrefix) (p : Cidr) (k : ℕ) (e : IslandPrefix)
    → k < length list → ((d : IslandPrefix) → prefix_cmp (get_or list k d).prefix p ≡ Equal)
    → Contains list (of_island (get_or list k e).island p)
island_found list p k e within tie =
    let x = get_or list k e in
    let same = equal_is x.prefix p (tie e) in (
      k,
      within,
      get_or_default list k (of_island x.island p) e within
          ∙ (λ i. record { prefix = same i; island = x.island }),
    )

pub island_missing : (list : List IslandPrefix) (p : Cidr) (at : ℕ)
    → IsStrictlySortedBy (on (λ x. x.prefix) prefix_cmp) list
    → (IsNonDecreasingBy (λ y. ordering_index (prefix_cmp y.prefix p)) list
    → IsPartitionPoint (λ y. prefix_cmp y.prefix p ≡ Less)
    (λ y. prefix_cmp y.prefix p ≡ Greater) list at) → (i : DeviceId)
    → Contains list (of_island i p) → ⊥
island_missing list p at up parted i (k, within, is) =
    let sorted : IsSortedBy (λ a b. is_lt (prefix_cmp a.prefix b.prefix)) list =
    λ j d low lt. not_fallen (get_or list j d).prefix (get_or list (j + 1) d).prefix
    (Less-from_sorted (on (λ (x : IslandPrefix). x.prefix) prefix_cmp) list j (j + 1) d up
    (omega arith) lt) in
    let parts =
    parted
    (searchable_from_sorted prefix_cmp_total
    (λ (x : IslandPrefix). x.prefix) list p sorted) in
    let e = of_island i p in
    let here : prefix_cmp (get_or list k e).prefix p ≡ Equal =
    ap (λ (x : IslandPrefix). prefix_cmp x.prefix p) is ∙ ties_itself p in
    elim (cases_lt k at) [
      | inl low ↦ let less : prefix_cmp (get_or list k e).prefix p ≡ Less =
          parts.0 k e (omega arith) low in cc
      | inr high ↦ let more : prefix_cmp (get_or list k e).prefix p ≡ Greater =
          parts.1 k e high within in cc
    ]
