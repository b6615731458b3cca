-- How the devices of the islands and their prefixes are gathered, one device after another.
use Rattle.std.proofs.Common.{◌≡◌, ℕ, ◌+◌, ◌<◌, ◌++◌, ◌⊎◌, ◌&&◌, Bool, true, List, [], ◌∷◌, length, get_or, map, is_some, find, Option, Some, None, Ordering, Less, Equal, sym, ap, subst, ◌∙◌, inl, inr, arith}
use Rattle.std.specs.Prelude.{All, Contains, IsSome}
use Rattle.std.specs.Option.{option_and_then}
use Rattle.std.specs.List.{dedup}
use Rattle.std.specs.List.Sorted.{IsPermutation, IsSorted, IsStrictlySortedBy}
use Rattle.std.specs.Cmp.{IsEquivalence, IsTotalOrder}
use Rattle.std.specs.Ordering.{eq_by_cmp, nat_cmp, on, then_cmp}
use Rattle.std.proofs.lemmas.Bool.{and_parts, cases_Bool, eqb-true}
use Rattle.std.proofs.lemmas.Bool.Decides.{nat_tests}
use Rattle.std.proofs.lemmas.Cmp.{nat_cmp_total, on_total, then_total}
use Rattle.std.proofs.lemmas.List.Elements.{All-contains, All-nil, All-push, All-weaker, Contains-append_cases, Contains-append_left, Contains-append_right, Contains-get_or, Contains-push}
use Rattle.std.proofs.lemmas.List.Filters.{All-dedup}
use Rattle.std.proofs.lemmas.List.Kept.{Contains-dedup, IsStrictlySortedBy-dedup}
use Rattle.std.proofs.lemmas.List.Sorted.{All-permutation, Contains-permutation}
use Rattle.std.proofs.lemmas.Map.Keys.{Less-from_sorted, sorted_from_all_adjacent}
use Rattle.std.proofs.lemmas.Option.{none-some, same_Some, slice_get_within}
use Rattle.cn_base.specs.Cidr.{Cidr, same_prefix}
use Rattle.cn_base.specs.Table.{prefix_cmp}
use Rattle.cn_base.specs.declared.ids.DeviceId.{DeviceId}
use Rattle.cn_lists.proofs.Finding.{Contains-from_is_some_find, Contains-from_map, Contains-map, is_some-find, is_some-option_map}
use Rattle.cn_net.specs.Network.{Network, IsDevice, device_of, own_of, own_origin, same_device}
use Rattle.cn_net.specs.Records.{IsOfIsland}
use Rattle.cn_net.specs.declared.device.Body.{Body}
use Rattle.cn_net.specs.declared.device.Device.{Device}
use Rattle.cn_net.specs.declared.device.Own.{Own}
use Rattle.cn_record.specs.Grouped.{AddsPrefixes, AreIslandPrefixes, AreMembers, HasOwnPrefixes, of_island}
use Rattle.cn_record.specs.declared.islands.IslandPrefix.{IslandPrefix}
use Rattle.cn_record.specs.declared.islands.Member.{Member}

below_or : (i n : ℕ) → i < n + 1 → (i < n) ⊎ (i ≡ n)
below_or i n h = grind arith

number_is : (d : DeviceId) (n : ℕ) → d.0 ≡ n → d ≡ record { 0 = n }
number_is d n e = λ i. record { 0 = e i }

-- ---- devices

-- the devices below n that have a label
pub record AreMembersBelow (net : Network) (label : DeviceId → Option DeviceId) (n : ℕ)
    (members : List Member) : Type 0 where
  pub each : All (λ m. (m.device.0 < n) × (label m.device ≡ Some m.island)) members
  pub all : (d i : DeviceId) → d.0 < n → label d ≡ Some i
      → Contains members (record { island = i; device = d })

pub no_members : (net : Network) (label : DeviceId → Option DeviceId)
    → AreMembersBelow net label 0 []
no_members net label = record {
  each = All-nil (λ m. (m.device.0 < 0) × (label m.device ≡ Some m.island));
  all = λ d i lt. absurd (omega arith);
}

module _ (net : Network) (label : DeviceId → Option DeviceId) (n : ℕ) (members : List Member)
    (so : AreMembersBelow net label n members) where
  each_more : All (λ m. (m.device.0 < n + 1) × (label m.device ≡ Some m.island)) members
  each_more = All-weaker (λ m. (m.device.0 < n) × (label m.device ≡ Some m.island))
      (λ m. (m.device.0 < n + 1) × (label m.device ≡ Some m.island))
      (λ m h. let lt = h.0 in (omega arith, h.1)) members so.each

  pub member_more : (i : DeviceId) (new : List Member) → Some i ≡ label (record { 0 = n })
      → new ≡ members ++ record { island = i; device = record { 0 = n } } ∷ []
      → AreMembersBelow net label (n + 1) new
  member_more i new e is =
      let m : Member = record { island = i; device = record { 0 = n } } in
      subst (AreMembersBelow net label (n + 1)) (sym is) (record {
        each =
            All-push
            (λ m. (m.device.0 < n + 1) × (label m.device ≡ Some m.island)) members m each_more
            (omega arith, sym e);
        all = λ d j lt l. elim (below_or d.0 n lt) [
          | inl below ↦ Contains-append_left members (m ∷ []) (record { island = j; device = d })
              (so.all d j below l)
          | inr here ↦
              let at = number_is d n here in
              let same : i ≡ j = same_Some i j (e ∙ ap label (sym at) ∙ l) in
              subst (Contains (members ++ m ∷ []))
              (λ t. record { island = same t; device = sym at t }) (Contains-push members m)
        ];
      })

  pub member_passed : None ≡ label (record { 0 = n }) → AreMembersBelow net label (n + 1) members
  member_passed e = record {
    each = each_more;
    all = λ d j lt l. elim (below_or d.0 n lt) [
      | inl below ↦ so.all d j below l
      | inr here ↦ absurd (none-some j (e ∙ ap label (sym (number_is d n here)) ∙ l))
    ];
  }

pub members_sorted : (net : Network) (label : DeviceId → Option DeviceId) (n : ℕ)
    (xs ys : List Member) → n ≡ length net.devices → IsPermutation xs ys
    → AreMembersBelow net label n xs → AreMembers net label ys
members_sorted net label n xs ys all moves so = record {
  each = All-permutation (λ m. IsDevice net m.device × (label m.device ≡ Some m.island)) xs ys moves
      (All-weaker (λ m. (m.device.0 < n) × (label m.device ≡ Some m.island))
      (λ m. IsDevice net m.device × (label m.device ≡ Some m.island))
      (λ m h. let lt = h.0 in (omega arith, h.1)) xs so.each);
  all = λ d i is l. Contains-permutation xs ys (record { island = i; device = d }) moves
      (so.all d i (omega (arith, is)) l);
}

-- ---- what a device originates

-- prefixes that tie are one
pub same_is : (p q : Cidr) → same_prefix p q ≡ true → p ≡ q
same_is p q t =
    let both = and_parts _ _ t in
    let a = eqb-true p.bits q.bits both.0 in
    let b = eqb-true p.len q.len both.1 in
    λ i. record { bits = a i; len = b i }

same_itself : (p : Cidr) → same_prefix p p ≡ true
same_itself p = grind (arith, nat_tests)

own_has : (body : Body) (i : DeviceId) (p : Cidr) → IsSome (own_of body p)
    → Contains (map (λ o. of_island i o.prefix) body.own) (of_island i p)
own_has body i p some =
    let test = λ (o : Own). same_prefix o.prefix p in
    let there =
    Contains-from_is_some_find test body.own
    (sym (is_some-option_map (λ (o : Own). o.origin) (find test body.own)) ∙ some) in
    Contains-map (λ (o : Own). of_island i o.prefix) body.own there.0 (of_island i p) there.1
    (ap (of_island i) (same_is there.0.prefix p there.2))

own_from : (body : Body) (i : DeviceId) (x : IslandPrefix)
    → Contains (map (λ o. of_island i o.prefix) body.own) x
    → (x.island ≡ i) × IsSome (own_of body x.prefix)
own_from body i x h =
    let s = Contains-from_map (λ (o : Own). of_island i o.prefix) body.own x h in
    let o = s.0 in
    let test = λ (z : Own). same_prefix z.prefix x.prefix in
    let at : o.prefix ≡ x.prefix = ap (λ (z : IslandPrefix). z.prefix) s.2 in (
      sym (ap (λ (z : IslandPrefix). z.island) s.2),
      is_some-option_map (λ (z : Own). z.origin) (find test body.own)
          ∙ is_some-find test body.own o s.1
          (subst (λ q. same_prefix o.prefix q ≡ true) at (same_itself o.prefix)),
    )

device_within : (net : Network) (d : DeviceId) (x : Device) → Some x ≡ device_of net d
    → IsDevice net d
device_within net d x e = slice_get_within net.devices d.0 x (sym e)

pub own_added : (net : Network) (label : DeviceId → Option DeviceId) (d i : DeviceId)
    (found : Device) (old new : List IslandPrefix) → Some i ≡ label d → Some found ≡ device_of net d
    → new ≡ old ++ map (λ o. of_island i o.prefix) found.body.own
    → AddsPrefixes net label d old new
own_added net label d i found old new l is e =
    let more = map (λ (o : Own). of_island i o.prefix) found.body.own in
    let own : (p : Cidr) → own_origin net d p ≡ own_of found.body p =
    λ p. ap (option_and_then (λ (x : Device). own_of x.body p)) (sym is) in
    subst (AddsPrefixes net label d old) (sym e) (record {
      kept = λ x h. Contains-append_left old more x h;
      added = λ j p lj some.
          let same : i ≡ j = same_Some i j (l ∙ lj) in
          subst (λ z. Contains (old ++ more) (of_island z p)) same
          (Contains-append_right old more (of_island i p)
          (own_has found.body i p (sym (ap is_some (own p)) ∙ some)));
      only = λ x h. elim (Contains-append_cases old more x h) [
        | inl before ↦ inl before
        | inr now ↦
            let s = own_from found.body i x now in
            inr (record {
              device = d;
              in_island = sym l ∙ ap Some (sym s.0);
              originates =
                  (device_within net d found is, ap is_some (own x.prefix) ∙ s.1);
            })
      ];
    })

-- ---- prefixes

-- prefixes of islands, among them those of the devices below n
pub record ArePrefixesBelow (net : Network) (label : DeviceId → Option DeviceId) (n : ℕ)
    (list : List IslandPrefix) : Type 0 where
  pub each : All (λ x. IsOfIsland net label x.island x.prefix) list
  pub all : (d i : DeviceId) (p : Cidr) → d.0 < n → label d ≡ Some i → IsSome (own_origin net d p)
      → Contains list (of_island i p)

pub no_prefixes : (net : Network) (label : DeviceId → Option DeviceId)
    → ArePrefixesBelow net label 0 []
no_prefixes net label = record {
  each = All-nil (λ x. IsOfIsland net label x.island x.prefix);
  all = λ d i p lt. absurd (omega arith);
}

pub prefixes_more : (net : Network) (label : DeviceId → Option DeviceId) (n : ℕ)
    (old new : List IslandPrefix) → ArePrefixesBelow net label n old
    → AddsPrefixes net label (record { 0 = n }) old new → ArePrefixesBelow net label (n + 1) new
prefixes_more net label n old new so adds = record {
  each = λ k d lt. elim (adds.only (get_or new k d) (Contains-get_or new k d lt)) [
    | inl before ↦ All-contains (λ x. IsOfIsland net label x.island x.prefix) old
        (get_or new k d) so.each before
    | inr now ↦ now
  ];
  all = λ d i p lt l some. elim (below_or d.0 n lt) [
    | inl below ↦ adds.kept (of_island i p) (so.all d i p below l some)
    | inr here ↦
        let at = number_is d n here in
        adds.added i p (ap label (sym at) ∙ l) (subst (λ z. IsSome (own_origin net z p)) at some)
  ];
}

-- ---- after a sort and a `dedup`

-- first by the prefix, then by the island
abbrev pub entry_cmp : IslandPrefix → IslandPrefix → Ordering
entry_cmp = then_cmp (on (λ x. x.prefix) prefix_cmp) (on (λ x. x.island.0) nat_cmp)

abbrev pub same_entry : IslandPrefix → IslandPrefix → Bool
same_entry x y = same_prefix x.prefix y.prefix && same_device x.island y.island

entry_cmp_total : IsTotalOrder entry_cmp
entry_cmp_total =
    then_total
    (on_total (λ (x : IslandPrefix). x.prefix)
    (then_total (on_total (λ (p : Cidr). p.bits) nat_cmp_total)
    (on_total (λ (p : Cidr). p.len) nat_cmp_total)))
    (on_total (λ (x : IslandPrefix). x.island.0) nat_cmp_total)

ties : (x y : IslandPrefix) → same_entry x y ≡ eq_by_cmp entry_cmp x y
ties x y = grind (arith, nat_tests)

same_entry_is : (x y : IslandPrefix) → same_entry x y ≡ true → x ≡ y
same_entry_is x y t =
    let both = and_parts _ _ t in
    let a = same_is x.prefix y.prefix both.0 in
    let b = eqb-true x.island.0 y.island.0 both.1 in
    λ i. record { prefix = a i; island = record { 0 = b i } }

same_entry_laws : IsEquivalence same_entry
same_entry_laws = record {
  refl = λ x. grind (arith, nat_tests);
  symm = λ x y. grind (arith, nat_tests);
  congr = λ x y z e. grind (arith, nat_tests);
}

-- one prefix is of one island
one_island : (net : Network) (label : DeviceId → Option DeviceId) → HasOwnPrefixes net label
    → (i j : DeviceId) (p q : Cidr) → IsOfIsland net label i p → IsOfIsland net label j q → p ≡ q
    → i ≡ j
one_island net label own i j p q x y same =
    let there = subst (λ z. IsOfIsland net label j z) (sym same) y in
    same_Some i j
    (sym (own i x.device there.device p x.in_island x.originates there.originates)
    ∙ there.in_island)

first_less : (x y : IslandPrefix) → entry_cmp x y ≡ Less
    → (x.prefix ≡ y.prefix → x.island ≡ y.island) → prefix_cmp x.prefix y.prefix ≡ Less
first_less x y less one =
    elim (cases_Bool (same_prefix x.prefix y.prefix)) [
      | inl t ↦
          let p = same_is x.prefix y.prefix t in
          let i = one p in
          let same : entry_cmp x y ≡ Equal = grind (arith, nat_tests) in
          absurd (let never : Less ≡ Equal = sym less ∙ same in cc)
      | inr f ↦ grind (arith, nat_tests)
    ]

ascend : (net : Network) (label : DeviceId → Option DeviceId) → HasOwnPrefixes net label
    → (list : List IslandPrefix) → All (λ x. IsOfIsland net label x.island x.prefix) list
    → IsStrictlySortedBy entry_cmp list
    → IsStrictlySortedBy (on (λ x. x.prefix) prefix_cmp) list
unfolding IsStrictlySortedBy
ascend net label own [] each up = tt
ascend net label own (x ∷ xs) each up =
    let list : List IslandPrefix = x ∷ xs in
    sorted_from_all_adjacent
    (on_total (λ (z : IslandPrefix). z.prefix)
    (then_total (on_total (λ (p : Cidr). p.bits) nat_cmp_total)
    (on_total (λ (p : Cidr). p.len) nat_cmp_total))) list x (λ k lt.
    let y = get_or list k x in
    let z = get_or list (k + 1) x in
    first_less y z (Less-from_sorted entry_cmp list k (k + 1) x up (omega arith) lt)
    (one_island net label own y.island z.island y.prefix z.prefix (each k x (omega arith))
    (each (k + 1) x lt)))

pub prefixes_sorted : (net : Network) (label : DeviceId → Option DeviceId) (n : ℕ)
    (xs ys : List IslandPrefix) → HasOwnPrefixes net label → n ≡ length net.devices
    → IsPermutation xs ys → IsSorted entry_cmp ys → ArePrefixesBelow net label n xs
    → AreIslandPrefixes net label (dedup same_entry ys)
prefixes_sorted net label n xs ys own all moves sorted so =
    let each' = All-permutation (λ x. IsOfIsland net label x.island x.prefix) xs ys moves so.each in
    let each = All-dedup same_entry (λ x. IsOfIsland net label x.island x.prefix) ys each' in
    record {
      each = each;
      all = λ i p h.
          let there : h.device.0 < n = omega (arith, h.originates.0) in
          Contains-dedup same_entry_laws same_entry_is ys (of_island i p)
          (Contains-permutation xs ys (of_island i p) moves
          (so.all h.device i p there h.in_island h.originates.1));
      ascending = ascend net label own (dedup same_entry ys) each
          (IsStrictlySortedBy-dedup entry_cmp_total ties ys sorted);
    }
