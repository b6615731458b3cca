-- Labels of the same islands, by which each island goes by its least device.
use Rattle.std.proofs.Common.{◌≡◌, ℕ, ◌+◌, ◌<◌, ◌≤◌, ◌⊎◌, true, false, cond, List, length, get_or, map, Option, Some, None, is_some, option_and_then, refl, sym, ap, subst, ◌∙◌, inl, inr, arith}
use Rattle.std.proofs.lemmas.Bool.{cases_Bool, cond-true, cond-false, true≢false}
use Rattle.std.proofs.lemmas.Bool.Decides.{nat_tests}
use Rattle.std.proofs.lemmas.List.FromFn.{get_or-map-range_with_len}
use Rattle.std.proofs.lemmas.Option.{none-some, same_Some, unwrap_or-slice_get}
use Rattle.std.specs.List.{range_with_len}
use Rattle.std.specs.Ordering.{is_eq}
use Rattle.cn_base.specs.declared.ids.DeviceId.{DeviceId}
use Rattle.cn_net.specs.Islands.{HaveSameIslands, label_of}
use Rattle.cn_net.specs.Network.{Network, IsDevice}
use Rattle.cn_cert.specs.Refusal.{IsLeast}
use Rattle.cn_cert.specs.Steps.{AreNames, IsLabelled, IsLeastAmong, id_cmp}

-- ---- the least device with each label, of the first n devices

-- one of the first n devices, with this label
abbrev pub IsEarly : (DeviceId → Option DeviceId) → ℕ → DeviceId → DeviceId → Type 0
IsEarly label n island d = (d.0 < n) × (label d ≡ Some island)

number_is : (d : DeviceId) (n : ℕ) → d.0 ≡ n → d ≡ record { 0 = n }
number_is d n e = λ i. record { 0 = e i }

below_or : (i n : ℕ) → i < n + 1 → (i < n) ⊎ (i ≡ n)
below_or i n h = grind arith

module _ (label : DeviceId → Option DeviceId) (n : ℕ) (island : DeviceId) where
  early_cases : (d : DeviceId) → IsEarly label (n + 1) island d
      → IsEarly label n island d ⊎ ((d.0 ≡ n) × (label (record { 0 = n }) ≡ Some island))
  early_cases d h = elim (below_or d.0 n h.0) [
    | inl lt ↦ inl (lt, h.1)
    | inr e ↦ inr (e, ap label (sym (number_is d n e)) ∙ h.1)
  ]

  -- the device with the number n is of another label, or not the first of this one
  early_kept : (o : Option DeviceId) → IsLeastAmong (IsEarly label n island) o
      → (label (record { 0 = n }) ≡ Some island → o ≡ None → ⊥)
      → IsLeastAmong (IsEarly label (n + 1) island) o
  early_kept None h not_first = λ d e. elim (early_cases d e) [
    | inl old ↦ h d old
    | inr new ↦ not_first new.1 refl
  ]
  early_kept (Some x) h not_first = record {
    one = (let lt = h.one.0 in omega arith, h.one.1);
    least = λ d e. elim (early_cases d e) [
      | inl old ↦ h.least d old
      | inr new ↦ let lt = h.one.0 in let is = new.0 in omega arith
    ];
  }

  early_put : IsLeastAmong (IsEarly label n island) None → label (record { 0 = n }) ≡ Some island
      → IsLeast (IsEarly label (n + 1) island) (record { 0 = n })
  early_put h is = record {
    one = (omega arith, is);
    least = λ d e. elim (early_cases d e) [
      | inl old ↦ absurd (h d old)
      | inr new ↦ let same = new.0 in omega arith
    ];
  }

module _ (label : DeviceId → Option DeviceId) (n : ℕ) (f : DeviceId → Option DeviceId)
    (h : (i : DeviceId) → IsLeastAmong (IsEarly label n i) (f i)) where
  -- the next device has no label
  pub least_passed : label (record { 0 = n }) ≡ None → (i : DeviceId)
      → IsLeastAmong (IsEarly label (n + 1) i) (f i)
  least_passed none i = early_kept label n i (f i) (h i) (λ e _. none-some i (sym none ∙ e))

  -- its label has a device
  pub least_kept : (island : DeviceId) → label (record { 0 = n }) ≡ Some island
      → is_some (f island) ≡ true → (i : DeviceId) → IsLeastAmong (IsEarly label (n + 1) i) (f i)
  least_kept island is some i = early_kept label n i (f i) (h i) (λ e none.
      let same : island ≡ i = same_Some island i (sym is ∙ e) in
      true≢false (sym some ∙ ap (λ z. is_some (f z)) same ∙ ap is_some none))

  -- it is the first of its label
  pub least_put : (island : DeviceId) (f' : DeviceId → Option DeviceId)
      → label (record { 0 = n }) ≡ Some island → is_some (f island) ≡ false
      → ((i : DeviceId) → f' i ≡ cond (is_eq (id_cmp island i)) (Some (record { 0 = n })) (f i))
      → (i : DeviceId) → IsLeastAmong (IsEarly label (n + 1) i) (f' i)
  least_put island f' is none put i =
      elim (cases_Bool (is_eq (id_cmp island i))) [
        | inl t ↦
            let same = equal_number island i t in
            let first : f i ≡ None = no_entry (f i) (ap (λ z. is_some (f z)) (sym same) ∙ none) in
            subst (IsLeastAmong (IsEarly label (n + 1) i))
            (sym (put i ∙ cond-true (is_eq (id_cmp island i)) (Some (record { 0 = n })) (f i) t))
            (early_put label n i (subst (IsLeastAmong (IsEarly label n i)) first (h i))
            (is ∙ ap Some same))
        | inr o ↦
            subst (IsLeastAmong (IsEarly label (n + 1) i))
            (sym (put i ∙ cond-false (is_eq (id_cmp island i)) (Some (record { 0 = n })) (f i) o))
            (early_kept label n i (f i) (h i) (λ e _.
            true≢false (sym (number_equal island i (same_Some island i (sym is ∙ e))) ∙ o)))
      ]
    where
      equal_number : (a b : DeviceId) → is_eq (id_cmp a b) ≡ true → a ≡ b
      equal_number a b t = let e : a.0 ≡ b.0 = grind (arith, nat_tests) in λ k. record { 0 = e k }

      number_equal : (a b : DeviceId) → a ≡ b → is_eq (id_cmp a b) ≡ true
      number_equal a b e = let e' : a.0 ≡ b.0 = ap (λ z. z.0) e in grind (arith, nat_tests)

      no_entry : (o : Option DeviceId) → is_some o ≡ false → o ≡ None
      no_entry None e = refl
      no_entry (Some x) e = absurd (true≢false e)

pub least_all : (net : Network) (label : DeviceId → Option DeviceId) (n : ℕ)
    (f : DeviceId → Option DeviceId)
    → n ≡ length net.devices → ((i : DeviceId) → IsLeastAmong (IsEarly label n i) (f i))
    → (i : DeviceId) → IsLeastAmong (IsLabelled net label i) (f i)
least_all net label n f e h i =
    subst (λ m. IsLeastAmong (λ d. (d.0 < m) × (label d ≡ Some i)) (f i)) e (h i)

-- ---- each device by the least of its island

-- the labels that a function of the devices gives
pub label_made : (net : Network) (f : DeviceId → Option DeviceId) (labels : List (Option DeviceId))
    → labels ≡ map (λ n. f (record { 0 = n })) (range_with_len 0 (length net.devices))
    → (d : DeviceId) → IsDevice net d → label_of labels d ≡ f d
label_made net f labels is d lt =
    let by_number = λ (n : ℕ). f (record { 0 = n }) in
    unwrap_or-slice_get labels d.0 None
    ∙ ap (λ xs. get_or xs d.0 None) is
    ∙ get_or-map-range_with_len by_number 0 (length net.devices) d.0 d.0 None lt (omega arith)

module _ (net : Network) (label name : DeviceId → Option DeviceId) (f : DeviceId → Option DeviceId)
    (least : (i : DeviceId) → IsLeastAmong (IsLabelled net label i) (f i))
    (named : (d : DeviceId) → IsDevice net d → name d ≡ option_and_then f (label d)) where
  -- a device with a label has the least device with that label as its name
  record HasName (d island : DeviceId) : Type 0 where
    first : DeviceId
    name_is : name d ≡ Some first
    least_is : IsLeast (IsLabelled net label island) first

  has_name : (d i : DeviceId) → IsDevice net d → label d ≡ Some i → HasName d i
  has_name d i is e = go (f i) refl
    where
      go : (o : Option DeviceId) → f i ≡ o → HasName d i
      go None q = absurd (subst (IsLeastAmong (IsLabelled net label i)) q (least i) d (is, e))
      go (Some k) q = record {
        first = k;
        name_is = named d is ∙ ap (option_and_then f) e ∙ q;
        least_is = subst (IsLeastAmong (IsLabelled net label i)) q (least i);
      }

  no_name : (d : DeviceId) → IsDevice net d → label d ≡ None → name d ≡ None
  no_name d is e = named d is ∙ ap (option_and_then f) e

  label_or : (d : DeviceId) → (label d ≡ None) ⊎ ((i : DeviceId) × (label d ≡ Some i))
  label_or d = go (label d)
    where
      go : (o : Option DeviceId) → (o ≡ None) ⊎ ((i : DeviceId) × (o ≡ Some i))
      go None = inl refl
      go (Some i) = inr (i, refl)

  same_label : (a b : DeviceId) → IsDevice net a → IsDevice net b → name a ≡ name b
      → label a ≡ label b
  same_label a b is_a is_b e =
      elim (label_or a) [
        | inl none_a ↦ elim (label_or b) [
          | inl none_b ↦ none_a ∙ sym none_b
          | inr j ↦
              let h = has_name b j.0 is_b j.1 in
              absurd (none-some h.first (sym (no_name a is_a none_a) ∙ e ∙ h.name_is))
        ]
        | inr i ↦
            let g = has_name a i.0 is_a i.1 in
            elim (label_or b) [
              | inl none_b ↦
                  absurd (none-some g.first (sym (no_name b is_b none_b) ∙ sym e ∙ g.name_is))
              | inr j ↦
                  let h = has_name b j.0 is_b j.1 in
                  let one : g.first ≡ h.first =
                  same_Some g.first h.first (sym g.name_is ∙ e ∙ h.name_is) in
                  i.1 ∙ sym g.least_is.one.1 ∙ ap label one ∙ h.least_is.one.1 ∙ sym j.1
            ]
      ]

  pub names_same : HaveSameIslands net name label
  names_same = record {
    labelled = λ d is. (
      λ e. elim (label_or d) [
        | inl none ↦ none
        | inr i ↦ let h = has_name d i.0 is i.1 in absurd (none-some h.first (sym e ∙ h.name_is))
      ],
      no_name d is,
    );
    together = λ a b is_a is_b. (
      same_label a b is_a is_b,
      λ e. named a is_a ∙ ap (option_and_then f) e ∙ sym (named b is_b),
    );
  }

  pub names_least : AreNames net name
  names_least d k is e =
      elim (label_or d) [
        | inl none ↦ absurd (none-some k (sym (no_name d is none) ∙ e))
        | inr i ↦
            let h = has_name d i.0 is i.1 in
            let same : h.first ≡ k = same_Some h.first k (sym h.name_is ∙ e) in
            let is_k : IsDevice net k = subst (IsDevice net) same h.least_is.one.0 in
            let label_k : label k ≡ Some i.0 = ap label (sym same) ∙ h.least_is.one.1 in
            record {
              one = (
                is_k,
                named k is_k ∙ ap (option_and_then f) (label_k ∙ sym i.1) ∙ sym (named d is) ∙ e,
              );
              least = λ x in_k.
                  let label_x = same_label x d in_k.0 is (in_k.1 ∙ sym e) ∙ i.1 in
                  subst (λ z. z.0 ≤ x.0) same (h.least_is.least x (in_k.0, label_x));
            }
      ]
