-- What is first wrong with a boundary is one: the first refusal, or the first record that isn't
-- sound.
use Rattle.std.proofs.Common.{◌≡◌, ℕ, ◌<◌, inl, inr, Bool, true, false, not, List, Option, Some, Less, refl, sym, ap, subst, ◌∙◌, arith}
use Rattle.std.proofs.lemmas.Bool.{cases_lt}
use Rattle.std.proofs.lemmas.Bool.Decides.{nat_tests}
use Rattle.std.proofs.lemmas.Option.{same_Some}
use Rattle.cn_base.specs.Cidr.{Cidr}
use Rattle.cn_base.specs.declared.ids.DeviceId.{DeviceId}
use Rattle.cn_base.specs.declared.route.Choice.{Choice}
use Rattle.cn_net.specs.Certificate.{IsCertified}
use Rattle.cn_net.specs.Islands.{IsIslands, holds_device, label_of, outside_of}
use Rattle.cn_net.specs.Network.{Network, asn_of}
use Rattle.cn_net.specs.Opening.{Opening}
use Rattle.cn_net.specs.Records.{IsOfIsland}
use Rattle.cn_net.specs.Restriction.{restricted}
use Rattle.cn_net.specs.Valid.{IsValid}
use Rattle.cn_net.proofs.Agreeing.{islands_agree, same_islands}
use Rattle.cn_net.proofs.Apart.{distinct_ids}
use Rattle.cn_net.proofs.OneSet.{same_sets}
use Rattle.cn_net.proofs.Restricted.{distinct_restricted}
use Rattle.cn_net.proofs.States.{has_one_state}
use Rattle.cn_cert.specs.Refusal.{Faces, IsFacingRefusal, IsFirstRefusal, IsLeast, IsPrefixBefore, OriginatesElsewhere, OriginatesInside, Refuses, island_of, kind_place}
use Rattle.cn_cert.specs.declared.refusal.Refusal.{Refusal}
use Rattle.cn_cert.specs.declared.refusal.Refusal.TheVariants.{Facing, Origins}
use Rattle.cn_cert.specs.declared.refusal.Side.{Side}
use Rattle.cn_cert.proofs.Classes.{first_too}
use Rattle.cn_cert.proofs.Orders.{certified_is_refused_nowhere}
use Rattle.cn_cert.proofs.Systems.{no_side, same_side}
use Rattle.cn_record.specs.Rows.{pair_cmp, row_for}
use Rattle.cn_record.specs.Said.{said}
use Rattle.cn_record.specs.Unsound.{IsFirstUnsound, IsUnsound}
use Rattle.cn_record.specs.declared.saved.Row.{Row}
use Rattle.cn_record.proofs.Saying.{says_row}
use Rattle.cn_plan.specs.Boundary.{BoundaryFault, IsCertifiedOpening, IsFirstFault, of_certificate, of_record}
use Rattle.cn_plan.proofs.Boundaries.{back, carried, holds_not_fails}

-- ---- what is tied

-- numbers of which neither is below the other
number_tied : (m n : ℕ) → (m < n → ⊥) → (n < m → ⊥) → m ≡ n
number_tied m n f g =
    elim (cases_lt m n) [
      | inl lt ↦ absurd (f lt)
      | inr ge ↦ elim (cases_lt n m) [ inl lt ↦ absurd (g lt) | inr le ↦ omega (arith, ge, le) ]
    ]

-- prefixes of which neither is before the other
prefix_tied : (p q : Cidr) → (IsPrefixBefore p q → ⊥) → (IsPrefixBefore q p → ⊥) → p ≡ q
prefix_tied p q f g =
    let bits : p.bits ≡ q.bits =
    number_tied p.bits q.bits (λ lt. f (inl lt)) (λ lt. g (inl lt)) in
    let len : p.len ≡ q.len =
    number_tied p.len q.len (λ lt. f (inr (bits, lt))) (λ lt. g (inr (sym bits, lt))) in
    λ i. record { bits = bits i; len = len i }

-- devices and prefixes of which neither pair stands before the other
pub pair_tied : (d x : DeviceId) (p q : Cidr) → (pair_cmp (d, p) (x, q) ≡ Less → ⊥)
    → (pair_cmp (x, q) (d, p) ≡ Less → ⊥) → (d ≡ x) × (p ≡ q)
pair_tied d x p q f g =
    let number : d.0 ≡ x.0 = grind (arith, nat_tests) in
    let bits : p.bits ≡ q.bits = grind (arith, nat_tests) in
    let len : p.len ≡ q.len = grind (arith, nat_tests) in
    ((λ i. record { 0 = number i }), (λ i. record { bits = bits i; len = len i }))

-- the least of these devices is one
least_one : (These : DeviceId → Type 0) (a b : DeviceId) → IsLeast These a → IsLeast These b
    → a ≡ b
least_one These a b h k =
    let le = h.least b k.one in
    let ge = k.least a h.one in
    let e : a.0 ≡ b.0 = omega (arith, le, ge) in
    λ i. record { 0 = e i }

-- ---- the first refusal

module _ (net : Network) (outside : DeviceId → Bool) (label : DeviceId → Option DeviceId) where
  facing_one : (side : Side) (island a b c d : DeviceId)
      → IsFacingRefusal net outside label side island a b
      → IsFacingRefusal net outside label side island c d → (a ≡ c) × (b ≡ d)
  facing_one side island a b c d h k =
      let first : a ≡ c = least_one (Faces net outside label side island) a c h.least k.least in
      let other =
      subst (λ z.
      IsLeast (λ x. Faces net outside label side island x × (asn_of net x ≡ asn_of net z → ⊥)) d)
      (sym first) k.other in (
        first,
        least_one
            (λ x. Faces net outside label side island x × (asn_of net x ≡ asn_of net a → ⊥)) b d
            h.other other,
      )

  refuses_one : (island : DeviceId) (r s : Refusal) → island_of r ≡ island_of s
      → kind_place r ≡ kind_place s → Refuses net outside label island r
      → Refuses net outside label island s → r ≡ s
  refuses_one island (Facing side x a a_asn b b_asn) (Facing side' y c c_asn d d_asn) e kind
      (h, is_a, is_b) (k, is_c, is_d) =
      let sides : side ≡ side' = same_side side side' kind in
      let k' = subst (λ z. IsFacingRefusal net outside label z island c d) (sym sides) k in
      let both = facing_one side island a b c d h k' in
      let first : a_asn ≡ c_asn = is_a ∙ ap (asn_of net) both.0 ∙ sym is_c in
      let other : b_asn ≡ d_asn = is_b ∙ ap (asn_of net) both.1 ∙ sym is_d in
      λ i. Facing (sides i) (e i) (both.0 i) (first i) (both.1 i) (other i)
  refuses_one island (Facing side x a a_asn b b_asn) (Origins y q c d) e kind h k =
      absurd (no_side side (sym kind))
  refuses_one island (Origins x p a b) (Facing side y c c_asn d d_asn) e kind h k =
      absurd (no_side side kind)
  refuses_one island (Origins x p a b) (Origins y q c d) e kind h k =
      let prefix : p ≡ q =
      prefix_tied p q
      (λ low. k.prefix_least p a b low h.inside_least.one h.elsewhere_least.one)
      (λ low. h.prefix_least q c d low k.inside_least.one k.elsewhere_least.one) in
      let inside =
      subst (λ z. IsLeast (OriginatesInside net label island z) c) (sym prefix) k.inside_least in
      let elsewhere =
      subst (λ z. IsLeast (OriginatesElsewhere net label island z) d) (sym prefix)
      k.elsewhere_least in
      let first : a ≡ c =
      least_one (OriginatesInside net label island p) a c h.inside_least inside in
      let other : b ≡ d =
      least_one (OriginatesElsewhere net label island p) b d h.elsewhere_least elsewhere in
      λ i. Origins (e i) (prefix i) (first i) (other i)

  refusal_one : (r s : Refusal) → IsFirstRefusal net outside label r
      → IsFirstRefusal net outside label s → r ≡ s
  refusal_one r s h k =
      let number : (island_of r).0 ≡ (island_of s).0 =
      number_tied (island_of r).0 (island_of s).0 (λ lt. k.first r h.refusal (inl lt))
      (λ lt. h.first s k.refusal (inl lt)) in
      let kind : kind_place r ≡ kind_place s =
      number_tied (kind_place r) (kind_place s) (λ lt. k.first r h.refusal (inr (number, lt)))
      (λ lt. h.first s k.refusal (inr (sym number, lt))) in
      let device : island_of r ≡ island_of s = λ i. record { 0 = number i } in
      let island : h.refusal.island ≡ k.refusal.island =
      same_Some h.refusal.island k.refusal.island
      (sym h.refusal.named.one.1 ∙ ap label device ∙ k.refusal.named.one.1) in
      refuses_one h.refusal.island r s device kind h.refusal.refuses
      (subst (λ i. Refuses net outside label i s) (sym island) k.refusal.refuses)

-- ---- the first record that isn't sound

-- openings that differ in their labels alone
module _ (net : Network) (emulated : List DeviceId) (rows : List Row) where
  abbrev with_labels : List (Option DeviceId) → Opening
  with_labels labels = record { net = net; emulated = emulated; labels = labels }

  unsound_too : (x y : List (Option DeviceId)) → IsIslands net (outside_of emulated) (label_of x)
      → IsIslands net (outside_of emulated) (label_of y) → (d : DeviceId) (p : Cidr)
      → IsUnsound (with_labels x) rows d p → IsUnsound (with_labels y) rows d p
  unsound_too x y hx hy d p u =
      let agree = islands_agree net (outside_of emulated) (label_of y) (label_of x) hy hx in
      let o = u.of_island in
      let label : label_of y d ≡ Some u.island = agree d u.is_device ∙ u.in_island in
      let of_island : IsOfIsland net (label_of y) u.island p = record {
        device = o.device;
        in_island = agree o.device o.originates.0 ∙ o.in_island;
        originates = o.originates;
      } in
      let says : said net (label_of x) rows d p ≡ said net (label_of y) rows d p =
      says_row net (label_of x) d p rows u.island u.is_device u.in_island o
      ∙ sym (says_row net (label_of y) d p rows u.island u.is_device label of_island) in
      record {
        is_device = u.is_device;
        island = u.island;
        in_island = label;
        of_island = of_island;
        differs = λ state stable e. u.differs state stable (says ∙ e);
      }

  module _ (valid : IsValid net) (x y : List (Option DeviceId))
      (hx : IsIslands net (outside_of emulated) (label_of x))
      (hy : IsIslands net (outside_of emulated) (label_of y)) where
    unsound_one : (d e : DeviceId) (p q : Cidr) (held wanted held' wanted' : Option Choice)
        → IsFirstUnsound (with_labels x) rows d p held wanted
        → IsFirstUnsound (with_labels y) rows e q held' wanted'
        → of_record d p held wanted ≡ of_record e q held' wanted'
    unsound_one d e p q held wanted held' wanted' h k =
        let tied =
        pair_tied d e p q (λ low. k.first d p (unsound_too x y hx hy d p h.unsound) low)
        (λ low. h.first e q (unsound_too y x hy hx e q k.unsound) low) in
        let alone =
        has_one_state (restricted net (outside_of emulated))
        (distinct_restricted net (outside_of emulated) (distinct_ids net valid)) in
        let says : held ≡ held' =
        h.held_is ∙ (λ i. row_for rows (tied.0 i) (tied.1 i)) ∙ sym k.held_is in
        let holds : wanted ≡ wanted' =
        h.wanted_is alone.state alone.stable ∙ (λ i. alone.state (tied.0 i) (tied.1 i))
        ∙ sym (k.wanted_is alone.state alone.stable) in
        λ i. of_record (tied.0 i) (tied.1 i) (says i) (holds i)

-- ---- the first fault

-- a test whose turn is another test's passes where that does
pub not_alike : (a b : Bool) → not a ≡ not b → a ≡ true → b ≡ true
not_alike true true e t = refl
not_alike true false e t = absurd cc
not_alike false b e t = absurd cc

-- two certified openings of a network with the same emulated devices differ in their labels alone
pub emulated_one : (net : Network) (outside : DeviceId → Bool) (o q : Opening)
    → IsCertifiedOpening net outside o → IsCertifiedOpening net outside q
    → o.emulated ≡ q.emulated
emulated_one net outside o q c k =
    let alike = λ (d : DeviceId). c.emulated d ∙ sym (k.emulated d) in
    same_sets o.emulated q.emulated c.opening.ascending k.opening.ascending
    (λ d t. not_alike (holds_device o.emulated d) (holds_device q.emulated d) (alike d) t)
    (λ d t. not_alike (holds_device q.emulated d) (holds_device o.emulated d) (sym (alike d)) t)

module _ (net : Network) (outside : DeviceId → Bool) (rows : List Row) where
  record_one : (o q : Opening) (d e : DeviceId) (p r : Cidr)
      (held wanted held' wanted' : Option Choice)
      → IsCertifiedOpening net outside o → IsCertifiedOpening net outside q
      → IsFirstUnsound o rows d p held wanted → IsFirstUnsound q rows e r held' wanted'
      → of_record d p held wanted ≡ of_record e r held' wanted'
  record_one o q d e p r held wanted held' wanted' c k h j =
      let network : q.net ≡ o.net = k.network ∙ sym c.network in
      let emulated = sym (emulated_one net outside o q c k) in
      let same : q ≡ record { net = o.net; emulated = o.emulated; labels = q.labels } =
      λ i. record { net = network i; emulated = emulated i; labels = q.labels } in
      let own = back net outside o c.network c.emulated in
      unsound_one o.net o.emulated rows c.opening.valid o.labels q.labels
      (own (λ n f. IsIslands n f (label_of o.labels)) c.islands)
      (own (λ n f. IsIslands n f (label_of q.labels)) k.islands)
      d e p r held wanted held' wanted' h
      (subst (λ z. IsFirstUnsound z rows e r held' wanted') same j)

  -- a boundary that is refused has no certified opening
  refused_unopened : (r : Refusal) (label : DeviceId → Option DeviceId) (o : Opening)
      → IsIslands net outside label → IsFirstRefusal net outside label r
      → IsCertifiedOpening net outside o → ⊥
  refused_unopened r label o islands first c =
      let own = label_of o.labels in
      holds_not_fails net outside (
        own,
        c.islands,
        carried net outside o c.network c.emulated
            (λ n f. IsCertified n f own) c.opening.certified,
      )
      (label, islands, certified_is_refused_nowhere net outside label r first.refusal)

  -- the first fault of a boundary is one
  pub first_fault_one : (f g : BoundaryFault) → IsFirstFault net outside rows f
      → IsFirstFault net outside rows g → f ≡ g
  first_fault_one (of_certificate r) (of_certificate s) (x, hx, h) (y, hy, k) =
      let same = same_islands net x y (islands_agree net outside x y hx hy) in
      ap of_certificate (refusal_one net outside x r s h (first_too net outside x y same s k))
  first_fault_one (of_certificate r) (of_record d p held wanted) (x, hx, h) (o, c, k) =
      absurd (refused_unopened r x o hx h c)
  first_fault_one (of_record d p held wanted) (of_certificate r) (o, c, k) (x, hx, h) =
      absurd (refused_unopened r x o hx h c)
  first_fault_one (of_record d p held wanted) (of_record e q held' wanted') (o, c, h) (o', c', k) =
      record_one o o' d e p q held wanted held' wanted' c c' h k
