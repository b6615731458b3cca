-- The first refusal on one side of the boundaries, from the devices that face islands there.
use Rattle.std.proofs.Common.{◌≡◌, ◌≢◌, ℕ, ◌≤◌, Bool, true, false, List, map, find, Option, Some, None, eqb, refl, sym, ap, subst, ◌∙◌, inl, inr, arith}
use Rattle.std.specs.Prelude.{◌↔◌, IsTrue, Contains}
use Rattle.std.proofs.lemmas.Bool.{cases_Bool, and_parts, and_from, eqb-true, eqb-false, not-true, not_from_false}
use Rattle.std.proofs.lemmas.Option.{same_Some}
use Rattle.std.specs.BTreeSet.{BTreeSet, contains}
use Rattle.std.specs.Ordering.{is_lt}
use Rattle.cn_base.specs.declared.ids.Asn.{Asn}
use Rattle.cn_base.specs.declared.ids.DeviceId.{DeviceId}
use Rattle.cn_net.specs.Network.{Network, asn_of}
use Rattle.cn_cert.specs.Refusal.{Faces, IsFacingRefusal, IsLeast, Refuses, island_of, kind_place, side_place}
use Rattle.cn_cert.specs.Steps.{AreMembers, IsCleanSide, IsFirstOfKind, IsSplit, by_key, id_cmp, is_of_another, member, with_system}
use Rattle.cn_cert.specs.declared.members.Member.{Member}
use Rattle.cn_cert.specs.declared.refusal.Refusal.{Refusal}
use Rattle.cn_cert.specs.declared.refusal.Refusal.TheVariants.{Facing, Origins}
use Rattle.cn_cert.specs.declared.refusal.Side.{Side}
use Rattle.cn_cert.specs.declared.refusal.Side.TheVariants.{Emulated, Outside}
use Rattle.cn_cert.proofs.Finding.{by_key_total, device_le, found_has, found_least, found_passes, id_cmp_total, island_le, not_found}
use Rattle.cn_cert.proofs.Lists.{map_from, map_has, number_itself, same_number}

-- ---- sides by their places

pub same_side : (s t : Side) → side_place s ≡ side_place t → s ≡ t
same_side Emulated Emulated e = refl
same_side Emulated Outside e = absurd (omega arith)
same_side Outside Emulated e = absurd (omega arith)
same_side Outside Outside e = refl

pub no_side : (s : Side) → 2 ≡ side_place s → ⊥
no_side Emulated e = omega arith
no_side Outside e = omega arith

-- ---- AS numbers

same_asn : (x y : Asn) → x.0 ≡ y.0 → x ≡ y
same_asn x y e = λ i. record { 0 = e i }

-- two numbers that can't be told apart are one
pub same_or_not : (x y : Asn) → (x ≢ y → ⊥) → x ≡ y
same_or_not x y h = elim (cases_Bool (eqb x.0 y.0)) [
  | inl t ↦ same_asn x y (eqb-true x.0 y.0 t)
  | inr f ↦ absurd (h (λ e. eqb-false x.0 y.0 f (ap (λ z. z.0) e)))
]

module _ (net : Network) (a m : Member DeviceId) where
  another_is : is_of_another net a m ≡ true
      → (m.key ≡ a.key) × (asn_of net m.device ≢ asn_of net a.device)
  another_is t =
      let h = and_parts _ _ t in (
        same_number m.key a.key h.0,
        λ e. eqb-false (asn_of net m.device).0 (asn_of net a.device).0 (not-true _ h.1)
            (ap (λ z. z.0) e),
      )

  is_another : m.key ≡ a.key → asn_of net m.device ≢ asn_of net a.device
      → is_of_another net a m ≡ true
  is_another e ne = and_from _ _ (number_itself m.key a.key e)
      (elim (cases_Bool (eqb (asn_of net m.device).0 (asn_of net a.device).0)) [
        | inl t ↦ absurd (ne (same_asn _ _ (eqb-true _ _ t)))
        | inr f ↦ not_from_false _ f
      ])

-- ---- the first of a side

module _ (net : Network) (outside : DeviceId → Bool) (name : DeviceId → Option DeviceId)
    (side : Side)
    (list : List (Member DeviceId)) (facing : AreMembers id_cmp (Faces net outside name side) list)
    (split : BTreeSet DeviceId)
    (split_are : (i : DeviceId)
    → IsTrue (contains id_cmp split i) ↔ IsSplit (map (with_system net) list) i) where
  abbrev are_on_side : DeviceId → DeviceId → Type 0
  are_on_side = Faces net outside name side

  -- an island whose devices on this side are of two AS
  record IsApart (i : DeviceId) : Type 0 where
    x : DeviceId
    y : DeviceId
    x_faces : are_on_side i x
    y_faces : are_on_side i y
    apart : asn_of net x ≢ asn_of net y

  apart_of : (i : DeviceId) → contains id_cmp split i ≡ true → IsApart i
  apart_of i t =
      let s = (split_are i).0 t in
      let x = map_from (with_system net) list (i, s.one) s.has_one in
      let y = map_from (with_system net) list (i, s.other) s.has_other in
      let faces =
      λ (m : Member DeviceId) (n : Option ℕ) (has : Contains list m)
      (e : with_system net m ≡ (i, n)).
      subst (λ k. are_on_side k m.device) (ap (λ z. z.0) e) ((facing.exactly m.key m.device).0 has)
      in
      record {
        x = x.0.device;
        y = y.0.device;
        x_faces = faces x.0 s.one x.1 x.2;
        y_faces = faces y.0 s.other y.1 y.2;
        apart =
            λ e.
            s.apart (ap (λ z. z.1) (sym x.2) ∙ ap (λ (z : Asn). Some z.0) e ∙ ap (λ z. z.1) y.2);
      }

  split_of : (i x y : DeviceId) → are_on_side i x → are_on_side i y → asn_of net x ≢ asn_of net y
      → contains id_cmp split i ≡ true
  split_of i x y fx fy ne =
      let has = λ (d : DeviceId) (f : are_on_side i d).
      map_has (with_system net) list (member i d) (i, Some (asn_of net d).0)
      ((facing.exactly i d).1 f) refl in
      (split_are i).1 (record {
        one = Some (asn_of net x).0;
        other = Some (asn_of net y).0;
        has_one = has x fx;
        has_other = has y fy;
        apart = λ e. ne (same_asn _ _ (same_Some _ _ e));
      })

  pub clean_side : find (λ m. contains id_cmp split m.key) list ≡ None
      → IsCleanSide net outside name side
  clean_side none i x y fx fy = same_or_not (asn_of net x) (asn_of net y) (λ ne.
      not_found (λ (m : Member DeviceId). contains id_cmp split m.key) list (member i x) none
      ((facing.exactly i x).1 fx) (split_of i x y fx fy ne))

  module _ (a : Member DeviceId)
      (first : find (λ m. contains id_cmp split m.key) list ≡ Some a) where
    a_has : Contains list a
    a_has = found_has (λ (m : Member DeviceId). contains id_cmp split m.key) list a first

    a_faces : are_on_side a.key a.device
    a_faces = (facing.exactly a.key a.device).0 a_has

    a_split : contains id_cmp split a.key ≡ true
    a_split = found_passes (λ (m : Member DeviceId). contains id_cmp split m.key) list a first

    -- no device of an island with two AS stands before a
    a_least : (m : Member DeviceId) → Contains list m → contains id_cmp split m.key ≡ true
        → is_lt (by_key id_cmp m a) ≡ false
    a_least m has t =
        found_least (by_key_total id_cmp_total) list facing.sorted
        (λ (z : Member DeviceId). contains id_cmp split z.key) a m first has t

    least_is : IsLeast (are_on_side a.key) a.device
    least_is = record {
      one = a_faces;
      least = λ x fx.
          device_le id_cmp_total a.key a.device x
          (a_least (member a.key x) ((facing.exactly a.key x).1 fx) a_split);
    }

    lowest : (j x y : DeviceId) → are_on_side j x → are_on_side j y → asn_of net x ≢ asn_of net y
        → a.key.0 ≤ j.0
    lowest j x y fx fy ne =
        island_le a (member j x)
        (a_least (member j x) ((facing.exactly j x).1 fx) (split_of j x y fx fy ne))

    pub has_other : find (is_of_another net a) list ≡ None → ⊥
    has_other none =
        let s = apart_of a.key a_split in
        let like =
        λ (d : DeviceId) (f : are_on_side a.key d). same_or_not (asn_of net d) (asn_of net a.device)
        (λ ne.
        not_found (is_of_another net a) list (member a.key d) none ((facing.exactly a.key d).1 f)
        (is_another net a (member a.key d) refl ne)) in
        s.apart (like s.x s.x_faces ∙ sym (like s.y s.y_faces))

    module _ (b : Member DeviceId) (second : find (is_of_another net a) list ≡ Some b) where
      b_other : (b.key ≡ a.key) × (asn_of net b.device ≢ asn_of net a.device)
      b_other = another_is net a b (found_passes (is_of_another net a) list b second)

      b_least : (x : DeviceId) → are_on_side a.key x → asn_of net x ≢ asn_of net a.device
          → b.device.0 ≤ x.0
      b_least x fx ne =
          let after =
          found_least (by_key_total id_cmp_total) list facing.sorted (is_of_another net a) b
          (member a.key x) second ((facing.exactly a.key x).1 fx)
          (is_another net a (member a.key x) refl ne) in
          device_le id_cmp_total a.key b.device x
          (subst (λ k. is_lt (by_key id_cmp (member a.key x) (member k b.device)) ≡ false) b_other.0
          after)

      facing_refusal : IsFacingRefusal net outside name side a.key a.device b.device
      facing_refusal = record {
        least = least_is;
        other = record {
          one = (
            subst (λ k. are_on_side k b.device) b_other.0
                ((facing.exactly b.key b.device).0 (found_has (is_of_another net a) list b second)),
            b_other.1,
          );
          least = λ x h. b_least x h.0 h.1;
        };
      }

      none_lower : (s : Refusal) → Refuses net outside name (island_of s) s
          → kind_place s ≡ side_place side
          → a.key.0 ≤ (island_of s).0
      none_lower (Facing t j x x_asn y y_asn) q k =
          let r = subst (λ z. IsFacingRefusal net outside name z j x y) (same_side t side k) q.0 in
          lowest j y x r.other.one.0 r.least.one r.other.one.1
      none_lower (Origins j p x y) q k = absurd (no_side side k)

      pub refused_side : IsFirstOfKind net outside name (side_place side)
          (Facing side a.key a.device (asn_of net a.device) b.device (asn_of net b.device))
      refused_side =
          record { refuses = (facing_refusal, refl, refl); kind_is = refl; first = none_lower }
