-- The first refusal of an island's prefixes, from the devices that originate prefixes.
use Rattle.std.proofs.Common.{◌≡◌, ◌≢◌, ℕ, ◌<◌, ◌≤◌, ◌⊎◌, Bool, true, false, List, length, get_or, map, find, Option, Some, None, option_map, refl, sym, ap, subst, ◌∙◌, inl, inr, arith}
use Rattle.std.specs.Prelude.{◌↔◌, IsTrue, Contains}
use Rattle.std.proofs.lemmas.Bool.{cases_Bool, and_parts, and_from, cond-true, cond-false, not-true, not_from_false, true≢false}
use Rattle.std.proofs.lemmas.Bool.Decides.{nat_tests}
use Rattle.std.proofs.lemmas.Cmp.{nat_cmp_total, on_total, then_total}
use Rattle.std.proofs.lemmas.List.Sorted.{Contains-permutation, IsPermutation-sym}
use Rattle.std.proofs.lemmas.Option.{none-some, same_Some}
use Rattle.std.specs.BTreeSet.{BTreeSet, contains}
use Rattle.std.specs.Cmp.{IsTotalOrder}
use Rattle.std.specs.List.{filter_map}
use Rattle.std.specs.List.Sorted.{IsPermutation, IsSorted}
use Rattle.std.specs.Option.{option_eq}
use Rattle.std.specs.Ordering.{is_lt, nat_cmp, ordering_then}
use Rattle.cn_base.specs.Cidr.{Cidr}
use Rattle.cn_base.specs.Table.{prefix_cmp}
use Rattle.cn_base.specs.declared.ids.DeviceId.{DeviceId}
use Rattle.cn_net.specs.Certificate.{Originates}
use Rattle.cn_net.specs.Network.{Network, same_device}
use Rattle.cn_cert.specs.Refusal.{IsLeast, IsPrefixBefore, OriginatesElsewhere, OriginatesInside, Refuses, island_of, kind_place}
use Rattle.cn_cert.specs.Steps.{AreMembers, HaveOwnPrefixes, IsFirstOfKind, IsSplit, by_key, is_elsewhere, island_prefix_cmp, member, shared, with_island}
use Rattle.cn_cert.specs.declared.members.Member.{Member}
use Rattle.cn_cert.specs.declared.refusal.Refusal.{Refusal}
use Rattle.cn_cert.specs.declared.refusal.Refusal.TheVariants.{Facing, Origins}
use Rattle.cn_cert.proofs.Finding.{by_key_total, device_le, first_least, found_has, found_least, found_passes, id_cmp_total, not_found}
use Rattle.cn_cert.proofs.Lists.{filter_map_from, filter_map_has, map_from, map_has, number_itself, prefix_is, prefix_itself, same_number}
use Rattle.cn_cert.proofs.Systems.{no_side}

-- ---- orders

prefix_total : IsTotalOrder prefix_cmp
prefix_total =
    then_total (on_total (λ (p : Cidr). p.bits) nat_cmp_total)
    (on_total (λ (p : Cidr). p.len) nat_cmp_total)

place_total : IsTotalOrder island_prefix_cmp
place_total =
    then_total (on_total (λ (k : DeviceId × Cidr). k.0) id_cmp_total)
    (on_total (λ (k : DeviceId × Cidr). k.1) prefix_total)

-- y isn't before x: then x's island isn't above y's, and in one island y's prefix isn't before x's
order_island : (a b c d e f g h : ℕ)
    → is_lt (ordering_then (ordering_then (nat_cmp b a) (ordering_then (nat_cmp d c) (nat_cmp f e)))
    (nat_cmp h g))
    ≡ false
    → a ≤ b
order_island a b c d e f g h s = grind (arith, nat_tests)

order_prefix : (a c d e f g h : ℕ)
    → is_lt (ordering_then (ordering_then (nat_cmp a a) (ordering_then (nat_cmp d c) (nat_cmp f e)))
    (nat_cmp h g))
    ≡ false
    → (d < c) ⊎ ((d ≡ c) × (f < e)) → ⊥
order_prefix a c d e f g h s (inl t) = grind (arith, nat_tests)
order_prefix a c d e f g h s (inr t) = grind (arith, nat_tests)

-- ---- islands as numbers

number_of : Option DeviceId → Option ℕ
number_of o = option_map (λ i. i.0) o

same_island : (x y : Option DeviceId) → option_map (λ i. i.0) x ≡ option_map (λ i. i.0) y → x ≡ y
same_island None None e = refl
same_island None (Some y) e = absurd (none-some y.0 e)
same_island (Some x) None e = absurd (none-some x.0 (sym e))
same_island (Some x) (Some y) e = let n = same_Some x.0 y.0 e in ap Some (λ i. record { 0 = n i })

island_is : (x : Option DeviceId) (i : DeviceId) → option_eq same_device x (Some i) ≡ true
    → x ≡ Some i
island_is None i e = absurd (true≢false (sym e))
island_is (Some x) i e = ap Some (same_number x i e)

is_island : (x : Option DeviceId) (i : DeviceId) → x ≡ Some i
    → option_eq same_device x (Some i) ≡ true
is_island None i e = absurd (none-some i e)
is_island (Some x) i e = number_itself x i (same_Some x i e)

-- a label that can't differ from an island's is that island's
pub in_or_not : (x : Option DeviceId) (i : DeviceId) → (x ≢ Some i → ⊥) → x ≡ Some i
in_or_not x i h = elim (cases_Bool (option_eq same_device x (Some i))) [
  | inl t ↦ island_is x i t
  | inr f ↦ absurd (h (λ e. true≢false (sym (is_island x i e) ∙ f)))
]

module _ (name : DeviceId → Option DeviceId) (i : DeviceId) (p : Cidr) (m : Member Cidr) where
  elsewhere_is : is_elsewhere name i p m ≡ true → (m.key ≡ p) × (name m.device ≢ Some i)
  elsewhere_is t =
      let h = and_parts _ _ t in (
        prefix_is m.key p h.0,
        λ e. true≢false (sym (is_island (name m.device) i e) ∙ not-true _ h.1),
      )

  is_elsewhere_so : m.key ≡ p → name m.device ≢ Some i → is_elsewhere name i p m ≡ true
  is_elsewhere_so e ne = and_from _ _ (prefix_itself m.key p e)
      (elim (cases_Bool (option_eq same_device (name m.device) (Some i))) [
        | inl t ↦ absurd (ne (island_is (name m.device) i t))
        | inr f ↦ not_from_false _ f
      ])

-- ---- members by island and prefix

shared_from : (name : DeviceId → Option DeviceId) (is : Bool) (m : Member Cidr)
    (n : Member (DeviceId × Cidr))
    → shared name is m ≡ Some n
    → (is ≡ true) × (name m.device ≡ Some n.key.0) × (m ≡ member n.key.1 n.device)
shared_from name is m n e =
    elim (cases_Bool is) [
      | inl t ↦ go (name m.device) refl t (sym (cond-true is rest None t) ∙ e)
      | inr f ↦ absurd (none-some n (sym (cond-false is rest None f) ∙ e))
    ]
  where
    placed : DeviceId → Member (DeviceId × Cidr)
    placed i = member (i, m.key) m.device

    rest : Option (Member (DeviceId × Cidr))
    rest = option_map (λ i. member (i, m.key) m.device) (name m.device)

    go : (o : Option DeviceId) → name m.device ≡ o → is ≡ true
        → option_map (λ i. member (i, m.key) m.device) o ≡ Some n
        → (is ≡ true) × (name m.device ≡ Some n.key.0) × (m ≡ member n.key.1 n.device)
    go None s t q = absurd (none-some n q)
    go (Some x) s t q =
        let r : member (x, m.key) m.device ≡ n = same_Some _ n q in
        let device : m.device ≡ n.device = ap (λ z. z.device) r in
        let key : m.key ≡ n.key.1 = ap (λ z. z.key.1) r in
        (t, s ∙ ap (λ z. Some z.key.0) r, λ i. record { key = key i; device = device i })

shared_to : (name : DeviceId → Option DeviceId) (is : Bool) (i : DeviceId) (p : Cidr) (d : DeviceId)
    → is ≡ true → name d ≡ Some i → shared name is (member p d) ≡ Some (member (i, p) d)
shared_to name is i p d t e =
    cond-true is (option_map (λ z. member {K = DeviceId × Cidr} (z, p) d) (name d)) None t
    ∙ ap (option_map (λ z. member (z, p) d)) e

-- ---- the first of the origins

module _ (net : Network) (name : DeviceId → Option DeviceId) (list : List (Member Cidr))
    (origins : AreMembers prefix_cmp (λ p d. Originates net d p) list)
    (split : BTreeSet Cidr)
    (split_are : (p : Cidr)
    → IsTrue (contains prefix_cmp split p) ↔ IsSplit (map (with_island name) list) p)
    (placed : List (Member (DeviceId × Cidr))) (up : IsSorted (by_key island_prefix_cmp) placed)
    (placed_are : IsPermutation
    (filter_map (λ m. shared name (contains prefix_cmp split m.key) m) list) placed) where
  placing : Member Cidr → Option (Member (DeviceId × Cidr))
  placing m = shared name (contains prefix_cmp split m.key) m

  -- a prefix that devices of two islands originate
  record IsApart (p : Cidr) : Type 0 where
    x : DeviceId
    y : DeviceId
    x_originates : Originates net x p
    y_originates : Originates net y p
    apart : name x ≢ name y

  apart_of : (p : Cidr) → contains prefix_cmp split p ≡ true → IsApart p
  apart_of p t =
      let s = (split_are p).0 t in
      let x = map_from (with_island name) list (p, s.one) s.has_one in
      let y = map_from (with_island name) list (p, s.other) s.has_other in
      let originates =
      λ (m : Member Cidr) (n : Option ℕ) (has : Contains list m) (e : with_island name m ≡ (p, n)).
      subst (λ q. Originates net m.device q) (ap (λ z. z.0) e)
      ((origins.exactly m.key m.device).0 has) in
      record {
        x = x.0.device;
        y = y.0.device;
        x_originates = originates x.0 s.one x.1 x.2;
        y_originates = originates y.0 s.other y.1 y.2;
        apart =
            λ e.
            s.apart (ap (λ z. z.1) (sym x.2) ∙ ap (option_map (λ i. i.0)) e ∙ ap (λ z. z.1) y.2);
      }

  split_of : (p : Cidr) (x y : DeviceId) → Originates net x p → Originates net y p → name x ≢ name y
      → contains prefix_cmp split p ≡ true
  split_of p x y ox oy ne =
      let has = λ (d : DeviceId) (o : Originates net d p).
      map_has (with_island name) list (member p d) (p, option_map (λ i. i.0) (name d))
      ((origins.exactly p d).1 o) refl in
      (split_are p).1 (record {
        one = option_map (λ i. i.0) (name x);
        other = option_map (λ i. i.0) (name y);
        has_one = has x ox;
        has_other = has y oy;
        apart = λ e. ne (same_island (name x) (name y) e);
      })

  placed_from : (n : Member (DeviceId × Cidr)) → Contains placed n
      → (contains prefix_cmp split n.key.1 ≡ true)
      × OriginatesInside net name n.key.0 n.key.1 n.device
  unfolding placing
  placed_from n h =
      let s =
      filter_map_from placing list n
      (Contains-permutation _ _ n (IsPermutation-sym _ _ placed_are) h) in
      let r = shared_from name (contains prefix_cmp split s.0.key) s.0 n s.2 in (
        subst (λ (m : Member Cidr). contains prefix_cmp split m.key ≡ true) r.2 r.0,
        record {
          label_is = subst (λ (m : Member Cidr). name m.device ≡ Some n.key.0) r.2 r.1;
          originates = (origins.exactly n.key.1 n.device).0 (subst (Contains list) r.2 s.1);
        },
      )

  placed_to : (i : DeviceId) (p : Cidr) (d : DeviceId) → contains prefix_cmp split p ≡ true
      → OriginatesInside net name i p d → Contains placed (member (i, p) d)
  unfolding placing
  placed_to i p d t h =
      Contains-permutation _ _ (member (i, p) d) placed_are
      (filter_map_has placing list (member p d) (member (i, p) d)
      ((origins.exactly p d).1 h.originates)
      (shared_to name (contains prefix_cmp split p) i p d t h.label_is))

  -- what is originated inside an island and elsewhere
  placed_both : (i : DeviceId) (p : Cidr) (d x : DeviceId) → OriginatesInside net name i p d
      → OriginatesElsewhere net name i p x → Contains placed (member (i, p) d)
  placed_both i p d x hd hx =
      placed_to i p d
      (split_of p x d hx.originates hd.originates (λ e. hx.label_is_not (e ∙ hd.label_is))) hd

  pub own_prefixes : length placed ≡ 0 → HaveOwnPrefixes net name
  own_prefixes none i d x p is od ox = in_or_not (name x) i (λ ne.
      let h = placed_both i p d x (record { label_is = is; originates = od })
      (record { label_is_not = ne; originates = ox }) in
      omega (arith, h.1, none))

  module _ (first : Member (DeviceId × Cidr)) (some : 0 < length placed)
      (first_is : get_or placed 0 first ≡ first) where
    abbrev island : DeviceId
    island = first.key.0

    abbrev prefix : Cidr
    prefix = first.key.1

    first_in : (contains prefix_cmp split prefix ≡ true)
        × OriginatesInside net name island prefix first.device
    first_in = placed_from first (0, some, first_is)

    least : (n : Member (DeviceId × Cidr)) → Contains placed n
        → is_lt (by_key island_prefix_cmp n first) ≡ false
    least n h = first_least (by_key_total place_total) placed up first n some first_is h

    inside_least : IsLeast (OriginatesInside net name island prefix) first.device
    inside_least = record {
      one = first_in.1;
      least = λ x h.
          device_le place_total first.key first.device x
          (least (member first.key x) (placed_to island prefix x first_in.0 h));
    }

    pub has_elsewhere : find (is_elsewhere name island prefix) list ≡ None → ⊥
    has_elsewhere none =
        let s = apart_of prefix first_in.0 in
        let inside = λ (d : DeviceId) (o : Originates net d prefix).
        in_or_not (name d) island (λ ne.
        not_found (is_elsewhere name island prefix) list (member prefix d) none
        ((origins.exactly prefix d).1 o)
        (is_elsewhere_so name island prefix (member prefix d) refl ne)) in
        s.apart (inside s.x s.x_originates ∙ sym (inside s.y s.y_originates))

    module _ (outside : DeviceId → Bool) (other : Member Cidr)
        (second : find (is_elsewhere name island prefix) list ≡ Some other) where
      other_is : (other.key ≡ prefix) × (name other.device ≢ Some island)
      other_is =
          elsewhere_is name island prefix other
          (found_passes (is_elsewhere name island prefix) list other second)

      elsewhere_least : IsLeast (OriginatesElsewhere net name island prefix) other.device
      elsewhere_least = record {
        one = record {
          label_is_not = other_is.1;
          originates = subst (λ p. Originates net other.device p) other_is.0
              ((origins.exactly other.key other.device).0
              (found_has (is_elsewhere name island prefix) list other second));
        };
        least = λ x h.
            let after =
            found_least (by_key_total prefix_total) list origins.sorted
            (is_elsewhere name island prefix) other
            (member prefix x) second ((origins.exactly prefix x).1 h.originates)
            (is_elsewhere_so name island prefix (member prefix x) refl h.label_is_not) in
            device_le prefix_total prefix other.device x
            (subst
            (λ k. is_lt (by_key prefix_cmp (member prefix x) (member k other.device)) ≡ false)
            other_is.0 after);
      }

      prefix_least : (p : Cidr) (d x : DeviceId) → IsPrefixBefore p prefix
          → OriginatesInside net name island p d → OriginatesElsewhere net name island p x → ⊥
      prefix_least p d x before hd hx =
          order_prefix island.0 prefix.bits p.bits prefix.len p.len first.device.0 d.0
          (least (member (island, p) d) (placed_both island p d x hd hx)) before

      none_lower : (s : Refusal) → Refuses net outside name (island_of s) s → kind_place s ≡ 2
          → island.0 ≤ (island_of s).0
      none_lower (Facing t j x x_asn y y_asn) q k = absurd (no_side t (sym k))
      none_lower (Origins j p d x) q k =
          order_island island.0 j.0 prefix.bits p.bits prefix.len p.len first.device.0 d.0
          (least (member (j, p) d) (placed_both j p d x q.inside_least.one q.elsewhere_least.one))

      pub refused_origins : IsFirstOfKind net outside name 2
          (Origins island prefix first.device other.device)
      refused_origins = record {
        refuses = record {
          inside_least = inside_least;
          elsewhere_least = elsewhere_least;
          prefix_least = prefix_least;
        };
        kind_is = refl;
        first = none_lower;
      }
