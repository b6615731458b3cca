-- The three attributes stand in one of six orders.
use Rattle.std.proofs.Common.{◌≡◌, ℕ, zero, suc, ◌≤◌, Bool, true, false, cond, List, [], ◌∷◌, length, Option, Some, None, Ok, refl, ap, subst, inl, inr}
use Rattle.std.specs.Prelude.{is_some, ◌⊎◌, ◌||◌, ◌==◌}
use Rattle.std.proofs.lemmas.Bool.{eqb-true}
use Rattle.std.proofs.lemmas.List.{nil_from_length}
use Rattle.cn_lists.proofs.Loops.{Ok-from_bind}
use Rattle.cn_lists.specs.Steps.{◌>>=◌}
use Rattle.cn_base.specs.Cidr.{Cidr}
use Rattle.cn_base.specs.Rank.{origin_code}
use Rattle.cn_base.specs.declared.ids.Asn.{Asn}
use Rattle.cn_base.specs.declared.ids.Origin.{Origin}
use Rattle.cn_wire.specs.declared.attributes.Found.{Found}
use Rattle.cn_wire.specs.declared.update.Attrs.{Attrs}
use Rattle.cn_wire.specs.Numbers.{four_octets, IsOctets}
use Rattle.cn_wire.specs.Spelling.{Attribute, as_path_value, origin_attribute, as_path_attribute, next_hop_attribute, AnyOrder, SpellsAttrs}
use Rattle.cn_wire.specs.Reading.{attribute_at, attributes_at, nothing, whole_of, whole, attrs_of}
use Rattle.cn_wire.proofs.Steps.{done, ok_is}
use Rattle.cn_wire.proofs.AttributesFound.{Adds, AreSmall, attribute_found, Extends, attributes_found}

-- what was found of the three attributes
abbrev pub state : Option Origin → Option (List Asn) → Option ℕ → Found
state o p h = record { origin = o; path = p; next_hop = h }

-- all three attributes, found
abbrev pub full : Attrs → Found
full a = state (Some a.origin) (Some a.path) (Some a.next_hop)

-- what one more attribute makes of what was found
step : (o : Option Origin) (p : Option (List Asn)) (h : Option ℕ) (f : Attribute) (mid : Found)
    (fs : List Attribute) (more : Found)
    → Adds (state o p h) f mid → Extends mid fs more
    → ((o ≡ None) × (x : Origin) × (f ≡ record { kind = 1; value = origin_code x ∷ [] })
    × Extends (state (Some x) p h) fs more)
    ⊎ ((p ≡ None) × (x : List Asn) × (f ≡ record { kind = 2; value = as_path_value x })
    × Extends (state o (Some x) h) fs more)
    ⊎ ((h ≡ None) × (x : ℕ) × (f ≡ record { kind = 3; value = four_octets x })
    × Extends (state o p (Some x)) fs more)
step o p h f mid fs more (inl a) rest =
    inl (a.0, a.1, a.2, subst (λ (s : Found). Extends s fs more) a.3 rest)
step o p h f mid fs more (inr (inl a)) rest =
    inr (inl (a.0, a.1, a.2, subst (λ (s : Found). Extends s fs more) a.3 rest))
step o p h f mid fs more (inr (inr a)) rest =
    inr (inr (a.0, a.1, a.2, subst (λ (s : Found). Extends s fs more) a.3 rest))

none_more : (o : Origin) (p : List Asn) (h : ℕ) (fields : List Attribute) (more : Found)
    → Extends (state (Some o) (Some p) (Some h)) fields more
    → (fields ≡ []) × (state (Some o) (Some p) (Some h) ≡ more)
none_more o p h [] more e = (refl, e)
none_more o p h (f ∷ fs) more (mid, adds, rest) =
    elim (step (Some o) (Some p) (Some h) f mid fs more adds rest) [
      | inl x ↦ let e = x.0 in absurd cc
      | inr (inl x) ↦ let e = x.0 in absurd cc
      | inr (inr x) ↦ let e = x.0 in absurd cc
    ]

same_attrs : (o : Origin) (p : List Asn) (h : ℕ) (a : Attrs)
    → state (Some o) (Some p) (Some h) ≡ full a → (o ≡ a.origin) × (p ≡ a.path) × (h ≡ a.next_hop)
same_attrs o p h a e =
    let e0 : Some o ≡ Some a.origin = ap (λ (s : Found). s.origin) e in
    let e1 : Some p ≡ Some a.path = ap (λ (s : Found). s.path) e in
    let e2 : Some h ≡ Some a.next_hop = ap (λ (s : Found). s.next_hop) e in
    (cc, cc, cc)

-- only ORIGIN is missing
last_origin : (p : List Asn) (h : ℕ) (fields : List Attribute) (a : Attrs)
    → Extends (state None (Some p) (Some h)) fields (full a)
    → (fields ≡ origin_attribute a ∷ []) × (p ≡ a.path) × (h ≡ a.next_hop)
last_origin p h [] a e = let e0 : None ≡ Some a.origin = ap (λ (s : Found). s.origin) e in absurd cc
last_origin p h (f ∷ fs) a (mid, adds, rest) =
    elim (step None (Some p) (Some h) f mid fs (full a) adds rest) [
      | inl x ↦
          let d = none_more x.1 p h fs (full a) x.3 in
          let s = same_attrs x.1 p h a d.1 in (rw (x.2, d.0, s.0) refl, s.1, s.2)
      | inr (inl x) ↦ let e = x.0 in absurd cc
      | inr (inr x) ↦ let e = x.0 in absurd cc
    ]

last_path : (o : Origin) (h : ℕ) (fields : List Attribute) (a : Attrs)
    → Extends (state (Some o) None (Some h)) fields (full a)
    → (fields ≡ as_path_attribute a ∷ []) × (o ≡ a.origin) × (h ≡ a.next_hop)
last_path o h [] a e = let e0 : None ≡ Some a.path = ap (λ (s : Found). s.path) e in absurd cc
last_path o h (f ∷ fs) a (mid, adds, rest) =
    elim (step (Some o) None (Some h) f mid fs (full a) adds rest) [
      | inl x ↦ let e = x.0 in absurd cc
      | inr (inl x) ↦
          let d = none_more o x.1 h fs (full a) x.3 in
          let s = same_attrs o x.1 h a d.1 in (rw (x.2, d.0, s.1) refl, s.0, s.2)
      | inr (inr x) ↦ let e = x.0 in absurd cc
    ]

last_hop : (o : Origin) (p : List Asn) (fields : List Attribute) (a : Attrs)
    → Extends (state (Some o) (Some p) None) fields (full a)
    → (fields ≡ next_hop_attribute a ∷ []) × (o ≡ a.origin) × (p ≡ a.path)
last_hop o p [] a e =
    let e0 : None ≡ Some a.next_hop = ap (λ (s : Found). s.next_hop) e in absurd cc
last_hop o p (f ∷ fs) a (mid, adds, rest) =
    elim (step (Some o) (Some p) None f mid fs (full a) adds rest) [
      | inl x ↦ let e = x.0 in absurd cc
      | inr (inl x) ↦ let e = x.0 in absurd cc
      | inr (inr x) ↦
          let d = none_more o p x.1 fs (full a) x.3 in
          let s = same_attrs o p x.1 a d.1 in (rw (x.2, d.0, s.2) refl, s.0, s.1)
    ]

-- two are missing
after_origin : (o : Origin) (fields : List Attribute) (a : Attrs)
    → Extends (state (Some o) None None) fields (full a)
    → ((fields ≡ as_path_attribute a ∷ next_hop_attribute a ∷ [])
    ⊎ (fields ≡ next_hop_attribute a ∷ as_path_attribute a ∷ []))
    × (o ≡ a.origin)
after_origin o [] a e = let e0 : None ≡ Some a.path = ap (λ (s : Found). s.path) e in absurd cc
after_origin o (f ∷ fs) a (mid, adds, rest) =
    elim (step (Some o) None None f mid fs (full a) adds rest) [
      | inl x ↦ let e = x.0 in absurd cc
      | inr (inl x) ↦ let d = last_hop o x.1 fs a x.3 in (inl (rw (x.2, d.0, d.2) refl), d.1)
      | inr (inr x) ↦ let d = last_path o x.1 fs a x.3 in (inr (rw (x.2, d.0, d.2) refl), d.1)
    ]

after_path : (p : List Asn) (fields : List Attribute) (a : Attrs)
    → Extends (state None (Some p) None) fields (full a)
    → ((fields ≡ origin_attribute a ∷ next_hop_attribute a ∷ [])
    ⊎ (fields ≡ next_hop_attribute a ∷ origin_attribute a ∷ []))
    × (p ≡ a.path)
after_path p [] a e = let e0 : None ≡ Some a.origin = ap (λ (s : Found). s.origin) e in absurd cc
after_path p (f ∷ fs) a (mid, adds, rest) =
    elim (step None (Some p) None f mid fs (full a) adds rest) [
      | inl x ↦ let d = last_hop x.1 p fs a x.3 in (inl (rw (x.2, d.0, d.1) refl), d.2)
      | inr (inl x) ↦ let e = x.0 in absurd cc
      | inr (inr x) ↦ let d = last_origin p x.1 fs a x.3 in (inr (rw (x.2, d.0, d.2) refl), d.1)
    ]

after_hop : (h : ℕ) (fields : List Attribute) (a : Attrs)
    → Extends (state None None (Some h)) fields (full a)
    → ((fields ≡ origin_attribute a ∷ as_path_attribute a ∷ [])
    ⊎ (fields ≡ as_path_attribute a ∷ origin_attribute a ∷ []))
    × (h ≡ a.next_hop)
after_hop h [] a e = let e0 : None ≡ Some a.origin = ap (λ (s : Found). s.origin) e in absurd cc
after_hop h (f ∷ fs) a (mid, adds, rest) =
    elim (step None None (Some h) f mid fs (full a) adds rest) [
      | inl x ↦ let d = last_path x.1 h fs a x.3 in (inl (rw (x.2, d.0, d.1) refl), d.2)
      | inr (inl x) ↦ let d = last_origin x.1 h fs a x.3 in (inr (rw (x.2, d.0, d.1) refl), d.2)
      | inr (inr x) ↦ let e = x.0 in absurd cc
    ]

in_some_order : (fields : List Attribute) (a : Attrs) → Extends nothing fields (full a)
    → AnyOrder (origin_attribute a) (as_path_attribute a) (next_hop_attribute a) fields
in_some_order [] a e = let e0 : None ≡ Some a.origin = ap (λ (s : Found). s.origin) e in absurd cc
in_some_order (f ∷ fs) a (mid, adds, rest) =
    elim (step None None None f mid fs (full a) adds rest) [
      | inl x ↦
          let d = after_origin x.1 fs a x.3 in
          elim d.0 [
            | inl y ↦ inl (rw (x.2, y, d.1) refl)
            | inr y ↦ inr (inl (rw (x.2, y, d.1) refl))
          ]
      | inr (inl x) ↦
          let d = after_path x.1 fs a x.3 in
          elim d.0 [
            | inl y ↦ inr (inr (inl (rw (x.2, y, d.1) refl)))
            | inr y ↦ inr (inr (inr (inl (rw (x.2, y, d.1) refl))))
          ]
      | inr (inr x) ↦
          let d = after_hop x.1 fs a x.3 in
          elim d.0 [
            | inl y ↦ inr (inr (inr (inr (inl (rw (x.2, y, d.1) refl)))))
            | inr y ↦ inr (inr (inr (inr (inr (rw (x.2, y, d.1) refl)))))
          ]
    ]

whole_of_found : (o : Option Origin) (p : Option (List Asn)) (h : Option ℕ) (a : Attrs)
    → whole_of o p h ≡ Ok a → state o p h ≡ full a
whole_of_found None p h a e = absurd cc
whole_of_found (Some o) None h a e = absurd cc
whole_of_found (Some o) (Some p) None a e = absurd cc
whole_of_found (Some o) (Some p) (Some h) a e =
    ap full (ok_is (record { origin = o; path = p; next_hop = h }) a e)

whole_found : (found : Found) (a : Attrs) → whole found ≡ Ok a → found ≡ full a
unfolding whole
whole_found found a e = whole_of_found found.origin found.path found.next_hop a e

attributes_small : (n end : ℕ) (found : Found) (octets : List ℕ) (more : Found)
    → IsOctets octets → attributes_at n end found octets ≡ Ok more → AreSmall found → AreSmall more
unfolding attributes_at
attributes_small zero end found octets more fits e small =
    subst (λ (x : Found). AreSmall x) (ok_is found more e) small
attributes_small (suc n) end found [] more fits e small =
    subst (λ (x : Found). AreSmall x) (ok_is found more e) small
attributes_small (suc n) end found (f ∷ octets) more fits e small =
    let a =
    Ok-from_bind (attribute_at end found (f ∷ octets)) (λ x. attributes_at n end x.0 x.1) more e in
    let h = attribute_found end found (f ∷ octets) a.0 fits a.1 in
    attributes_small n end a.0.0 a.0.1 more h.rest_fits a.2 (h.small small)

attrs_found_by : (size announced : ℕ) (found : Found) (o : Option Attrs) (is0 none : Bool)
    → (size == 0) ≡ is0 → (announced == 0) ≡ none
    → cond is0 (cond none (Ok None) (whole found >>= λ a. Ok (Some a)))
    (whole found >>= λ a. Ok (Some a))
    ≡ Ok o
    → ((None ≡ o) × (size ≡ 0) × (announced ≡ 0))
    ⊎ ((a : Attrs) × (Some a ≡ o) × (whole found ≡ Ok a))
attrs_found_by size announced found o true true e1 e2 e =
    inl (ok_is None o e, eqb-true _ _ e1, eqb-true _ _ e2)
attrs_found_by size announced found o true false e1 e2 e =
    let a = Ok-from_bind (whole found) (λ a. done (Some a)) o e in
    inr (a.0, ok_is (Some a.0) o a.2, a.1)
attrs_found_by size announced found o false none e1 e2 e =
    let a = Ok-from_bind (whole found) (λ a. done (Some a)) o e in
    inr (a.0, ok_is (Some a.0) o a.2, a.1)

attrs_found : (size announced : ℕ) (found : Found) (o : Option Attrs)
    → attrs_of size announced found ≡ Ok o
    → ((None ≡ o) × (size ≡ 0) × (announced ≡ 0))
    ⊎ ((a : Attrs) × (Some a ≡ o) × (whole found ≡ Ok a))
unfolding attrs_of
attrs_found size announced found o e =
    attrs_found_by size announced found o (size == 0) (announced == 0) refl refl e

-- what the octets of the attributes and the rest of the message spell
pub attrs_spelled : (n end : ℕ) (octets : List ℕ) (found : Found) (announced : List Cidr)
    (o : Option Attrs)
    → length octets ≤ n → IsOctets octets → attributes_at n end nothing octets ≡ Ok found
    → attrs_of (length octets) (length announced) found ≡ Ok o
    → SpellsAttrs octets o × ((is_some o || length announced == 0) ≡ true)
attrs_spelled n end octets found announced o le fits e1 e2 =
    elim (attrs_found (length octets) (length announced) found o e2) [
      | inl x ↦
          subst (λ (y : Option Attrs).
          SpellsAttrs octets y × ((is_some y || length announced == 0) ≡ true)) x.0
          (nil_from_length octets x.1, rw x.2 refl)
      | inr x ↦
          let is_full = whole_found found x.0 x.2 in
          let f = attributes_found n end nothing octets found le fits e1 in
          let s =
          attributes_small n end nothing octets found fits e1 (record { path = tt; hop = tt }) in
          let small = subst (λ (y : Found). AreSmall y) is_full s in
          let extends = subst (λ (y : Found). Extends nothing f.0 y) is_full f.2 in
          subst (λ (y : Option Attrs).
          SpellsAttrs octets y × ((is_some y || length announced == 0) ≡ true)) x.1
          ((f.0, f.1, in_some_order f.0 x.0 extends, small.path, small.hop), refl)
    ]
