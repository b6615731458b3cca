-- Attributes that are read are spelled so.
use Rattle.std.proofs.Common.{◌≡◌, ℕ, zero, suc, ◌+◌, ◌-◌, ◌*◌, ◌/◌, ◌^◌, ◌<◌, ◌≤◌, Bool, true, false, cond, ltb, List, [], ◌∷◌, ◌++◌, length, take, drop, Some, None, Result, Ok, Err, refl, sym, ap, subst, ◌∙◌, arith, inl, inr}
use Rattle.std.specs.Prelude.{not, slice_index, is_some, IfSome, ◌⊎◌, ◌||◌, ◌==◌}
use Rattle.std.proofs.lemmas.Bool.{ltb-false, eqb-true, cond-true, cond-false}
use Rattle.std.proofs.lemmas.List.{take-append-drop, length-take, length-drop}
use Rattle.std.specs.List.{flat_map}
use Rattle.std.proofs.lemmas.List.Concat.{flat_map-cons}
use Rattle.byteorder.specs.Numbers.{big_from-lt}
use Rattle.cn_lists.proofs.Finding.{None-from_is_some}
use Rattle.cn_lists.proofs.Loops.{Ok-from_bind}
use Rattle.cn_lists.specs.Steps.{◌>>=◌}
use Rattle.cn_base.specs.Rank.{origin_code}
use Rattle.cn_base.specs.declared.ids.Asn.{Asn}
use Rattle.cn_base.specs.declared.ids.Origin.{Origin}
use Rattle.cn_base.specs.declared.ids.Origin.TheVariants.{Igp, Egp, Incomplete}
use Rattle.cn_wire.specs.declared.fault.AttrCause.TheVariants as causes
use Rattle.cn_wire.specs.declared.fault.WireFault.{WireFault}
use Rattle.cn_wire.specs.declared.fault.WireFault.TheVariants.{Bounds, Attr}
use Rattle.cn_wire.specs.declared.attributes.Found.{Found}
use Rattle.cn_wire.specs.Numbers.{two_octets, four_octets, IsOctets, number_2, number_4}
use Rattle.cn_wire.specs.Spelling.{SpellsEach, Attribute, length_octets, SpellsAttribute, as_path_value, FitFourOctets}
use Rattle.cn_wire.specs.Reading.{is_wide, sizes_at, is_known, has, head_at, origin_at, numbers_in, counted_at, path_at, next_hop_at, add_at, attribute_at, attributes_at}
use Rattle.cn_wire.proofs.Steps.{IsOctets-drop, IsOctets-take, guard_ok, done, ok_is, not_false, two_again, four_again}

-- how many octets stand before the value, and how many the value has
abbrev pub sizes : ℕ → ℕ → Result (ℕ × ℕ) WireFault
sizes before size = Ok (before, size)

-- the lengths that octets with this flag have
abbrev pub HasSizes : List ℕ → Bool → ℕ → ℕ → Type 0
HasSizes octets wide before size =
    ((wide ≡ true) × (4 ≡ before) × (number_2 (drop 2 octets) ≡ size) × (4 ≤ length octets))
    ⊎ ((wide ≡ false) × (3 ≡ before) × (slice_index octets 2 ≡ size) × (3 ≤ length octets))

sizes_found_by : (at : ℕ) (octets : List ℕ) (before size : ℕ) (wide : Bool)
    → cond wide
    (cond (ltb (length octets) 4) (Err (Bounds at)) (sizes 4 (number_2 (drop 2 octets))))
    (cond (ltb (length octets) 3) (Err (Bounds at)) (sizes 3 (slice_index octets 2)))
    ≡ sizes before size
    → HasSizes octets wide before size
sizes_found_by at octets before size true e =
    let a =
    guard_ok (ltb (length octets) 4) (Bounds at) (sizes 4 (number_2 (drop 2 octets))) (before, size)
    e in
    let b = ok_is (4, number_2 (drop 2 octets)) (before, size) a.1 in
    inl (refl, ap (λ (x : ℕ × ℕ). x.0) b, ap (λ (x : ℕ × ℕ). x.1) b, ltb-false _ _ a.0)
sizes_found_by at octets before size false e =
    let a =
    guard_ok (ltb (length octets) 3) (Bounds at) (sizes 3 (slice_index octets 2)) (before, size)
    e in
    let b = ok_is (3, slice_index octets 2) (before, size) a.1 in
    inr (refl, ap (λ (x : ℕ × ℕ). x.0) b, ap (λ (x : ℕ × ℕ). x.1) b, ltb-false _ _ a.0)

sizes_found : (at : ℕ) (octets : List ℕ) (before size : ℕ)
    → sizes_at at octets ≡ Ok (before, size)
    → HasSizes octets (is_wide (slice_index octets 0)) before size
unfolding sizes_at
sizes_found at octets before size e =
    sizes_found_by at octets before size (is_wide (slice_index octets 0)) e

-- the octets that a head of this size and its value take
parts_found : (octets : List ℕ) (wide : Bool) (before size : ℕ) → IsOctets octets
    → is_wide (slice_index octets 0) ≡ wide → HasSizes octets wide before size
    → before + size ≤ length octets
    → octets
    ≡ (slice_index octets 0 ∷ slice_index octets 1
    ∷ (length_octets (slice_index octets 0) (length (take size (drop before octets)))
    ++ take size (drop before octets)))
    ++ drop size (drop before octets)
parts_found (f ∷ k ∷ a ∷ b ∷ tail) wide before size fits w (inl h) long =
    subst (λ (n : ℕ). f ∷ k ∷ a ∷ b ∷ tail
    ≡ (f ∷ k
    ∷ (length_octets f (length (take size (drop n (f ∷ k ∷ a ∷ b ∷ tail))))
    ++ take size (drop n (f ∷ k ∷ a ∷ b ∷ tail))))
    ++ drop size (drop n (f ∷ k ∷ a ∷ b ∷ tail))) h.1
    (let e = h.1 in
    let len : length (take size tail) ≡ size = omega (arith, length-take size tail) in
    let sized : length_octets f (length (take size tail)) ≡ a ∷ b ∷ [] =
    ap (length_octets f) len ∙ cond-true (is_wide f) (two_octets size) (size ∷ []) (w ∙ h.0)
    ∙ ap two_octets (sym h.2) ∙ two_again a b tail (fits 2) (fits 3) in
    ap (λ (t : List ℕ). f ∷ k ∷ a ∷ b ∷ t) (sym (take-append-drop size tail))
    ∙ sym (ap (λ (s : List ℕ). (f ∷ k ∷ (s ++ take size tail)) ++ drop size tail) sized))
parts_found (f ∷ k ∷ a ∷ tail) wide before size fits w (inr h) long =
    subst (λ (n : ℕ). f ∷ k ∷ a ∷ tail
    ≡ (f ∷ k
    ∷ (length_octets f (length (take size (drop n (f ∷ k ∷ a ∷ tail))))
    ++ take size (drop n (f ∷ k ∷ a ∷ tail))))
    ++ drop size (drop n (f ∷ k ∷ a ∷ tail))) h.1
    (let e = h.1 in
    let len : length (take size tail) ≡ size = omega (arith, length-take size tail) in
    let sized : length_octets f (length (take size tail)) ≡ a ∷ [] =
    ap (length_octets f) len ∙ cond-false (is_wide f) (two_octets size) (size ∷ []) (w ∙ h.0)
    ∙ ap (λ (n : ℕ). n ∷ []) (sym h.2) in
    ap (λ (t : List ℕ). f ∷ k ∷ a ∷ t) (sym (take-append-drop size tail))
    ∙ sym (ap (λ (s : List ℕ). (f ∷ k ∷ (s ++ take size tail)) ++ drop size tail) sized))
parts_found (f ∷ k ∷ a ∷ []) wide before size fits w (inl h) long =
    let le = h.3 in absurd (omega arith)
parts_found (f ∷ k ∷ []) wide before size fits w (inl h) long = let le = h.3 in absurd (omega arith)
parts_found (f ∷ []) wide before size fits w (inl h) long = let le = h.3 in absurd (omega arith)
parts_found [] wide before size fits w (inl h) long = let le = h.3 in absurd (omega arith)
parts_found (f ∷ k ∷ []) wide before size fits w (inr h) long = let le = h.3 in absurd (omega arith)
parts_found (f ∷ []) wide before size fits w (inr h) long = let le = h.3 in absurd (omega arith)
parts_found [] wide before size fits w (inr h) long = let le = h.3 in absurd (omega arith)

-- an attribute stands in front: its type and its value
pub record IsHead (found : Found) (octets : List ℕ) (kind : ℕ) (value rest : List ℕ) : Type 0 where
  pub front : List ℕ
  pub parts : octets ≡ front ++ rest
  pub spelled : SpellsAttribute front (record { kind = kind; value = value })
  pub known : is_known kind ≡ true
  pub fresh : has found kind ≡ false
  pub value_fits : IsOctets value
  pub rest_fits : IsOctets rest
  pub shorter : length rest < length octets

before_above : (octets : List ℕ) (wide : Bool) (before size : ℕ)
    → HasSizes octets wide before size → (0 < before) × (0 < length octets)
before_above octets wide before size (inl h) =
    let e = h.1 in let le = h.3 in (omega arith, omega arith)
before_above octets wide before size (inr h) =
    let e = h.1 in let le = h.3 in (omega arith, omega arith)

-- a type, a value and the octets behind it
abbrev pub head : ℕ → List ℕ → List ℕ → Result (ℕ × List ℕ × List ℕ) WireFault
head kind value rest = Ok (kind, value, rest)

head_found : (at : ℕ) (found : Found) (octets : List ℕ) (h : ℕ × List ℕ × List ℕ)
    → IsOctets octets → head_at at found octets ≡ Ok h → IsHead found octets h.0 h.1 h.2
unfolding head_at
head_found at found octets h fits e =
    let a = Ok-from_bind (sizes_at at octets) _ h e in
    let before = a.0.0 in
    let size = a.0.1 in
    let kind = slice_index octets 1 in
    let b =
    guard_ok (not (is_known (slice_index octets 1))) (Attr at (slice_index octets 1) causes.Kind) _
    h a.2 in
    let c =
    guard_ok (has found (slice_index octets 1)) (Attr at (slice_index octets 1) causes.Repeated) _ h
    b.1 in
    let d =
    guard_ok (not (slice_index octets 0 / 32 == 2)) (Attr at (slice_index octets 1) causes.Flags) _
    h c.1 in
    let f =
    guard_ok (ltb (length octets) (a.0.0 + a.0.1)) (Bounds at)
    (head (slice_index octets 1) (take a.0.1 (drop a.0.0 octets)) (drop a.0.1 (drop a.0.0 octets)))
    h d.1 in
    let s = sizes_found at octets a.0.0 a.0.1 a.1 in
    let long : a.0.0 + a.0.1 ≤ length octets = ltb-false _ _ f.0 in
    let above = before_above octets (is_wide (slice_index octets 0)) a.0.0 a.0.1 s in
    let above0 = above.0 in
    let above1 = above.1 in
    let made : IsHead found octets (slice_index octets 1) (take a.0.1 (drop a.0.0 octets))
    (drop a.0.1 (drop a.0.0 octets)) =
    record {
      front =
          slice_index octets 0 ∷ slice_index octets 1
          ∷ (length_octets (slice_index octets 0) (length (take a.0.1 (drop a.0.0 octets)))
          ++ take a.0.1 (drop a.0.0 octets));
      parts = parts_found octets (is_wide (slice_index octets 0)) a.0.0 a.0.1 fits refl s long;
      spelled = record {
        flags = slice_index octets 0;
        parts = refl;
        high = eqb-true _ _ (not_false (slice_index octets 0 / 32 == 2) d.0);
      };
      known = not_false (is_known (slice_index octets 1)) b.0;
      fresh = c.0;
      value_fits = IsOctets-take a.0.1 (drop a.0.0 octets) (IsOctets-drop a.0.0 octets fits);
      rest_fits = IsOctets-drop a.0.1 (drop a.0.0 octets) (IsOctets-drop a.0.0 octets fits);
      shorter = simp length-drop (omega arith);
    } in
    subst (λ (x : ℕ × List ℕ × List ℕ). IsHead found octets x.0 x.1 x.2)
    (ok_is (slice_index octets 1, take a.0.1 (drop a.0.0 octets), drop a.0.1 (drop a.0.0 octets)) h
    f.1) made

origin_found : (at : ℕ) (value : List ℕ) (o : Origin) → origin_at at value ≡ Ok o
    → value ≡ origin_code o ∷ []
unfolding origin_at
origin_found at (zero ∷ []) o e = ap (λ (x : Origin). origin_code x ∷ []) (ok_is Igp o e)
origin_found at (suc zero ∷ []) o e = ap (λ (x : Origin). origin_code x ∷ []) (ok_is Egp o e)
origin_found at (suc (suc zero) ∷ []) o e =
    ap (λ (x : Origin). origin_code x ∷ []) (ok_is Incomplete o e)
origin_found at (suc (suc (suc n)) ∷ []) o e = absurd cc
origin_found at [] o e = absurd cc
origin_found at (a ∷ b ∷ octets) o e = absurd cc

all_four : (value : List ℕ) → IsOctets value → length value ≡ 4
    → value ≡ four_octets (number_4 value)
all_four (a ∷ b ∷ c ∷ d ∷ []) fits len =
    sym (four_again a b c d [] (fits 0) (fits 1) (fits 2) (fits 3))
all_four (a ∷ b ∷ c ∷ d ∷ e ∷ value) fits len = absurd (omega arith)
all_four [] fits len = absurd (omega arith)
all_four (a ∷ []) fits len = absurd (omega arith)
all_four (a ∷ b ∷ []) fits len = absurd (omega arith)
all_four (a ∷ b ∷ c ∷ []) fits len = absurd (omega arith)

hop_found : (at : ℕ) (value : List ℕ) (h : ℕ) → IsOctets value → next_hop_at at value ≡ Ok h
    → value ≡ four_octets h
unfolding next_hop_at
hop_found at value h fits e =
    let a =
    guard_ok (not (length value == 4)) (Attr at 3 causes.Size) (done (number_4 value)) h e in
    let len : length value ≡ 4 = eqb-true _ _ (not_false (length value == 4) a.0) in
    all_four value fits len ∙ ap four_octets (ok_is (number_4 value) h a.1)

numbers_found : (n : ℕ) (octets : List ℕ) → IsOctets octets → length octets ≡ 4 * n
    → flat_map (λ m. four_octets m.0) (numbers_in n octets) ≡ octets
numbers_found zero [] fits len = refl
numbers_found zero (a ∷ octets) fits len = absurd (omega arith)
numbers_found (suc n) (a ∷ b ∷ c ∷ d ∷ octets) fits len =
    let rest = numbers_found n octets (λ i. fits (suc (suc (suc (suc i))))) (omega arith) in
    rw flat_map-cons
    (ap (λ (t : List ℕ). four_octets (number_4 (a ∷ b ∷ c ∷ d ∷ octets)) ++ t) rest
    ∙ ap (λ (t : List ℕ). t ++ octets)
    (four_again a b c d octets (fits 0) (fits 1) (fits 2) (fits 3)))
numbers_found (suc n) [] fits len = absurd (omega arith)
numbers_found (suc n) (a ∷ []) fits len = absurd (omega arith)
numbers_found (suc n) (a ∷ b ∷ []) fits len = absurd (omega arith)
numbers_found (suc n) (a ∷ b ∷ c ∷ []) fits len = absurd (omega arith)

numbers_count : (n : ℕ) (octets : List ℕ) → length (numbers_in n octets) ≡ n
numbers_count zero octets = refl
numbers_count (suc n) octets = ap suc (numbers_count n (drop 4 octets))

counted_found : (at : ℕ) (octets : List ℕ) (p : List Asn) → IsOctets octets
    → counted_at at octets ≡ Ok p → 2 ∷ octets ≡ as_path_value p
unfolding counted_at
counted_found at [] p fits e = absurd cc
counted_found at (zero ∷ octets) p fits e = absurd cc
counted_found at (suc n ∷ octets) p fits e =
    let a =
    guard_ok (not (length octets == 4 * suc n)) (Attr at 2 causes.Size)
    (done (numbers_in (suc n) octets)) p e in
    let len : length octets ≡ 4 * suc n =
    eqb-true _ _ (not_false (length octets == 4 * suc n) a.0) in
    let one : 2 ∷ suc n ∷ octets ≡ as_path_value (numbers_in (suc n) octets) =
    ap (λ (t : List ℕ). 2 ∷ suc n ∷ t) (sym (numbers_found (suc n) octets (λ i. fits (suc i)) len))
    ∙ ap (λ (k : ℕ). 2 ∷ k ∷ flat_map (λ m. four_octets m.0) (numbers_in (suc n) octets))
    (sym (numbers_count (suc n) octets)) in
    one ∙ ap as_path_value (ok_is (numbers_in (suc n) octets) p a.1)

path_found : (at : ℕ) (value : List ℕ) (p : List Asn) → IsOctets value → path_at at value ≡ Ok p
    → value ≡ as_path_value p
unfolding path_at
path_found at [] p fits e = ap as_path_value (ok_is [] p e)
path_found at (s ∷ octets) p fits e =
    let a = guard_ok (not (s == 2)) (Attr at 2 causes.Segment) (counted_at at octets) p e in
    let two_is : s ≡ 2 = eqb-true _ _ (not_false (s == 2) a.0) in
    ap (λ (x : ℕ). x ∷ octets) two_is ∙ counted_found at octets p (λ i. fits (suc i)) a.1

-- an attribute was added to those that were found
abbrev pub Adds : Found → Attribute → Found → Type 0
Adds found f more =
    ((found.origin ≡ None) × (o : Origin) × (f ≡ record { kind = 1; value = origin_code o ∷ [] })
    × (more ≡ record { origin = Some o; path = found.path; next_hop = found.next_hop }))
    ⊎ ((found.path ≡ None) × (p : List Asn) × (f ≡ record { kind = 2; value = as_path_value p })
    × (more ≡ record { origin = found.origin; path = Some p; next_hop = found.next_hop }))
    ⊎ ((found.next_hop ≡ None) × (h : ℕ) × (f ≡ record { kind = 3; value = four_octets h })
    × (more ≡ record { origin = found.origin; path = found.path; next_hop = Some h }))

field_is : (k k' : ℕ) (v v' : List ℕ) → k ≡ k' → v ≡ v'
    → ◌≡◌ {A = Attribute} (record { kind = k; value = v }) (record { kind = k'; value = v' })
field_is k k' v v' e e' = λ i. record { kind = e i; value = e' i }

add_found_by : (at : ℕ) (found : Found) (kind : ℕ) (value : List ℕ) (more : Found)
    (is1 is2 is3 : Bool)
    → (kind == 1) ≡ is1 → (kind == 2) ≡ is2 → (kind == 3) ≡ is3
    → ((is1 || is2) || is3) ≡ true
    → cond is1 (is_some found.origin) (cond is2 (is_some found.path) (is_some found.next_hop))
    ≡ false
    → IsOctets value
    → cond is1 (origin_at at value
    >>= λ o. done (record { origin = Some o; path = found.path; next_hop = found.next_hop }))
    (cond is2 (path_at at value
    >>= λ p. done (record { origin = found.origin; path = Some p; next_hop = found.next_hop }))
    (next_hop_at at value
    >>= λ h. done (record { origin = found.origin; path = found.path; next_hop = Some h })))
    ≡ Ok more
    → Adds found (record { kind = kind; value = value }) more
add_found_by at found kind value more true is2 is3 e1 e2 e3 known fresh fits e =
    let a =
    Ok-from_bind (origin_at at value)
    (λ o. done (record { origin = Some o; path = found.path; next_hop = found.next_hop })) more e in
    let k : kind ≡ 1 = eqb-true _ _ e1 in
    inl (
      None-from_is_some found.origin fresh,
      a.0,
      field_is kind 1 value (origin_code a.0 ∷ []) k (origin_found at value a.0 a.1),
      sym (ok_is (record { origin = Some a.0; path = found.path; next_hop = found.next_hop }) more
          a.2),
    )
add_found_by at found kind value more false true is3 e1 e2 e3 known fresh fits e =
    let a =
    Ok-from_bind (path_at at value)
    (λ p. done (record { origin = found.origin; path = Some p; next_hop = found.next_hop })) more
    e in
    let k : kind ≡ 2 = eqb-true _ _ e2 in
    inr (inl (
      None-from_is_some found.path fresh,
      a.0,
      field_is kind 2 value (as_path_value a.0) k (path_found at value a.0 fits a.1),
      sym (ok_is (record { origin = found.origin; path = Some a.0; next_hop = found.next_hop }) more
          a.2),
    ))
add_found_by at found kind value more false false true e1 e2 e3 known fresh fits e =
    let a =
    Ok-from_bind (next_hop_at at value)
    (λ h. done (record { origin = found.origin; path = found.path; next_hop = Some h })) more e in
    let k : kind ≡ 3 = eqb-true _ _ e3 in
    inr (inr (
      None-from_is_some found.next_hop fresh,
      a.0,
      field_is kind 3 value (four_octets a.0) k (hop_found at value a.0 fits a.1),
      sym (ok_is (record { origin = found.origin; path = found.path; next_hop = Some a.0 }) more
          a.2),
    ))
add_found_by at found kind value more false false false e1 e2 e3 known fresh fits e = absurd cc

add_found : (at : ℕ) (found : Found) (kind : ℕ) (value : List ℕ) (more : Found)
    → is_known kind ≡ true → has found kind ≡ false → IsOctets value
    → add_at at found kind value ≡ Ok more
    → Adds found (record { kind = kind; value = value }) more
unfolding add_at
add_found at found kind value more known fresh fits e =
    add_found_by at found kind value more (kind == 1) (kind == 2) (kind == 3) refl refl refl known
    fresh fits e

-- the numbers that were found have 32 bits
pub record AreSmall (found : Found) : Type 0 where
  pub path : IfSome found.path FitFourOctets
  pub hop : IfSome found.next_hop (λ h. h < 2 ^ 32)

numbers_small : (n : ℕ) (octets : List ℕ) → IsOctets octets
    → FitFourOctets (numbers_in n octets)
numbers_small zero octets fits = tt
numbers_small (suc n) octets fits =
    (big_from-lt 0 4 octets fits, numbers_small n (drop 4 octets) (IsOctets-drop 4 octets fits))

counted_small : (at : ℕ) (octets : List ℕ) (p : List Asn) → IsOctets octets
    → counted_at at octets ≡ Ok p → FitFourOctets p
unfolding counted_at
counted_small at [] p fits e = absurd cc
counted_small at (zero ∷ octets) p fits e = absurd cc
counted_small at (suc n ∷ octets) p fits e =
    let a =
    guard_ok (not (length octets == 4 * suc n)) (Attr at 2 causes.Size)
    (done (numbers_in (suc n) octets)) p e in
    subst (λ (x : List Asn). FitFourOctets x) (ok_is (numbers_in (suc n) octets) p a.1)
    (numbers_small (suc n) octets (λ i. fits (suc i)))

path_small : (at : ℕ) (value : List ℕ) (p : List Asn) → IsOctets value → path_at at value ≡ Ok p
    → FitFourOctets p
unfolding path_at
path_small at [] p fits e = subst (λ (x : List Asn). FitFourOctets x) (ok_is [] p e) tt
path_small at (s ∷ octets) p fits e =
    let a = guard_ok (not (s == 2)) (Attr at 2 causes.Segment) (counted_at at octets) p e in
    counted_small at octets p (λ i. fits (suc i)) a.1

hop_small : (at : ℕ) (value : List ℕ) (h : ℕ) → IsOctets value → next_hop_at at value ≡ Ok h
    → h < 2 ^ 32
unfolding next_hop_at
hop_small at value h fits e =
    let a =
    guard_ok (not (length value == 4)) (Attr at 3 causes.Size) (done (number_4 value)) h e in
    subst (λ (x : ℕ). x < 2 ^ 32) (ok_is (number_4 value) h a.1) (big_from-lt 0 4 value fits)

add_small_by : (at : ℕ) (found : Found) (value : List ℕ) (more : Found) (is1 is2 : Bool)
    → IsOctets value
    → cond is1 (origin_at at value
    >>= λ o. done (record { origin = Some o; path = found.path; next_hop = found.next_hop }))
    (cond is2 (path_at at value
    >>= λ p. done (record { origin = found.origin; path = Some p; next_hop = found.next_hop }))
    (next_hop_at at value
    >>= λ h. done (record { origin = found.origin; path = found.path; next_hop = Some h })))
    ≡ Ok more
    → AreSmall found → AreSmall more
add_small_by at found value more true is2 fits e small =
    let a =
    Ok-from_bind (origin_at at value)
    (λ o. done (record { origin = Some o; path = found.path; next_hop = found.next_hop })) more e in
    subst (λ (x : Found). AreSmall x)
    (ok_is (record { origin = Some a.0; path = found.path; next_hop = found.next_hop }) more a.2)
    (record { path = small.path; hop = small.hop })
add_small_by at found value more false true fits e small =
    let a =
    Ok-from_bind (path_at at value)
    (λ p. done (record { origin = found.origin; path = Some p; next_hop = found.next_hop })) more
    e in
    subst (λ (x : Found). AreSmall x)
    (ok_is (record { origin = found.origin; path = Some a.0; next_hop = found.next_hop }) more a.2)
    (record { path = path_small at value a.0 fits a.1; hop = small.hop })
add_small_by at found value more false false fits e small =
    let a =
    Ok-from_bind (next_hop_at at value)
    (λ h. done (record { origin = found.origin; path = found.path; next_hop = Some h })) more e in
    subst (λ (x : Found). AreSmall x)
    (ok_is (record { origin = found.origin; path = found.path; next_hop = Some a.0 }) more a.2)
    (record { path = small.path; hop = hop_small at value a.0 fits a.1 })

add_small : (at : ℕ) (found : Found) (kind : ℕ) (value : List ℕ) (more : Found) → IsOctets value
    → add_at at found kind value ≡ Ok more → AreSmall found → AreSmall more
unfolding add_at
add_small at found kind value more fits e small =
    add_small_by at found value more (kind == 1) (kind == 2) fits e small

-- an attribute stands in front, and is added to what was found
pub record IsAttribute (found : Found) (octets : List ℕ) (more : Found)
    (rest : List ℕ) : Type 0 where
  pub front : List ℕ
  pub field : Attribute
  pub parts : octets ≡ front ++ rest
  pub spelled : SpellsAttribute front field
  pub adds : Adds found field more
  pub rest_fits : IsOctets rest
  pub shorter : length rest < length octets
  pub small : AreSmall found → AreSmall more

-- what was found, and the octets behind it
abbrev pub with_rest : Found → List ℕ → Result (Found × List ℕ) WireFault
with_rest more rest = Ok (more, rest)

-- an attribute that is read stands in front
pub attribute_found : (end : ℕ) (found : Found) (octets : List ℕ) (x : Found × List ℕ)
    → IsOctets octets → attribute_at end found octets ≡ Ok x → IsAttribute found octets x.0 x.1
unfolding attribute_at
attribute_found end found octets x fits e =
    let at = end - length octets in
    let a =
    Ok-from_bind (head_at (end - length octets) found octets)
    (λ h. add_at (end - length octets) found h.0 h.1 >>= λ more. with_rest more h.2) x e in
    let b =
    Ok-from_bind (add_at (end - length octets) found a.0.0 a.0.1) (λ more. with_rest more a.0.2) x
    a.2 in
    let h = head_found (end - length octets) found octets a.0 fits a.1 in
    let made : IsAttribute found octets b.0 a.0.2 = record {
      front = h.front;
      field = record { kind = a.0.0; value = a.0.1 };
      parts = h.parts;
      spelled = h.spelled;
      adds = add_found (end - length octets) found a.0.0 a.0.1 b.0 h.known h.fresh h.value_fits b.1;
      rest_fits = h.rest_fits;
      shorter = h.shorter;
      small = add_small (end - length octets) found a.0.0 a.0.1 b.0 h.value_fits b.1;
    } in
    subst (λ (y : Found × List ℕ). IsAttribute found octets y.0 y.1) (ok_is (b.0, a.0.2) x b.2) made

-- attributes lead from what was found to more
abbrev pub Extends : Found → List Attribute → Found → Type 0
Extends found [] more = found ≡ more
Extends found (f ∷ fs) more = (mid : Found) × Adds found f mid × Extends mid fs more

-- attributes that are read are spelled by the octets
pub attributes_found : (n end : ℕ) (found : Found) (octets : List ℕ) (more : Found)
    → length octets ≤ n → IsOctets octets → attributes_at n end found octets ≡ Ok more
    → (fields : List Attribute) × SpellsEach SpellsAttribute octets fields
    × Extends found fields more
unfolding attributes_at
attributes_found zero end found (f ∷ octets) more le fits e = absurd (omega arith)
attributes_found zero end found [] more le fits e = ([], refl, ok_is found more e)
attributes_found (suc n) end found [] more le fits e = ([], refl, ok_is found more e)
attributes_found (suc n) end found (f ∷ octets) more le fits e =
    let a =
    Ok-from_bind (attribute_at end found (f ∷ octets)) (λ x. attributes_at n end x.0 x.1) more e in
    let h = attribute_found end found (f ∷ octets) a.0 fits a.1 in
    let less : length a.0.1 < length (f ∷ octets) = h.shorter in
    let rest = attributes_found n end a.0.0 a.0.1 more (omega arith) h.rest_fits a.2 in
    (h.field ∷ rest.0, (h.front, a.0.1, h.parts, h.spelled, rest.1), (a.0.0, h.adds, rest.2))
