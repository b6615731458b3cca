-- A message that is read is spelled so.
use Rattle.std.proofs.Common.{◌≡◌, ℕ, suc, ◌+◌, ◌-◌, ◌≤◌, Bool, true, false, cond, ltb, List, [], ◌∷◌, ◌++◌, length, get_or, take, drop, Option, Some, None, Result, Ok, refl, sym, ap, subst, ◌∙◌, arith}
use Rattle.std.specs.Prelude.{not, slice_index, replicate, ◌==◌}
use Rattle.std.proofs.lemmas.Bool.{ltb-false, eqb-true}
use Rattle.std.proofs.lemmas.List.{take-append-drop, length-append, length-take, length-drop, get_or-drop, drop-drop}
use Rattle.std.specs.List.{position_or_len}
use Rattle.cn_lists.proofs.Loops.{Ok-from_bind}
use Rattle.cn_base.specs.Cidr.{Cidr}
use Rattle.cn_wire.specs.declared.fault.WireFault.{WireFault}
use Rattle.cn_wire.specs.declared.fault.WireFault.TheVariants.{Short, Length, Kind, Trailing, Bounds}
use Rattle.cn_wire.specs.declared.update.Attrs.{Attrs}
use Rattle.cn_wire.specs.declared.update.Update.{Update}
use Rattle.cn_wire.specs.Numbers.{two_octets, IsOctets, number_2}
use Rattle.cn_wire.specs.Spelling.{SpellsEach, SpellsPrefix, SpellsAttrs, has_attrs, Spells}
use Rattle.cn_wire.specs.Reading.{prefixes_at, attributes_at, nothing, attrs_of, marker_fault, sized_as, marked, framed, field_at, body_at, update_of}
use Rattle.cn_wire.proofs.Steps.{IsOctets-drop, IsOctets-take, guard_ok, done, ok_is, not_false, two_again}
use Rattle.cn_wire.proofs.PrefixesFound.{prefixes_found}
use Rattle.cn_wire.proofs.OrderFound.{attrs_spelled}

unmarked_by : (x : ℕ) (xs : List ℕ) (b : Bool) → (x == 255) ≡ b
    → suc (length xs) ≤ cond (not (not b)) (1 + position_or_len (λ y. not (y == 255)) xs) 0
    → (x ≡ 255) × (length xs ≤ position_or_len (λ y. not (y == 255)) xs)
unmarked_by x xs true e le = (eqb-true _ _ e, omega arith)
unmarked_by x xs false e le = absurd (omega arith)

unmarked : (xs : List ℕ) → length xs ≤ position_or_len (λ y. not (y == 255)) xs
    → xs ≡ replicate (length xs) 255
unmarked [] le = refl
unmarked (x ∷ xs) le =
    let a = unmarked_by x xs (x == 255) refl le in
    ap (λ (y : ℕ). y ∷ xs) a.0 ∙ ap (λ (ys : List ℕ). 255 ∷ ys) (unmarked xs a.1)

none_ok : (b : Bool) (x : ℕ) → cond b (Some x) None ≡ None → b ≡ false
none_ok true x e = absurd cc
none_ok false x e = refl

marked_ok : (o : Option ℕ) (r : Result (Unit {0}) WireFault) (u : Unit {0}) → marked o r ≡ Ok u
    → (o ≡ None) × (r ≡ Ok u)
marked_ok (Some at) r u e = absurd cc
marked_ok None r u e = (refl, e)

sized_found : (have size kind : ℕ) (u : Unit {0}) → sized_as have size kind ≡ Ok u
    → (have ≡ size) × (kind ≡ 2) × (23 ≤ size) × (size ≤ 4096)
unfolding sized_as
sized_found have size kind u e =
    let a = guard_ok (ltb size 19) (Length size) _ u e in
    let b = guard_ok (ltb 4096 size) (Length size) _ u a.1 in
    let c = guard_ok (not (kind == 2)) (Kind kind) _ u b.1 in
    let d = guard_ok (ltb size 23) (Length size) _ u c.1 in
    let f = guard_ok (ltb have size) (Short have size) _ u d.1 in
    let g = guard_ok (ltb size have) (Trailing size) (done tt) u f.1 in
    let le1 : size ≤ have = ltb-false _ _ f.0 in
    let le2 : have ≤ size = ltb-false _ _ g.0 in
    (omega arith, eqb-true _ _ (not_false (kind == 2) c.0), ltb-false _ _ d.0, ltb-false _ _ b.0)

header_found : (tail : List ℕ) → IsOctets tail → 3 ≤ length tail → get_or tail 2 0 ≡ 2
    → tail ≡ two_octets (number_2 tail) ++ (2 ∷ drop 3 tail)
header_found (a ∷ b ∷ k ∷ rest) fits le e =
    ap (λ (x : ℕ). a ∷ b ∷ x ∷ rest) e
    ∙ ap (λ (t : List ℕ). t ++ (2 ∷ rest)) (sym (two_again a b (k ∷ rest) (fits 0) (fits 1)))
header_found [] fits le e = absurd (omega arith)
header_found (a ∷ []) fits le e = absurd (omega arith)
header_found (a ∷ b ∷ []) fits le e = absurd (omega arith)

-- the header is that of an UPDATE of all the octets
pub record IsFramed (octets : List ℕ) : Type 0 where
  pub low : 23 ≤ length octets
  pub high : length octets ≤ 4096
  pub size : number_2 (drop 16 octets) ≡ length octets
  pub parts : octets ≡ replicate 16 255 ++ (two_octets (length octets) ++ (2 ∷ drop 19 octets))

framed_found : (octets : List ℕ) (u : Unit {0}) → IsOctets octets → framed octets ≡ Ok u
    → IsFramed octets
unfolding framed
framed_found octets u fits e =
    let a = guard_ok (ltb (length octets) 19) (Short (length octets) 19) _ u e in
    let b =
    marked_ok (marker_fault octets)
    (sized_as (length octets) (number_2 (drop 16 octets)) (slice_index octets 18)) u a.1 in
    let s = sized_found (length octets) (number_2 (drop 16 octets)) (slice_index octets 18) u b.1 in
    let s0 = s.0 in let s2 = s.2 in let s3 = s.3 in
    let low : 23 ≤ length octets = omega arith in
    let len : length (take 16 octets) ≡ 16 = omega (arith, length-take 16 octets) in
    let m : length (take 16 octets) ≤ position_or_len (λ y. not (y == 255)) (take 16 octets) =
    ltb-false _ _ (none_ok _ _ b.0) in
    let marker : take 16 octets ≡ replicate 16 255 =
    unmarked (take 16 octets) m ∙ ap (λ (n : ℕ). replicate n 255) len in
    let kind : get_or (drop 16 octets) 2 0 ≡ 2 = rw get_or-drop s.1 in
    let h : drop 16 octets
    ≡ two_octets (number_2 (drop 16 octets)) ++ (2 ∷ drop 3 (drop 16 octets)) =
    header_found (drop 16 octets) (IsOctets-drop 16 octets fits)
    (omega (arith, length-drop 16 octets)) kind in
    let t : two_octets (number_2 (drop 16 octets)) ++ (2 ∷ drop 3 (drop 16 octets))
    ≡ two_octets (length octets) ++ (2 ∷ drop 19 octets) =
    ap (λ (n : ℕ). two_octets n ++ (2 ∷ drop 3 (drop 16 octets))) (sym s.0)
    ∙ ap (λ (r : List ℕ). two_octets (length octets) ++ (2 ∷ r)) (drop-drop 3 16 octets) in
    record {
      low = low;
      high = omega arith;
      size = sym s.0;
      parts =
          sym (take-append-drop 16 octets) ∙ ap (λ (x : List ℕ). x ++ drop 16 octets) marker
          ∙ ap (λ (x : List ℕ). replicate 16 255 ++ x) (h ∙ t);
    }

-- a part stands in front, with its length of two octets
pub record IsField (octets field rest : List ℕ) : Type 0 where
  pub parts : octets ≡ two_octets (length field) ++ (field ++ rest)
  pub field_fits : IsOctets field
  pub rest_fits : IsOctets rest

-- a part and the octets behind it
abbrev pub pair : List ℕ → List ℕ → Result (List ℕ × List ℕ) WireFault
pair a b = Ok (a, b)

sized_parts : (octets : List ℕ) → IsOctets octets → 2 + number_2 octets ≤ length octets
    → octets
    ≡ two_octets (length (take (number_2 octets) (drop 2 octets)))
    ++ (take (number_2 octets) (drop 2 octets) ++ drop (number_2 octets) (drop 2 octets))
sized_parts [] fits le = absurd (omega arith)
sized_parts (a ∷ []) fits le = absurd (omega arith)
sized_parts (a ∷ b ∷ tail) fits le =
    let n = number_2 (a ∷ b ∷ tail) in
    let long : number_2 (a ∷ b ∷ tail) ≤ length tail = omega arith in
    let len : length (take (number_2 (a ∷ b ∷ tail)) tail) ≡ number_2 (a ∷ b ∷ tail) =
    omega (arith, length-take (number_2 (a ∷ b ∷ tail)) tail) in
    ap (λ (t : List ℕ). a ∷ b ∷ t) (sym (take-append-drop (number_2 (a ∷ b ∷ tail)) tail))
    ∙ ap (λ (t : List ℕ).
    t ++ (take (number_2 (a ∷ b ∷ tail)) tail ++ drop (number_2 (a ∷ b ∷ tail)) tail))
    (sym (ap two_octets len ∙ two_again a b tail (fits 0) (fits 1)))

field_found : (at spare : ℕ) (octets : List ℕ) (x : List ℕ × List ℕ) → IsOctets octets
    → field_at at spare octets ≡ Ok x → IsField octets x.0 x.1
unfolding field_at
field_found at spare octets x fits e =
    let a =
    guard_ok (ltb (length octets) (2 + number_2 octets + spare)) (Bounds at)
    (pair (take (number_2 octets) (drop 2 octets)) (drop (number_2 octets) (drop 2 octets))) x e in
    let long : 2 + number_2 octets + spare ≤ length octets = ltb-false _ _ a.0 in
    let made : IsField octets (take (number_2 octets) (drop 2 octets))
    (drop (number_2 octets) (drop 2 octets)) =
    record {
      parts = sized_parts octets fits (omega arith);
      field_fits = IsOctets-take (number_2 octets) (drop 2 octets) (IsOctets-drop 2 octets fits);
      rest_fits = IsOctets-drop (number_2 octets) (drop 2 octets) (IsOctets-drop 2 octets fits);
    } in
    subst (λ (y : List ℕ × List ℕ). IsField octets y.0 y.1)
    (ok_is (take (number_2 octets) (drop 2 octets), drop (number_2 octets) (drop 2 octets)) x a.1)
    made

-- the octets behind the header spell the three parts of an update
pub record IsBody (octets : List ℕ) (u : Update) : Type 0 where
  pub withdrawals : List ℕ
  pub attributes : List ℕ
  pub nlri : List ℕ
  pub parts : octets
      ≡ two_octets (length withdrawals)
      ++ (withdrawals ++ (two_octets (length attributes) ++ (attributes ++ nlri)))
  pub withdrawn : SpellsEach SpellsPrefix withdrawals u.withdrawn
  pub attrs : SpellsAttrs attributes u.attrs
  pub announced : SpellsEach SpellsPrefix nlri u.announced
  pub complete : has_attrs u ≡ true

-- a number is at most itself
pub le_refl : (n : ℕ) → n ≤ n
le_refl n = omega arith

-- the update of these parts
abbrev pub made_of : List Cidr → Option Attrs → List Cidr → Update
made_of withdrawals attrs nlri = record { withdrawn = withdrawals; attrs = attrs; announced = nlri }

body_found : (octets : List ℕ) (u : Update) → IsOctets octets → body_at octets ≡ Ok u
    → IsBody octets u
unfolding body_at
body_found octets u fits e =
    let a = Ok-from_bind (field_at 19 2 octets) _ u e in
    let w = a.0.0 in
    let b = Ok-from_bind (prefixes_at (length a.0.0) (21 + length a.0.0) a.0.0) _ u a.2 in
    let c = Ok-from_bind (field_at (21 + length a.0.0) 0 a.0.1) _ u b.2 in
    let d =
    Ok-from_bind (attributes_at (length c.0.0) (23 + length a.0.0 + length c.0.0) nothing c.0.0) _ u
    c.2 in
    let f =
    Ok-from_bind
    (prefixes_at (length c.0.1) (23 + length a.0.0 + length c.0.0 + length c.0.1) c.0.1) _ u
    d.2 in
    let g =
    Ok-from_bind (attrs_of (length c.0.0) (length f.0) d.0) (λ attrs. done (made_of b.0 attrs f.0))
    u
    f.2 in
    let p = field_found 19 2 octets a.0 fits a.1 in
    let q = field_found (21 + length a.0.0) 0 a.0.1 c.0 p.rest_fits c.1 in
    let s =
    attrs_spelled (length c.0.0) (23 + length a.0.0 + length c.0.0) c.0.0 d.0 f.0 g.0
    (le_refl (length c.0.0)) q.field_fits d.1 g.1 in
    let made : IsBody octets (made_of b.0 g.0 f.0) = record {
      withdrawals = a.0.0;
      attributes = c.0.0;
      nlri = c.0.1;
      parts = p.parts ∙ ap (λ (t : List ℕ). two_octets (length a.0.0) ++ (a.0.0 ++ t)) q.parts;
      withdrawn =
          prefixes_found (length a.0.0) (21 + length a.0.0) a.0.0 b.0 (le_refl (length a.0.0)) b.1;
      attrs = s.0;
      announced =
          prefixes_found (length c.0.1) (23 + length a.0.0 + length c.0.0 + length c.0.1) c.0.1 f.0
          (le_refl (length c.0.1)) f.1;
      complete = s.1;
    } in
    subst (λ (x : Update). IsBody octets x) (ok_is (made_of b.0 g.0 f.0) u g.2) made

-- an update that is read is spelled by the octets
pub update_found : (octets : List ℕ) (u : Update) → IsOctets octets → update_of octets ≡ Ok u
    → Spells octets u
unfolding update_of
update_found octets u fits e =
    let a = Ok-from_bind (framed octets) (λ f. body_at (drop 19 octets)) u e in
    let f = framed_found octets a.0 fits a.1 in
    let b = body_found (drop 19 octets) u (IsOctets-drop 19 octets fits) a.2 in
    let low = f.low in
    let len1 : length (drop 19 octets) ≡ length octets - 19 = length-drop 19 octets in
    let len2 : length (drop 19 octets)
    ≡ length (two_octets (length b.withdrawals)
    ++ (b.withdrawals ++ (two_octets (length b.attributes) ++ (b.attributes ++ b.nlri)))) =
    ap length b.parts in
    let len3 : length
    (two_octets (length b.withdrawals)
    ++ (b.withdrawals ++ (two_octets (length b.attributes) ++ (b.attributes ++ b.nlri))))
    ≡ 2 + (length b.withdrawals + (2 + (length b.attributes + length b.nlri))) =
    simp length-append (omega arith) in
    let len : length octets ≡ 23 + length b.withdrawals + length b.attributes + length b.nlri =
    omega arith in
    record {
      octets_fit = fits;
      withdrawals = b.withdrawals;
      attributes = b.attributes;
      nlri = b.nlri;
      parts =
          f.parts ∙ ap (λ (n : ℕ). replicate 16 255 ++ (two_octets n ++ (2 ∷ drop 19 octets))) len
          ∙ ap (λ (t : List ℕ). replicate 16 255
          ++
          (two_octets (23 + length b.withdrawals + length b.attributes + length b.nlri) ++ (2 ∷ t)))
          b.parts;
      room = f.high;
      withdrawn = b.withdrawn;
      attrs = b.attrs;
      announced = b.announced;
      complete = b.complete;
    }
