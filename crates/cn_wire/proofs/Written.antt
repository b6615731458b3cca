-- What is written spells its argument.
use Rattle.std.proofs.Common.{◌≡◌, ℕ, zero, suc, ◌+◌, ◌-◌, ◌*◌, ◌/◌, ◌%◌, ◌^◌, ◌<◌, ◌≤◌, Bool, true, false, cond, leb, List, [], ◌∷◌, ◌++◌, length, take, Option, Some, None, refl, sym, ap, subst, ◌∙◌, arith, lit<, inl, inr}
use Rattle.std.specs.Prelude.{is_some, replicate, ◌&&◌, ◌⊎◌, nat_le}
use Rattle.std.specs.List.{flat_map}
use Rattle.std.proofs.lemmas.List.{length-append, length-take, append-nil}
use Rattle.std.proofs.lemmas.List.Concat.{flat_map-cons}
use Rattle.std.proofs.Math.Nat.{div-add-mod', zero-mod}
use Rattle.std.proofs.Math.Pow.{mod-mod-pow}
use Rattle.std.proofs.lemmas.Bool.{leb-true, leb-false, le-leb, lt-leb, cases_lt, cond-true, cond-false}
use Rattle.cn_wire.specs.Sizes.{room_after}
use Rattle.cn_wire.proofs.Again.{flat_numbers, numbers_size, message_size}
use Rattle.cn_base.specs.Cidr.{Cidr}
use Rattle.cn_base.specs.Rank.{origin_code}
use Rattle.cn_base.specs.declared.ids.Asn.{Asn}
use Rattle.cn_base.specs.declared.ids.Origin.{Origin}
use Rattle.cn_base.specs.declared.ids.Origin.TheVariants.{Igp, Egp, Incomplete}
use Rattle.cn_wire.specs.declared.update.Attrs.{Attrs}
use Rattle.cn_wire.specs.declared.update.Update.{Update}
use Rattle.cn_wire.specs.Numbers.{two_octets, four_octets, IsOctets, number_4, octets_for, masked}
use Rattle.cn_wire.specs.Spelling.{SpellsEach, SpellsPrefix, Attribute, SpellsAttribute, as_path_value, origin_attribute, as_path_attribute, next_hop_attribute, SpellsAttrs, message, has_attrs, Spells}
use Rattle.cn_wire.specs.Writing.{spelled_prefix, spelled_prefixes, spelled_attribute, spelled_attrs, spelling, fits, IsPrefix, ArePrefixes, IsAttrs, IsUpdate}

-- ---- octets

fits_nil : IsOctets []
fits_nil i = omega arith

fits_cons : (x : ℕ) (xs : List ℕ) → x < 256 → IsOctets xs → IsOctets (x ∷ xs)
fits_cons x xs lt h zero = lt
fits_cons x xs lt h (suc i) = h i

fits_append : (xs ys : List ℕ) → IsOctets xs → IsOctets ys → IsOctets (xs ++ ys)
fits_append [] ys hx hy = hy
fits_append (x ∷ xs) ys hx hy =
    fits_cons x (xs ++ ys) (hx 0) (fits_append xs ys (λ i. hx (suc i)) hy)

fits_two : (n : ℕ) → IsOctets (two_octets n)
fits_two n =
    fits_cons (n / 256 % 256) (n % 256 ∷ []) (omega arith)
    (fits_cons (n % 256) [] (omega arith) fits_nil)

fits_four : (n : ℕ) → IsOctets (four_octets n)
fits_four n =
    fits_cons (n / 16777216 % 256) (n / 65536 % 256 ∷ n / 256 % 256 ∷ n % 256 ∷ []) (omega arith)
    (fits_cons (n / 65536 % 256) (n / 256 % 256 ∷ n % 256 ∷ []) (omega arith)
    (fits_cons (n / 256 % 256) (n % 256 ∷ []) (omega arith)
    (fits_cons (n % 256) [] (omega arith) fits_nil)))

fits_take : (n : ℕ) (xs : List ℕ) → IsOctets xs → IsOctets (take n xs)
fits_take zero xs h = fits_nil
fits_take (suc n) [] h = fits_nil
fits_take (suc n) (x ∷ xs) h = fits_cons x (take n xs) (h 0) (fits_take n xs (λ i. h (suc i)))

marker_fits_by : (n : ℕ) → IsOctets (replicate n 255)
marker_fits_by zero = fits_nil
marker_fits_by (suc n) = fits_cons 255 (replicate n 255) (lit< tt) (marker_fits_by n)

marker_fits : IsOctets (replicate 16 255)
marker_fits = marker_fits_by 16

-- ---- prefixes

zero_mod : (n : ℕ) → 0 % n ≡ 0
zero_mod n = zero-mod n

masked_same : (len bits : ℕ) → bits % 2 ^ (32 - len) ≡ 0 → masked len bits ≡ bits
masked_same len bits clear =
    let e = div-add-mod' bits (2 ^ (32 - len)) in
    omega arith

-- the first k octets hold the whole number where the others are zero
kept : (k bits : ℕ) → k ≤ 4 → bits < 2 ^ 32 → bits % 2 ^ (8 * (4 - k)) ≡ 0
    → number_4 (take k (four_octets bits)) ≡ bits
kept zero bits le lt clear = omega arith
kept (suc zero) bits le lt clear = omega arith
kept (suc (suc zero)) bits le lt clear = omega arith
kept (suc (suc (suc zero))) bits le lt clear = omega arith
kept (suc (suc (suc (suc zero)))) bits le lt clear = omega arith
kept (suc (suc (suc (suc (suc k))))) bits le lt clear = absurd (omega arith)

clear_octets : (len bits : ℕ) → len ≤ 32 → bits % 2 ^ (32 - len) ≡ 0
    → bits % 2 ^ (8 * (4 - octets_for len)) ≡ 0
clear_octets len bits short clear =
    let j = (32 - len) - 8 * (4 - octets_for len) in
    let e : ((32 - len) - 8 * (4 - octets_for len)) + 8 * (4 - octets_for len) ≡ 32 - len =
    omega arith in
    let m = mod-mod-pow bits ((32 - len) - 8 * (4 - octets_for len)) (8 * (4 - octets_for len)) in
    let c : bits % 2 ^ (((32 - len) - 8 * (4 - octets_for len)) + 8 * (4 - octets_for len)) ≡ 0 =
    ap (λ (n : ℕ). bits % 2 ^ n) e ∙ clear in
    sym m ∙ ap (λ (n : ℕ). n % 2 ^ (8 * (4 - octets_for len))) c
    ∙ zero_mod (2 ^ (8 * (4 - octets_for len)))

prefix_spells : (p : Cidr) → IsPrefix p → SpellsPrefix (spelled_prefix p) p
prefix_spells p is =
    let short = is.is.short in
    let size : length (take (octets_for p.len) (four_octets p.bits)) ≡ octets_for p.len =
    omega (arith, length-take (octets_for p.len) (four_octets p.bits)) in
    let whole =
    kept (octets_for p.len) p.bits (omega arith) is.bits
    (clear_octets p.len p.bits short is.is.clear) in
    record {
      bits = take (octets_for p.len) (four_octets p.bits);
      parts = refl;
      size = size;
      short = short;
      value = sym (ap (masked p.len) whole ∙ masked_same p.len p.bits is.is.clear);
    }

prefix_fits : (p : Cidr) → IsPrefix p → IsOctets (spelled_prefix p)
prefix_fits p is =
    let short = is.is.short in
    fits_cons p.len (take (octets_for p.len) (four_octets p.bits)) (omega arith)
    (fits_take (octets_for p.len) (four_octets p.bits) (fits_four p.bits))

flat_prefixes : (p : Cidr) (ps : List Cidr)
    → spelled_prefixes (p ∷ ps) ≡ spelled_prefix p ++ spelled_prefixes ps
flat_prefixes p ps = rw flat_map-cons refl

prefixes_spell : (ps : List Cidr) → ArePrefixes ps
    → SpellsEach SpellsPrefix (spelled_prefixes ps) ps × IsOctets (spelled_prefixes ps)
prefixes_spell [] is = (refl, fits_nil)
prefixes_spell (p ∷ ps) is =
    let rest = prefixes_spell ps is.1 in (
      (spelled_prefix p, spelled_prefixes ps, flat_prefixes p ps, prefix_spells p is.0, rest.0),
      subst IsOctets (sym (flat_prefixes p ps))
          (fits_append (spelled_prefix p) (spelled_prefixes ps) (prefix_fits p is.0) rest.1),
    )

-- ---- attributes

field_spells_by : (f : Attribute) (b : Bool) → leb (length f.value) 255 ≡ b → f.kind < 256
    → IsOctets f.value
    → SpellsAttribute
    (cond b (64 ∷ f.kind ∷ length f.value ∷ f.value)
    (80 ∷ f.kind ∷ (two_octets (length f.value) ++ f.value))) f
    × IsOctets (cond b (64 ∷ f.kind ∷ length f.value ∷ f.value)
    (80 ∷ f.kind ∷ (two_octets (length f.value) ++ f.value)))
field_spells_by f true e kind fits =
    let le : length f.value ≤ 255 = leb-true _ _ e in (
      record { flags = 64; parts = refl; high = refl },
      fits_cons 64 (f.kind ∷ length f.value ∷ f.value) (lit< tt)
          (fits_cons f.kind (length f.value ∷ f.value) kind
          (fits_cons (length f.value) f.value (omega arith) fits)),
    )
field_spells_by f false e kind fits = (
  record { flags = 80; parts = refl; high = refl },
  fits_cons 80 (f.kind ∷ (two_octets (length f.value) ++ f.value)) (lit< tt)
      (fits_cons f.kind (two_octets (length f.value) ++ f.value) kind
      (fits_append (two_octets (length f.value)) f.value (fits_two (length f.value)) fits)),
)

field_spells : (f : Attribute) → f.kind < 256 → IsOctets f.value
    → SpellsAttribute (spelled_attribute f) f × IsOctets (spelled_attribute f)
field_spells f kind fits = field_spells_by f (leb (length f.value) 255) refl kind fits

numbers_fit : (ns : List Asn) → IsOctets (flat_map (λ m. four_octets m.0) ns)
numbers_fit [] = fits_nil
numbers_fit (n ∷ ns) =
    subst IsOctets (sym (flat_numbers n ns))
    (fits_append (four_octets n.0) (flat_map (λ m. four_octets m.0) ns) (fits_four n.0)
    (numbers_fit ns))

path_fits : (p : List Asn) → length p ≤ 255 → IsOctets (as_path_value p)
path_fits [] le = fits_nil
path_fits (n ∷ ns) le =
    fits_cons 2 (length (n ∷ ns) ∷ flat_map (λ m. four_octets m.0) (n ∷ ns)) (lit< tt)
    (fits_cons (length (n ∷ ns)) (flat_map (λ m. four_octets m.0) (n ∷ ns)) (omega arith)
    (numbers_fit (n ∷ ns)))

origin_fits : (o : Origin) → IsOctets (origin_code o ∷ [])
origin_fits Igp = fits_cons 0 [] (lit< tt) fits_nil
origin_fits Egp = fits_cons 1 [] (lit< tt) fits_nil
origin_fits Incomplete = fits_cons 2 [] (lit< tt) fits_nil

attrs_spell : (o : Option Attrs) → IsAttrs o
    → SpellsAttrs (spelled_attrs o) o × IsOctets (spelled_attrs o)
attrs_spell None is = (refl, fits_nil)
attrs_spell (Some a) is =
    let x = field_spells (origin_attribute a) (lit< tt) (origin_fits a.origin) in
    let y = field_spells (as_path_attribute a) (lit< tt) (path_fits a.path is.1) in
    let z = field_spells (next_hop_attribute a) (lit< tt) (fits_four a.next_hop) in (
      (
        origin_attribute a ∷ as_path_attribute a ∷ next_hop_attribute a ∷ [],
        (
          spelled_attribute (origin_attribute a),
          spelled_attribute (as_path_attribute a) ++ spelled_attribute (next_hop_attribute a),
          refl,
          x.0,
          (
            spelled_attribute (as_path_attribute a),
            spelled_attribute (next_hop_attribute a),
            refl,
            y.0,
            (
              spelled_attribute (next_hop_attribute a),
              [],
              sym (append-nil (spelled_attribute (next_hop_attribute a))),
              z.0,
              refl,
            ),
          ),
        ),
        inl refl,
        is.0,
        is.2,
      ),
      fits_append (spelled_attribute (origin_attribute a))
          (spelled_attribute (as_path_attribute a) ++ spelled_attribute (next_hop_attribute a)) x.1
          (fits_append (spelled_attribute (as_path_attribute a))
          (spelled_attribute (next_hop_attribute a)) y.1 z.1),
    )

-- ---- messages

message_fits : (withdrawals attributes nlri : List ℕ) → IsOctets withdrawals → IsOctets attributes
    → IsOctets nlri → IsOctets (message withdrawals attributes nlri)
message_fits withdrawals attributes nlri g a c =
    fits_append (replicate 16 255)
    (two_octets (23 + length withdrawals + length attributes + length nlri)
    ++ (2
    ∷ (two_octets (length withdrawals)
    ++ (withdrawals ++ (two_octets (length attributes) ++ (attributes ++ nlri)))))) marker_fits
    (fits_append (two_octets (23 + length withdrawals + length attributes + length nlri))
    (2
    ∷ (two_octets (length withdrawals)
    ++ (withdrawals ++ (two_octets (length attributes) ++ (attributes ++ nlri)))))
    (fits_two (23 + length withdrawals + length attributes + length nlri))
    (fits_cons 2 (two_octets (length withdrawals)
    ++ (withdrawals ++ (two_octets (length attributes) ++ (attributes ++ nlri)))) (lit< tt)
    (fits_append (two_octets (length withdrawals))
    (withdrawals ++ (two_octets (length attributes) ++ (attributes ++ nlri)))
    (fits_two (length withdrawals))
    (fits_append withdrawals (two_octets (length attributes) ++ (attributes ++ nlri)) g
    (fits_append (two_octets (length attributes)) (attributes ++ nlri)
    (fits_two (length attributes)) (fits_append attributes nlri a c))))))

split_fits : (a b : Bool) → (a && b) ≡ true → (a ≡ true) × (b ≡ true)
split_fits true true e = (refl, refl)
split_fits true false e = absurd cc
split_fits false b e = absurd cc

-- what is written of an update that fits spells it
pub spelling_spells : (u : Update) → IsUpdate u → fits u ≡ true → Spells (spelling u) u
spelling_spells u is f =
    let s = split_fits (nat_le (length (spelling u)) 4096) (has_attrs u) f in
    let w = prefixes_spell u.withdrawn is.withdrawn in
    let a = attrs_spell u.attrs is.attrs in
    let c = prefixes_spell u.announced is.announced in
    record {
      octets_fit =
          message_fits (spelled_prefixes u.withdrawn) (spelled_attrs u.attrs)
          (spelled_prefixes u.announced) w.1 a.1 c.1;
      withdrawals = spelled_prefixes u.withdrawn;
      attributes = spelled_attrs u.attrs;
      nlri = spelled_prefixes u.announced;
      parts = refl;
      room = leb-true _ _ s.0;
      withdrawn = w.0;
      attrs = a.0;
      announced = c.0;
      complete = s.1;
    }

-- what the writer put together
pub encoded : (u : Update) (out start withdrawals attributes nlri : List ℕ)
    → out ≡ start ++ message withdrawals attributes nlri → start ≡ []
    → withdrawals ≡ spelled_prefixes u.withdrawn → attributes ≡ spelled_attrs u.attrs
    → nlri ≡ spelled_prefixes u.announced
    → IsUpdate u → fits u ≡ true → (out ≡ spelling u) × Spells out u
encoded u out start withdrawals attributes nlri e s g a c is f =
    let whole : out ≡ spelling u =
    e ∙ ap (λ (t : List ℕ). t ++ message withdrawals attributes nlri) s
    ∙ ap (λ (t : List ℕ). message t attributes nlri) g
    ∙ ap (λ (t : List ℕ). message (spelled_prefixes u.withdrawn) t nlri) a
    ∙ ap (λ (t : List ℕ). message (spelled_prefixes u.withdrawn) (spelled_attrs u.attrs) t) c in
    (whole, subst (λ (t : List ℕ). Spells t u) (sym whole) (spelling_spells u is f))

-- ---- sizes

-- a path of at most 255 numbers takes less than 65536 octets
pub path_octets_few : (p : List Asn) → length p ≤ 255 → length (as_path_value p) < 65536
path_octets_few [] le = omega arith
path_octets_few (n ∷ ns) le = let e = numbers_size (n ∷ ns) in omega arith

path_octets_size : (p : List Asn) → 0 < length p → length (as_path_value p) ≡ 2 + 4 * length p
path_octets_size [] lt = absurd (omega arith)
path_octets_size (n ∷ ns) lt = let e = numbers_size (n ∷ ns) in omega arith

field_size_short : (f : Attribute) → length f.value ≤ 255
    → length (spelled_attribute f) ≡ 3 + length f.value
field_size_short f le = let b = le-leb (length f.value) 255 le in rw b (omega arith)

field_size_long : (f : Attribute) → 255 < length f.value
    → length (spelled_attribute f) ≡ 4 + length f.value
field_size_long f lt = let b = lt-leb (length f.value) 255 lt in rw b (omega arith)

cases_le : (a b : ℕ) → (a ≤ b) ⊎ (b < a)
cases_le a b = elim (cases_lt b a) [ inl lt ↦ inr lt | inr le ↦ inl le ]

same_room : (a b c room : ℕ) → a ≤ room → c ≡ a + b
    → cond (leb b (room - a)) (Some ((room - a) - b)) None
    ≡ cond (leb c room) (Some (room - c)) None
same_room a b c room le e =
    elim (cases_le b (room - a)) [
      | inl h ↦
          cond-true _ _ _ (le-leb b (room - a) h) ∙ ap (λ (n : ℕ). Some n) (omega arith)
          ∙ sym (cond-true _ _ _ (le-leb c room (omega arith)))
      | inr h ↦
          cond-false _ _ _ (lt-leb b (room - a) h)
          ∙ sym (cond-false _ _ _ (lt-leb c room (omega arith)))
    ]

-- the room that prefixes leave
room_is : (room : ℕ) (ps : List Cidr)
    → room_after room ps
    ≡ cond (leb (length (spelled_prefixes ps)) room) (Some (room - length (spelled_prefixes ps)))
    None
room_is room [] =
    ap (λ (n : ℕ). Some n) (omega arith)
    ∙ sym (cond-true (leb 0 room) (Some (room - 0)) None (le-leb 0 room (omega arith)))
room_is room (p ∷ ps) =
    let e : length (spelled_prefixes (p ∷ ps))
    ≡ length (spelled_prefix p) + length (spelled_prefixes ps) =
    ap length (flat_prefixes p ps) ∙ length-append (spelled_prefix p) (spelled_prefixes ps) in
    elim (cases_le (length (spelled_prefix p)) room) [
      | inl le ↦
          cond-true _ _ _ (le-leb (length (spelled_prefix p)) room le)
          ∙ room_is (room - length (spelled_prefix p)) ps
          ∙ same_room (length (spelled_prefix p)) (length (spelled_prefixes ps))
          (length (spelled_prefixes (p ∷ ps))) room le e
      | inr lt ↦
          cond-false _ _ _ (lt-leb (length (spelled_prefix p)) room lt)
          ∙ sym (cond-false _ (Some (room - length (spelled_prefixes (p ∷ ps)))) None
          (lt-leb (length (spelled_prefixes (p ∷ ps))) room (omega arith)))
    ]

some_is : (b : Bool) (x y : ℕ) → cond b (Some x) None ≡ Some y → (b ≡ true) × (x ≡ y)
some_is true x y e = (refl, cc)
some_is false x y e = absurd cc

none_is : (b : Bool) (x : ℕ) → cond b (Some x) None ≡ None → b ≡ false
none_is true x e = absurd cc
none_is false x e = refl

is_some_cond : (b : Bool) (x : ℕ) → is_some (cond b (Some x) None) ≡ b
is_some_cond true x = refl
is_some_cond false x = refl

same_leb : (a b c d : ℕ) → (a ≤ b → c ≤ d) → (b < a → d < c) → leb a b ≡ leb c d
same_leb a b c d f g =
    elim (cases_le a b) [
      | inl h ↦ le-leb a b h ∙ sym (le-leb c d (f h))
      | inr h ↦ lt-leb a b h ∙ sym (lt-leb c d (g h))
    ]

-- the tests of the code are the definition's
pub fits_is : (u : Update) (left size : ℕ) (b : Bool) → room_after 4073 u.withdrawn ≡ Some left
    → length (spelled_attrs u.attrs) ≡ size → size ≤ left
    → b ≡ is_some (room_after (left - size) u.announced) → b ≡ leb (length (spelling u)) 4096
fits_is u left size b e1 e2 le e3 =
    let r1 = sym (room_is 4073 u.withdrawn) ∙ e1 in
    let w =
    some_is (leb (length (spelled_prefixes u.withdrawn)) 4073)
    (4073 - length (spelled_prefixes u.withdrawn)) left r1 in
    let w0 = leb-true (length (spelled_prefixes u.withdrawn)) 4073 w.0 in
    let w1 = w.1 in
    let m =
    message_size (spelled_prefixes u.withdrawn) (spelled_attrs u.attrs)
    (spelled_prefixes u.announced) in
    let c : is_some (room_after (left - size) u.announced)
    ≡ leb (length (spelled_prefixes u.announced)) (left - size) =
    ap is_some (room_is (left - size) u.announced)
    ∙ is_some_cond (leb (length (spelled_prefixes u.announced)) (left - size)) _ in
    let same : leb (length (spelled_prefixes u.announced)) (left - size)
    ≡ leb (length (spelling u)) 4096 =
    same_leb (length (spelled_prefixes u.announced)) (left - size) (length (spelling u)) 4096
    (λ h. omega arith) (λ h. omega arith) in
    e3 ∙ c ∙ same

-- an update whose attributes take more than is left does not fit
pub too_long : (u : Update) (left : ℕ) → room_after 4073 u.withdrawn ≡ Some left
    → left < length (spelled_attrs u.attrs) → false ≡ leb (length (spelling u)) 4096
too_long u left e1 lt =
    let r1 = sym (room_is 4073 u.withdrawn) ∙ e1 in
    let w =
    some_is (leb (length (spelled_prefixes u.withdrawn)) 4073)
    (4073 - length (spelled_prefixes u.withdrawn)) left r1 in
    let w0 = leb-true (length (spelled_prefixes u.withdrawn)) 4073 w.0 in
    let w1 = w.1 in
    let m =
    message_size (spelled_prefixes u.withdrawn) (spelled_attrs u.attrs)
    (spelled_prefixes u.announced) in
    sym (lt-leb (length (spelling u)) 4096 (omega arith))

-- an update whose withdrawn prefixes take too much does not fit
pub too_long_at_once : (u : Update) → room_after 4073 u.withdrawn ≡ None
    → false ≡ leb (length (spelling u)) 4096
too_long_at_once u e1 =
    let r1 = sym (room_is 4073 u.withdrawn) ∙ e1 in
    let w0 =
    leb-false (length (spelled_prefixes u.withdrawn)) 4073
    (none_is (leb (length (spelled_prefixes u.withdrawn)) 4073)
    (4073 - length (spelled_prefixes u.withdrawn)) r1) in
    let m =
    message_size (spelled_prefixes u.withdrawn) (spelled_attrs u.attrs)
    (spelled_prefixes u.announced) in
    sym (lt-leb (length (spelling u)) 4096 (omega arith))

-- how many octets the attribute of an empty path takes
pub path_size_none : (p : List Asn) → length p ≡ 0
    → 3 ≡ length (spelled_attribute (record { kind = 2; value = as_path_value p }))
path_size_none [] e = refl
path_size_none (n ∷ ns) e = absurd (omega arith)

-- how many octets the attribute of a path of fewer than 64 numbers takes
pub path_size_short : (p : List Asn) → 0 < length p → length p < 64
    → 5 + 4 * length p ≡ length (spelled_attribute (record { kind = 2; value = as_path_value p }))
path_size_short p lt few =
    let e = path_octets_size p lt in
    let f = field_size_short (record { kind = 2; value = as_path_value p }) (omega arith) in
    omega arith

-- how many octets the attribute of a longer path takes
pub path_size_long : (p : List Asn) → 64 ≤ length p
    → 6 + 4 * length p ≡ length (spelled_attribute (record { kind = 2; value = as_path_value p }))
path_size_long p many =
    let e = path_octets_size p (omega arith) in
    let f = field_size_long (record { kind = 2; value = as_path_value p }) (omega arith) in
    omega arith
