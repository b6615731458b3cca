-- What is spelled so is read.
use Rattle.std.proofs.Common.{◌≡◌, ℕ, zero, suc, ◌+◌, ◌-◌, ◌*◌, ◌/◌, ◌^◌, ◌<◌, ◌≤◌, Bool, true, false, cond, ltb, List, [], ◌∷◌, ◌++◌, length, take, drop, Option, Some, None, Result, Ok, Err, refl, sym, ap, subst, ◌∙◌, append_assoc, arith, inl, inr}
use Rattle.std.specs.Prelude.{not, slice_index, is_some, replicate, ◌||◌, ◌==◌}
use Rattle.std.proofs.lemmas.Bool.{le-ltb, eq-eqb, ne_eqb, cond-true, cond-false}
use Rattle.std.proofs.lemmas.List.{take_at, drop_at, length-append, length-drop, nil_from_length, append-nil, drop-append-le}
use Rattle.std.specs.List.{flat_map}
use Rattle.std.proofs.lemmas.List.Concat.{flat_map-cons}
use Rattle.cn_lists.specs.Steps.{◌>>=◌}
use Rattle.cn_base.specs.Cidr.{Cidr}
use Rattle.cn_base.specs.Rank.{origin_code}
use Rattle.cn_base.specs.declared.ids.Asn.{Asn}
use Rattle.cn_base.specs.declared.ids.Origin.{Origin}
use Rattle.cn_base.specs.declared.ids.Origin.TheVariants.{Igp, Egp, Incomplete}
use Rattle.cn_wire.specs.declared.fault.AttrCause.TheVariants as causes
use Rattle.cn_wire.specs.declared.fault.WireFault.{WireFault}
use Rattle.cn_wire.specs.declared.fault.WireFault.TheVariants.{Bounds, Attr}
use Rattle.cn_wire.specs.declared.attributes.Found.{Found}
use Rattle.cn_wire.specs.declared.update.Attrs.{Attrs}
use Rattle.cn_wire.specs.declared.update.Update.{Update}
use Rattle.cn_wire.specs.Numbers.{two_octets, four_octets, number_2, number_4, octets_for, masked, cidr_of}
use Rattle.cn_wire.specs.Spelling.{SpellsEach, SpellsPrefix, Attribute, length_octets, SpellsAttribute, as_path_value, origin_attribute, as_path_attribute, next_hop_attribute, AnyOrder, FitFourOctets, SpellsAttrs, message, has_attrs, Spells}
use Rattle.cn_wire.specs.Reading.{prefix_at, prefixes_at, is_wide, sizes_at, is_known, has, head_at, origin_at, numbers_in, counted_at, path_at, next_hop_at, add_at, attribute_at, attributes_at, nothing, whole, attrs_of, marker_fault, sized_as, marked, framed, field_at, body_at, update_of}
use Rattle.byteorder.specs.Numbers.{big_number-reads_back, big_from-append}
use Rattle.cn_wire.proofs.Steps.{done}
use Rattle.cn_wire.proofs.OrderFound.{state, full}
use Rattle.cn_wire.proofs.MessagesFound.{pair, le_refl}
use Rattle.cn_wire.proofs.AttributesFound.{head, sizes}

-- ---- prefixes

prefix_read : (end : ℕ) (p : Cidr) (bits rest : List ℕ) → length bits ≡ octets_for p.len
    → p.len ≤ 32 → p.bits ≡ masked p.len (number_4 bits)
    → prefix_at end (p.len ∷ (bits ++ rest)) ≡ Ok (p, rest)
unfolding prefix_at
prefix_read end p bits rest size short value =
    let ok1 : ltb 32 p.len ≡ false = le-ltb _ _ short in
    let ok2 : ltb (length (bits ++ rest)) (octets_for p.len) ≡ false =
    le-ltb _ _ (simp length-append (omega arith)) in
    let t : take (octets_for p.len) (bits ++ rest) ≡ bits =
    take_at bits rest (octets_for p.len) size in
    let d : drop (octets_for p.len) (bits ++ rest) ≡ rest =
    drop_at bits rest (octets_for p.len) size in
    let c : cidr_of p.len bits ≡ p = λ i. record { bits = sym value i; len = p.len } in
    cond-false _ _ _ ok1 ∙ cond-false _ _ _ ok2
    ∙ ap (λ (x : List ℕ). done (cidr_of p.len x, drop (octets_for p.len) (bits ++ rest))) t
    ∙ ap (λ (x : List ℕ). done (cidr_of p.len bits, x)) d ∙ ap (λ (x : Cidr). done (x, rest)) c

prefix_again : (end : ℕ) (front : List ℕ) (p : Cidr) (rest : List ℕ) → SpellsPrefix front p
    → prefix_at end (front ++ rest) ≡ Ok (p, rest)
prefix_again end front p rest s =
    ap (λ (t : List ℕ). prefix_at end (t ++ rest)) s.parts
    ∙ prefix_read end p s.bits rest s.size s.short s.value

one_prefix : (m end : ℕ) (octets : List ℕ) (p : Cidr) (rest : List ℕ) (ps : List Cidr)
    → 0 < length octets → prefix_at end octets ≡ Ok (p, rest) → prefixes_at m end rest ≡ Ok ps
    → prefixes_at (suc m) end octets ≡ Ok (p ∷ ps)
unfolding prefixes_at
one_prefix m end [] p rest ps lt e1 e2 = absurd (omega arith)
one_prefix m end (b ∷ octets) p rest ps lt e1 e2 = rw (e1, e2) refl

no_prefix : (n end : ℕ) → prefixes_at n end [] ≡ Ok []
unfolding prefixes_at
no_prefix zero end = refl
no_prefix (suc n) end = refl

prefixes_again : (n end : ℕ) (octets : List ℕ) (ps : List Cidr) → length octets ≤ n
    → SpellsEach SpellsPrefix octets ps → prefixes_at n end octets ≡ Ok ps
prefixes_again n end octets [] le e = ap (λ (t : List ℕ). prefixes_at n end t) e ∙ no_prefix n end
prefixes_again zero end octets (p ∷ ps) le (front, rest, e, s, more) =
    let len : length octets ≡ suc (length s.bits) + length rest =
    ap length e ∙ ap (λ (t : List ℕ). length (t ++ rest)) s.parts ∙ simp length-append refl in
    absurd (omega arith)
prefixes_again (suc n) end octets (p ∷ ps) le (front, rest, e, s, more) =
    let len : length octets ≡ suc (length s.bits) + length rest =
    ap length e ∙ ap (λ (t : List ℕ). length (t ++ rest)) s.parts
    ∙ simp length-append (omega arith) in
    let first : prefix_at end octets ≡ Ok (p, rest) =
    ap (λ (t : List ℕ). prefix_at end t) e ∙ prefix_again end front p rest s in
    one_prefix n end octets p rest ps (omega arith) first
    (prefixes_again n end rest ps (omega arith) more)

-- ---- numbers

two_back : (n : ℕ) (rest : List ℕ) → n < 65536 → number_2 (two_octets n ++ rest) ≡ n
two_back n rest lt = big_number-reads_back 2 n rest lt

four_back : (n : ℕ) (rest : List ℕ) → n < 2 ^ 32 → number_4 (four_octets n ++ rest) ≡ n
four_back n rest lt = big_number-reads_back 4 n rest lt

-- the octets of numbers are those of the first and of the others
pub flat_numbers : (n : Asn) (ns : List Asn)
    → flat_map (λ m. four_octets m.0) (n ∷ ns)
    ≡ four_octets n.0 ++ flat_map (λ m. four_octets m.0) ns
flat_numbers n ns = rw flat_map-cons refl

abbrev number : ℕ → Asn
number n = record { 0 = n }

numbers_again : (ns : List Asn) → FitFourOctets ns
    → numbers_in (length ns) (flat_map (λ m. four_octets m.0) ns) ≡ ns
numbers_again [] short = refl
numbers_again (n ∷ ns) short =
    let regrouped : flat_map (λ m. four_octets m.0) (n ∷ ns)
    ≡ four_octets n.0 ++ flat_map (λ m. four_octets m.0) ns =
    rw flat_map-cons refl in
    ap (λ (t : List ℕ). numbers_in (length (n ∷ ns)) t) regrouped
    ∙ ap (λ (k : ℕ). number k ∷ numbers_in (length ns) (flat_map (λ m. four_octets m.0) ns))
    (four_back n.0 (flat_map (λ m. four_octets m.0) ns) short.0)
    ∙ ap (λ (t : List Asn). n ∷ t) (numbers_again ns short.1)

-- each number takes four octets
pub numbers_size : (ns : List Asn) → length (flat_map (λ m. four_octets m.0) ns) ≡ 4 * length ns
numbers_size [] = refl
numbers_size (n ∷ ns) =
    let e = numbers_size ns in
    let r : length (flat_map (λ m. four_octets m.0) (n ∷ ns))
    ≡ 4 + length (flat_map (λ m. four_octets m.0) ns) =
    ap length (flat_numbers n ns) ∙ simp length-append (omega arith) in
    omega arith

-- ---- values

counted_again : (at : ℕ) (n : Asn) (ns : List Asn) → FitFourOctets (n ∷ ns)
    → counted_at at (length (n ∷ ns) ∷ flat_map (λ m. four_octets m.0) (n ∷ ns)) ≡ Ok (n ∷ ns)
unfolding counted_at
counted_again at n ns short =
    let ok : not (length (flat_map (λ m. four_octets m.0) (n ∷ ns)) == 4 * suc (length ns))
    ≡ false =
    ap not (eq-eqb (length (flat_map (λ m. four_octets m.0) (n ∷ ns))) (4 * suc (length ns))
    (numbers_size (n ∷ ns))) in
    cond-false _ _ _ ok ∙ ap (λ (x : List Asn). done x) (numbers_again (n ∷ ns) short)

path_again : (at : ℕ) (p : List Asn) → FitFourOctets p → path_at at (as_path_value p) ≡ Ok p
unfolding path_at
path_again at [] short = refl
path_again at (n ∷ ns) short = counted_again at n ns short

hop_again : (at h : ℕ) → h < 2 ^ 32 → next_hop_at at (four_octets h) ≡ Ok h
unfolding next_hop_at
hop_again at h lt =
    ap (λ (x : ℕ). done x) (ap number_4 (sym (append-nil (four_octets h))) ∙ four_back h [] lt)

origin_again : (at : ℕ) (o : Origin) → origin_at at (origin_code o ∷ []) ≡ Ok o
unfolding origin_at
origin_again at Igp = refl
origin_again at Egp = refl
origin_again at Incomplete = refl

-- ---- one attribute

-- a field is read, and more is found then
abbrev pub Takes : Found → Attribute → Found → Type 0
Takes found f more =
    (is_known f.kind ≡ true) × (has found f.kind ≡ false)
    × ((at : ℕ) → add_at at found f.kind f.value ≡ Ok more)

takes_origin : (p : Option (List Asn)) (h : Option ℕ) (a : Attrs)
    → Takes (state None p h) (origin_attribute a) (state (Some a.origin) p h)
unfolding add_at
takes_origin p h a = (refl, refl, λ at. rw (origin_again at a.origin) refl)

takes_path : (o : Option Origin) (h : Option ℕ) (a : Attrs) → FitFourOctets a.path
    → Takes (state o None h) (as_path_attribute a) (state o (Some a.path) h)
unfolding add_at
takes_path o h a short = (refl, refl, λ at. rw (path_again at a.path short) refl)

takes_hop : (o : Option Origin) (p : Option (List Asn)) (a : Attrs) → a.next_hop < 2 ^ 32
    → Takes (state o p None) (next_hop_attribute a) (state o p (Some a.next_hop))
unfolding add_at
takes_hop o p a lt = (
  refl,
  refl,
  λ at. ap (λ (r : Result ℕ WireFault). r >>= λ h. done (state o p (Some h)))
      (hop_again at a.next_hop lt),
)

sizes_again_by : (at flags kind n : ℕ) (value : List ℕ) (wide : Bool) → is_wide flags ≡ wide
    → n < 65536
    → (before : ℕ)
    × (sizes_at at (flags ∷ kind ∷ (cond wide (two_octets n) (n ∷ []) ++ value)) ≡ Ok (before, n))
    × (drop before (flags ∷ kind ∷ (cond wide (two_octets n) (n ∷ []) ++ value)) ≡ value)
    × (length (flags ∷ kind ∷ (cond wide (two_octets n) (n ∷ []) ++ value)) ≡ before + length value)
unfolding sizes_at
sizes_again_by at flags kind n value true w lt =
    let ok : ltb (length (flags ∷ kind ∷ (two_octets n ++ value))) 4 ≡ false =
    le-ltb _ _ (omega arith) in (
      4,
      cond-true _ _ _ w ∙ cond-false _ _ _ ok ∙ ap (λ (k : ℕ). sizes 4 k) (two_back n value lt),
      refl,
      omega arith,
    )
sizes_again_by at flags kind n value false w lt =
    let ok : ltb (length (flags ∷ kind ∷ n ∷ value)) 3 ≡ false = le-ltb _ _ (omega arith) in
    (3, cond-false _ _ _ w ∙ cond-false _ _ _ ok, refl, omega arith)

head_again_by : (at : ℕ) (found : Found) (octets : List ℕ) (kind before n : ℕ)
    (value rest tail : List ℕ)
    → sizes_at at octets ≡ Ok (before, n) → drop before octets ≡ tail → tail ≡ value ++ rest
    → length value ≡ n
    → length octets ≡ before + length tail → slice_index octets 1 ≡ kind
    → slice_index octets 0 / 32 ≡ 2 → is_known kind ≡ true → has found kind ≡ false
    → head_at at found octets ≡ Ok (kind, value, rest)
unfolding head_at
head_again_by at found octets kind before n value rest tail e1 e2 e3 len long k high known fresh =
    let ok1 : not (is_known (slice_index octets 1)) ≡ false = rw k (ap not known) in
    let ok2 : has found (slice_index octets 1) ≡ false = rw k fresh in
    let ok3 : not (slice_index octets 0 / 32 == 2) ≡ false = ap not (eq-eqb _ _ high) in
    let l : length tail ≡ length value + length rest = ap length e3 ∙ simp length-append refl in
    let ok4 : ltb (length octets) (before + n) ≡ false = le-ltb _ _ (omega arith) in
    let v : take n (drop before octets) ≡ value =
    ap (take n) (e2 ∙ e3) ∙ take_at value rest n len in
    let r : drop n (drop before octets) ≡ rest = ap (drop n) (e2 ∙ e3) ∙ drop_at value rest n len in
    ap (λ (x : Result (ℕ × ℕ) WireFault). x
    >>= λ sizes. cond (not (is_known (slice_index octets 1)))
    (Err (Attr at (slice_index octets 1) causes.Kind))
    (cond (has found (slice_index octets 1)) (Err (Attr at (slice_index octets 1) causes.Repeated))
    (cond (not (slice_index octets 0 / 32 == 2)) (Err (Attr at (slice_index octets 1) causes.Flags))
    (cond (ltb (length octets) (sizes.0 + sizes.1)) (Err (Bounds at))
    (head (slice_index octets 1) (take sizes.1 (drop sizes.0 octets))
    (drop sizes.1 (drop sizes.0 octets))))))) e1
    ∙ cond-false _ _ _ ok1 ∙ cond-false _ _ _ ok2 ∙ cond-false _ _ _ ok3 ∙ cond-false _ _ _ ok4
    ∙ ap (λ (x : ℕ). head x (take n (drop before octets)) (drop n (drop before octets))) k
    ∙ ap (λ (x : List ℕ). head kind x (drop n (drop before octets))) v
    ∙ ap (λ (x : List ℕ). head kind value x) r

field_octets : (front : List ℕ) (f : Attribute) (rest : List ℕ) (s : SpellsAttribute front f)
    → front ++ rest
    ≡ s.flags ∷ f.kind ∷ (length_octets s.flags (length f.value) ++ (f.value ++ rest))
field_octets front f rest s =
    ap (λ (t : List ℕ). t ++ rest) s.parts
    ∙ ap (λ (t : List ℕ). s.flags ∷ f.kind ∷ t)
    (append_assoc (length_octets s.flags (length f.value)) f.value rest)

field_size : (front : List ℕ) (f : Attribute) (s : SpellsAttribute front f)
    → length front ≡ 2 + (length (length_octets s.flags (length f.value)) + length f.value)
field_size front f s = ap length s.parts ∙ simp length-append (omega arith)

attribute_again : (end : ℕ) (found : Found) (octets front rest : List ℕ) (f : Attribute)
    (more : Found)
    → octets ≡ front ++ rest → SpellsAttribute front f → length octets < 65536 → Takes found f more
    → attribute_at end found octets ≡ Ok (more, rest)
unfolding attribute_at
attribute_again end found octets front rest f more e s lt takes =
    let at = end - length octets in
    let o : octets
    ≡ s.flags ∷ f.kind ∷ (length_octets s.flags (length f.value) ++ (f.value ++ rest)) =
    e ∙ field_octets front f rest s in
    let len1 = field_size front f s in
    let len2 : length octets ≡ length front + length rest = ap length e ∙ simp length-append refl in
    let z =
    sizes_again_by (end - length octets) s.flags f.kind (length f.value) (f.value ++ rest)
    (is_wide s.flags) refl (omega arith) in
    let h : head_at (end - length octets) found octets ≡ Ok (f.kind, f.value, rest) =
    head_again_by (end - length octets) found octets f.kind z.0 (length f.value) f.value rest
    (f.value ++ rest)
    (ap (λ (t : List ℕ). sizes_at (end - length octets) t) o ∙ z.1) (ap (drop z.0) o ∙ z.2) refl
    refl (ap length o ∙ z.3) (ap (λ (t : List ℕ). slice_index t 1) o)
    (ap (λ (t : List ℕ). slice_index t 0 / 32) o ∙ s.high) takes.0 takes.1 in
    rw (h, takes.2 (end - length octets)) refl

-- attributes, each added to what was found
abbrev pub TakesAll : Found → List Attribute → Found → Type 0
TakesAll found [] more = found ≡ more
TakesAll found (f ∷ fs) more = (mid : Found) × Takes found f mid × TakesAll mid fs more

one_attribute : (m end : ℕ) (found : Found) (octets : List ℕ) (mid : Found) (rest : List ℕ)
    (more : Found)
    → 0 < length octets → attribute_at end found octets ≡ Ok (mid, rest)
    → attributes_at m end mid rest ≡ Ok more → attributes_at (suc m) end found octets ≡ Ok more
unfolding attributes_at
one_attribute m end found [] mid rest more lt e1 e2 = absurd (omega arith)
one_attribute m end found (b ∷ octets) mid rest more lt e1 e2 = rw (e1, e2) refl

no_attribute : (n end : ℕ) (found : Found) → attributes_at n end found [] ≡ Ok found
unfolding attributes_at
no_attribute zero end found = refl
no_attribute (suc n) end found = refl

attributes_again : (n end : ℕ) (found : Found) (octets : List ℕ) (fields : List Attribute)
    (more : Found)
    → length octets ≤ n → length octets < 65536 → SpellsEach SpellsAttribute octets fields
    → TakesAll found fields more → attributes_at n end found octets ≡ Ok more
attributes_again n end found octets [] more le lt e takes =
    ap (λ (t : List ℕ). attributes_at n end found t) e ∙ no_attribute n end found ∙ ap done takes
attributes_again zero end found octets (f ∷ fs) more le lt (front, rest, e, s, others)
    (mid, first, takes) =
    let len1 = field_size front f s in
    let len2 : length octets ≡ length front + length rest = ap length e ∙ simp length-append refl in
    absurd (omega arith)
attributes_again (suc n) end found octets (f ∷ fs) more le lt (front, rest, e, s, others)
    (mid, first, takes) =
    let len1 = field_size front f s in
    let len2 : length octets ≡ length front + length rest = ap length e ∙ simp length-append refl in
    one_attribute n end found octets mid rest more (omega arith)
    (attribute_again end found octets front rest f mid e s lt first)
    (attributes_again n end mid rest fs more (omega arith) (omega arith) others takes)

-- ---- any order

takes_in_order : (fields : List Attribute) (a : Attrs) → FitFourOctets a.path → a.next_hop < 2 ^ 32
    → AnyOrder (origin_attribute a) (as_path_attribute a) (next_hop_attribute a) fields
    → TakesAll nothing fields (full a)
takes_in_order fields a short lt (inl e) =
    subst (λ (fs : List Attribute). TakesAll nothing fs (full a)) (sym e) (
      state (Some a.origin) None None,
      takes_origin None None a,
      (
        state (Some a.origin) (Some a.path) None,
        takes_path (Some a.origin) None a short,
        (full a, takes_hop (Some a.origin) (Some a.path) a lt, refl),
      ),
    )
takes_in_order fields a short lt (inr (inl e)) =
    subst (λ (fs : List Attribute). TakesAll nothing fs (full a)) (sym e) (
      state (Some a.origin) None None,
      takes_origin None None a,
      (
        state (Some a.origin) None (Some a.next_hop),
        takes_hop (Some a.origin) None a lt,
        (full a, takes_path (Some a.origin) (Some a.next_hop) a short, refl),
      ),
    )
takes_in_order fields a short lt (inr (inr (inl e))) =
    subst (λ (fs : List Attribute). TakesAll nothing fs (full a)) (sym e) (
      state None (Some a.path) None,
      takes_path None None a short,
      (
        state (Some a.origin) (Some a.path) None,
        takes_origin (Some a.path) None a,
        (full a, takes_hop (Some a.origin) (Some a.path) a lt, refl),
      ),
    )
takes_in_order fields a short lt (inr (inr (inr (inl e)))) =
    subst (λ (fs : List Attribute). TakesAll nothing fs (full a)) (sym e) (
      state None (Some a.path) None,
      takes_path None None a short,
      (
        state None (Some a.path) (Some a.next_hop),
        takes_hop None (Some a.path) a lt,
        (full a, takes_origin (Some a.path) (Some a.next_hop) a, refl),
      ),
    )
takes_in_order fields a short lt (inr (inr (inr (inr (inl e))))) =
    subst (λ (fs : List Attribute). TakesAll nothing fs (full a)) (sym e) (
      state None None (Some a.next_hop),
      takes_hop None None a lt,
      (
        state (Some a.origin) None (Some a.next_hop),
        takes_origin None (Some a.next_hop) a,
        (full a, takes_path (Some a.origin) (Some a.next_hop) a short, refl),
      ),
    )
takes_in_order fields a short lt (inr (inr (inr (inr (inr e))))) =
    subst (λ (fs : List Attribute). TakesAll nothing fs (full a)) (sym e) (
      state None None (Some a.next_hop),
      takes_hop None None a lt,
      (
        state None (Some a.path) (Some a.next_hop),
        takes_path None (Some a.next_hop) a short,
        (full a, takes_origin (Some a.path) (Some a.next_hop) a, refl),
      ),
    )

whole_again : (a : Attrs) → whole (full a) ≡ Ok a
unfolding whole
whole_again a = refl

attrs_none : (announced : ℕ) → (announced == 0) ≡ true → attrs_of 0 announced nothing ≡ Ok None
unfolding attrs_of
attrs_none announced e = cond-true _ _ _ e

attrs_some : (size announced : ℕ) (a : Attrs) → (size == 0) ≡ false
    → attrs_of size announced (full a) ≡ Ok (Some a)
unfolding attrs_of
attrs_some size announced a e = cond-false _ _ _ e ∙ rw (whole_again a) refl

some_octets : (octets : List ℕ) (fields : List Attribute) (x y z : Attribute)
    → SpellsEach SpellsAttribute octets fields → AnyOrder x y z fields
    → (length octets == 0) ≡ false
some_octets octets [] x y z e (inl o) = absurd cc
some_octets octets [] x y z e (inr (inl o)) = absurd cc
some_octets octets [] x y z e (inr (inr (inl o))) = absurd cc
some_octets octets [] x y z e (inr (inr (inr (inl o)))) = absurd cc
some_octets octets [] x y z e (inr (inr (inr (inr (inl o))))) = absurd cc
some_octets octets [] x y z e (inr (inr (inr (inr (inr o))))) = absurd cc
some_octets octets (f ∷ fs) x y z (front, rest, e, s, others) o =
    let len1 = field_size front f s in
    let len2 : length octets ≡ length front + length rest = ap length e ∙ simp length-append refl in
    ne_eqb (length octets) 0 (omega arith)

attrs_again : (n end : ℕ) (octets : List ℕ) (o : Option Attrs) (announced : List Cidr)
    → length octets ≤ n → length octets < 65536 → SpellsAttrs octets o
    → (is_some o || length announced == 0) ≡ true
    → (found : Found) × (attributes_at n end nothing octets ≡ Ok found)
    × (attrs_of (length octets) (length announced) found ≡ Ok o)
attrs_again n end octets None announced le lt e complete = (
  nothing,
  ap (λ (t : List ℕ). attributes_at n end nothing t) e ∙ no_attribute n end nothing,
  ap (λ (t : List ℕ). attrs_of (length t) (length announced) nothing) e
      ∙ attrs_none (length announced) complete,
)
attrs_again n end octets (Some a) announced le lt (fields, s, order, short, hop) complete = (
  full a,
  attributes_again n end nothing octets fields (full a) le lt s
      (takes_in_order fields a short hop order),
  attrs_some (length octets) (length announced) a
      (some_octets octets fields (origin_attribute a) (as_path_attribute a)
      (next_hop_attribute a) s order),
)

-- ---- messages

field_again : (at spare : ℕ) (a b : List ℕ) → length a < 65536 → spare ≤ length b
    → field_at at spare (two_octets (length a) ++ (a ++ b)) ≡ Ok (a, b)
unfolding field_at
field_again at spare a b lt long =
    let n : number_2 (two_octets (length a) ++ (a ++ b)) ≡ length a =
    two_back (length a) (a ++ b) lt in
    let l : length (two_octets (length a) ++ (a ++ b)) ≡ 2 + (length a + length b) =
    simp length-append (omega arith) in
    let ok : ltb (length (two_octets (length a) ++ (a ++ b)))
    (2 + number_2 (two_octets (length a) ++ (a ++ b)) + spare)
    ≡ false =
    le-ltb _ _ (omega arith) in
    cond-false _ _ _ ok ∙ ap (λ (k : ℕ). pair (take k (a ++ b)) (drop k (a ++ b))) n
    ∙ ap (λ (x : List ℕ). pair x (drop (length a) (a ++ b))) (take_at a b (length a) refl)
    ∙ ap (λ (x : List ℕ). pair a x) (drop_at a b (length a) refl)

body_again : (u : Update) (withdrawals attributes nlri : List ℕ)
    → length withdrawals + length attributes + length nlri ≤ 4096
    → SpellsEach SpellsPrefix withdrawals u.withdrawn → SpellsAttrs attributes u.attrs
    → SpellsEach SpellsPrefix nlri u.announced → has_attrs u ≡ true
    → body_at (two_octets (length withdrawals)
    ++ (withdrawals ++ (two_octets (length attributes) ++ (attributes ++ nlri))))
    ≡ Ok u
unfolding body_at
body_again u withdrawals attributes nlri small w a c complete =
    let l : length (two_octets (length attributes) ++ (attributes ++ nlri))
    ≡ 2 + (length attributes + length nlri) =
    simp length-append (omega arith) in
    let one =
    field_again 19 2 withdrawals (two_octets (length attributes) ++ (attributes ++ nlri))
    (omega arith) (omega arith) in
    let gone_is =
    prefixes_again (length withdrawals) (21 + length withdrawals) withdrawals u.withdrawn
    (le_refl (length withdrawals)) w in
    let two_is =
    field_again (21 + length withdrawals) 0 attributes nlri (omega arith) (omega arith) in
    let s =
    attrs_again (length attributes) (23 + length withdrawals + length attributes) attributes u.attrs
    u.announced (le_refl (length attributes)) (omega arith) a complete in
    let come_is =
    prefixes_again (length nlri) (23 + length withdrawals + length attributes + length nlri) nlri
    u.announced (le_refl (length nlri)) c in
    rw (one, gone_is, two_is, s.1, come_is, s.2) refl

-- how many octets a message takes
pub message_size : (withdrawals attributes nlri : List ℕ)
    → length (message withdrawals attributes nlri)
    ≡ 23 + length withdrawals + length attributes + length nlri
message_size withdrawals attributes nlri = simp length-append (omega arith)

sized_again : (have size kind : ℕ) → have ≡ size → kind ≡ 2 → 23 ≤ size → size ≤ 4096
    → sized_as have size kind ≡ Ok tt
unfolding sized_as
sized_again have size kind e k low high =
    cond-false _ _ _ (le-ltb size 19 (omega arith)) ∙ cond-false _ _ _ (le-ltb 4096 size high)
    ∙ cond-false _ _ _ (ap not (eq-eqb kind 2 k))
    ∙ cond-false _ _ _ (le-ltb size 23 low) ∙ cond-false _ _ _ (le-ltb have size (omega arith))
    ∙ cond-false _ _ _ (le-ltb size have (omega arith))

-- the header of a message of this size
framed_by : (octets rest : List ℕ) (size : ℕ)
    → octets ≡ replicate 16 255 ++ (two_octets size ++ (2 ∷ rest)) → length octets ≡ size
    → 23 ≤ size → size ≤ 4096 → framed octets ≡ Ok tt
unfolding framed
framed_by octets rest size e len low high =
    let n : number_2 (drop 16 octets) ≡ size =
    ap (λ (t : List ℕ). number_2 (drop 16 t)) e ∙ two_back size (2 ∷ rest) (omega arith) in
    let k : slice_index octets 18 ≡ 2 = ap (λ (t : List ℕ). slice_index t 18) e in
    let m : marker_fault octets ≡ None = ap marker_fault e in
    let ok : ltb (length octets) 19 ≡ false = le-ltb _ _ (omega arith) in
    cond-false _ _ _ ok
    ∙ ap (λ (o : Option ℕ).
    marked o (sized_as (length octets) (number_2 (drop 16 octets)) (slice_index octets 18))) m
    ∙ sized_again (length octets) (number_2 (drop 16 octets)) (slice_index octets 18) (omega arith)
    k (omega arith) (omega arith)

-- octets that spell an update are read as it
pub update_again : (octets : List ℕ) (u : Update) → Spells octets u → update_of octets ≡ Ok u
unfolding update_of
update_again octets u s =
    let l : length (message s.withdrawals s.attributes s.nlri)
    ≡ 23 + length s.withdrawals + length s.attributes + length s.nlri =
    message_size s.withdrawals s.attributes s.nlri in
    let room = s.room in
    let len : length octets ≡ 23 + length s.withdrawals + length s.attributes + length s.nlri =
    ap length s.parts ∙ l in
    let f : framed octets ≡ Ok tt =
    framed_by octets
    (two_octets (length s.withdrawals)
    ++ (s.withdrawals ++ (two_octets (length s.attributes) ++ (s.attributes ++ s.nlri))))
    (23 + length s.withdrawals + length s.attributes + length s.nlri) s.parts len (omega arith)
    (omega arith) in
    let b : body_at (drop 19 octets) ≡ Ok u =
    ap (λ (t : List ℕ). body_at (drop 19 t)) s.parts
    ∙ body_again u s.withdrawals s.attributes s.nlri (omega arith) s.withdrawn s.attrs s.announced
    s.complete in
    ap (λ (x : Result (Unit {0}) WireFault). x >>= λ _. body_at (drop 19 octets)) f ∙ b

-- ---- one spelling

done_is : (u v : Update) → done u ≡ done v → u ≡ v
done_is u v e = cc

-- octets spell one update at most
pub one_update : (octets : List ℕ) (u v : Update) → Spells octets u → Spells octets v → u ≡ v
one_update octets u v a b = done_is u v (sym (update_again octets u a) ∙ update_again octets v b)

size_of_spelling : (octets : List ℕ) (u : Update) → Spells octets u
    → (number_2 (drop 16 octets) ≡ length octets) × (23 ≤ length octets)
size_of_spelling octets u s =
    let l : length (message s.withdrawals s.attributes s.nlri)
    ≡ 23 + length s.withdrawals + length s.attributes + length s.nlri =
    message_size s.withdrawals s.attributes s.nlri in
    let room = s.room in
    let len : length octets ≡ 23 + length s.withdrawals + length s.attributes + length s.nlri =
    ap length s.parts ∙ l in
    let n : number_2 (drop 16 octets)
    ≡ 23 + length s.withdrawals + length s.attributes + length s.nlri =
    ap (λ (t : List ℕ). number_2 (drop 16 t)) s.parts
    ∙ two_back (23 + length s.withdrawals + length s.attributes + length s.nlri)
    (2
    ∷ (two_octets (length s.withdrawals)
    ++ (s.withdrawals ++ (two_octets (length s.attributes) ++ (s.attributes ++ s.nlri)))))
    (omega arith) in
    (n ∙ sym len, omega arith)

-- no octets follow those that spell an update
pub no_prefix_spells : (octets more : List ℕ) (u v : Update) → Spells octets u
    → Spells (octets ++ more) v → more ≡ []
no_prefix_spells octets more u v a b =
    let x = size_of_spelling octets u a in
    let y = size_of_spelling (octets ++ more) v b in
    let low = x.1 in
    let d : drop 16 (octets ++ more) ≡ drop 16 octets ++ more =
    drop-append-le 16 octets more (omega arith) in
    let n : number_2 (drop 16 octets ++ more) ≡ number_2 (drop 16 octets) =
    big_from-append 2 (drop 16 octets) more (omega (arith, length-drop 16 octets)) in
    let same : length (octets ++ more) ≡ length octets = sym y.0 ∙ ap number_2 d ∙ n ∙ x.0 in
    nil_from_length more (omega (arith, length-append octets more))
