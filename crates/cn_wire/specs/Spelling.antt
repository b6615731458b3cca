-- What octets spell: UPDATE messages (RFC 4271, 4.1 and 4.3) with AS numbers of four octets (RFC
-- 6793, 3). The message is seen as a whole; nothing here says in which order it is read.
use Rattle.std.specs.Prelude.{◌≡◌, ℕ, ◌+◌, ◌/◌, ◌%◌, ◌^◌, ◌<◌, ◌≤◌, ◌==◌, ◌⊎◌, ◌||◌, Bool, true, is_some, List, [], ◌∷◌, ◌++◌, length, replicate, Option, Some, None, if◌then◌else◌}
use Rattle.std.specs.List.{flat_map, AllByRecursion}
use Rattle.cn_base.specs.Cidr.{Cidr}
use Rattle.cn_base.specs.Rank.{origin_code}
use Rattle.cn_base.specs.declared.ids.Asn.{Asn}
use Rattle.cn_wire.specs.declared.update.Attrs.{Attrs}
use Rattle.cn_wire.specs.declared.update.Update.{Update}
use Rattle.cn_wire.specs.Numbers.{IsOctets, two_octets, four_octets, number_4, octets_for, masked}

-- the octets are parts, one after the other, that spell the items
abbrev pub SpellsEach : {A : Type 0} → (List ℕ → A → Type 0) → List ℕ → List A → Type 0
SpellsEach SpellsOne octets [] = octets ≡ []
SpellsEach SpellsOne octets (x ∷ xs) =
    (front : List ℕ) × (rest : List ℕ) × (octets ≡ front ++ rest) × SpellsOne front x
    × SpellsEach SpellsOne rest xs

-- ---- prefixes (RFC 4271, 4.3)

-- a length of at most 32, and as few octets as hold so many bits. The bits after the length may be
-- any.
pub record SpellsPrefix (octets : List ℕ) (p : Cidr) : Type 0 where
  pub bits : List ℕ
  pub parts : octets ≡ p.len ∷ bits
  pub size : length bits ≡ octets_for p.len
  pub short : p.len ≤ 32
  pub value : p.bits ≡ masked p.len (number_4 bits)

-- ---- path attributes (RFC 4271, 4.3 and 5)

-- the type of an attribute, and its value
pub record Attribute : Type 0 where
  pub kind : ℕ
  pub value : List ℕ

-- the length of a value, of two octets where the Extended Length bit of the flags says so
abbrev pub length_octets : ℕ → ℕ → List ℕ
length_octets flags n = if flags / 16 % 2 == 1 then two_octets n else n ∷ []

-- flags, type, length and value. Of the flags the highest three say "well-known and complete", 010;
-- the others may be any.
pub record SpellsAttribute (octets : List ℕ) (a : Attribute) : Type 0 where
  pub flags : ℕ
  pub parts : octets ≡ flags ∷ a.kind ∷ (length_octets flags (length a.value) ++ a.value)
  pub high : flags / 32 ≡ 2

-- ORIGIN: one octet (RFC 4271, 5.1.1)
abbrev pub origin_attribute : Attrs → Attribute
origin_attribute a = record { kind = 1; value = origin_code a.origin ∷ [] }

-- no octets for the empty path, else one segment AS_SEQUENCE: 2, the count, and the numbers (RFC
-- 4271, 5.1.2; RFC 6793, 3)
abbrev pub as_path_value : List Asn → List ℕ
as_path_value [] = []
as_path_value (n ∷ ns) = 2 ∷ length (n ∷ ns) ∷ flat_map (λ m. four_octets m.0) (n ∷ ns)

abbrev pub attribute_of_path : List Asn → Attribute
attribute_of_path path = record { kind = 2; value = as_path_value path }

-- AS_PATH
abbrev pub as_path_attribute : Attrs → Attribute
as_path_attribute a = attribute_of_path a.path

-- NEXT_HOP: an address of four octets (RFC 4271, 5.1.3)
abbrev pub next_hop_attribute : Attrs → Attribute
next_hop_attribute a = record { kind = 3; value = four_octets a.next_hop }

-- the list has the three, in any order
abbrev pub AnyOrder : {A : Type 0} → A → A → A → List A → Type 0
AnyOrder x y z xs =
    (xs ≡ x ∷ y ∷ z ∷ []) ⊎ (xs ≡ x ∷ z ∷ y ∷ []) ⊎ (xs ≡ y ∷ x ∷ z ∷ [])
    ⊎ (xs ≡ y ∷ z ∷ x ∷ []) ⊎ (xs ≡ z ∷ x ∷ y ∷ []) ⊎ (xs ≡ z ∷ y ∷ x ∷ [])

-- each number has at most four octets
abbrev pub FitFourOctets : List Asn → Type 0
FitFourOctets path = AllByRecursion (λ n. n.0 < 2 ^ 32) path

-- no octets for no attributes, else ORIGIN, AS_PATH and NEXT_HOP, each once
abbrev pub SpellsAttrs : List ℕ → Option Attrs → Type 0
SpellsAttrs octets None = octets ≡ []
SpellsAttrs octets (Some a) =
    (attributes : List Attribute) × SpellsEach SpellsAttribute octets attributes
    × AnyOrder (origin_attribute a) (as_path_attribute a) (next_hop_attribute a) attributes
    × FitFourOctets a.path × (a.next_hop < 2 ^ 32)

-- ---- messages (RFC 4271, 4.1 and 4.3)

-- Marker, Length, Type 2; Withdrawn Routes and Path Attributes, each with its length in front;
-- Network Layer Reachability Information
abbrev pub message : List ℕ → List ℕ → List ℕ → List ℕ
message withdrawals attributes nlri =
    replicate 16 255
    ++ (two_octets (23 + length withdrawals + length attributes + length nlri)
    ++ (2
    ∷ (two_octets (length withdrawals)
    ++ (withdrawals ++ (two_octets (length attributes) ++ (attributes ++ nlri))))))

-- attributes are there, or nothing is announced
abbrev pub has_attrs : Update → Bool
has_attrs u = is_some u.attrs || length u.announced == 0

-- the octets are a message of at most 4,096 whose three parts spell what the update withdraws, its
-- attributes and what it announces
pub record Spells (octets : List ℕ) (u : Update) : Type 0 where
  pub octets_fit : IsOctets octets
  pub withdrawals : List ℕ
  pub attributes : List ℕ
  pub nlri : List ℕ
  pub parts : octets ≡ message withdrawals attributes nlri
  pub room : length octets ≤ 4096
  pub withdrawn : SpellsEach SpellsPrefix withdrawals u.withdrawn
  pub attrs : SpellsAttrs attributes u.attrs
  pub announced : SpellsEach SpellsPrefix nlri u.announced
  pub complete : has_attrs u ≡ true
