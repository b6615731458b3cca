-- Reading from left to right, and the first fault that is met (RFC 4271, 6.1 and 6.3). Octets
-- without a fault are those that Spells of specs/Spelling.antt relates to an update: the laws of
-- `one_spelling` say so.
use Rattle.std.specs.Prelude.{◌≡◌, ℕ, zero, suc, ◌+◌, ◌-◌, ◌*◌, ◌/◌, ◌%◌, ◌==◌, ◌||◌, Bool, not, is_some, List, [], ◌∷◌, length, take, drop, slice_index, position, Option, Some, None, Result, Ok, Err, nat_lt, if◌then◌else◌}
use Rattle.cn_lists.specs.Steps.{◌>>=◌}
use Rattle.cn_base.specs.Cidr.{Cidr}
use Rattle.cn_base.specs.declared.ids.Asn.{Asn}
use Rattle.cn_base.specs.declared.ids.Origin.{Origin}
use Rattle.cn_base.specs.declared.ids.Origin.TheVariants.{Igp, Egp, Incomplete}
use Rattle.cn_wire.specs.declared.fault.AttrCause.TheVariants as causes
use Rattle.cn_wire.specs.declared.fault.WireFault.{WireFault}
use Rattle.cn_wire.specs.declared.fault.WireFault.TheVariants.{Short, Marker, Length, Kind, Trailing, Bounds, Attr, PrefixLength, Missing}
use Rattle.cn_wire.specs.declared.fault.WireAnswer.{WireAnswer}
use Rattle.cn_wire.specs.declared.fault.WireAnswer.TheVariants as answers
use Rattle.cn_wire.specs.declared.attributes.Found.{Found}
use Rattle.cn_wire.specs.declared.update.Attrs.{Attrs}
use Rattle.cn_wire.specs.declared.update.Update.{Update}
use Rattle.cn_wire.specs.Numbers.{number_2, number_4, octets_for, cidr_of}

-- What a function returned, seen by view, is what reading gives, or memory ran out.
abbrev pub Fails : {Y : Type 0} → WireAnswer → Result Y WireFault → Type 0
Fails answers.Memory read = Unit {0}
Fails (answers.Fault f) read = read ≡ Err f

abbrev pub Gives : {X Y : Type 0} → (X → Y) → Result X WireAnswer → Result Y WireFault → Type 0
Gives view (Ok x) read = read ≡ Ok (view x)
Gives view (Err e) read = Fails e read

-- ---- prefixes, in a part of the message that ends at the place end (RFC 4271, 4.3)

-- the first prefix, and the octets after it. Its place is the end less what is left.
unfoldable pub prefix_at : ℕ → List ℕ → Result (Cidr × List ℕ) WireFault
prefix_at end [] = Err (Bounds end)
prefix_at end (len ∷ octets) =
    if nat_lt 32 len then Err (PrefixLength (end - length (len ∷ octets)) len)
    else (if nat_lt (length octets) (octets_for len) then Err (Bounds (end - length (len ∷ octets)))
    else Ok (cidr_of len (take (octets_for len) octets), drop (octets_for len) octets))

-- at most n of them, to the end of the part
unfoldable pub prefixes_at : ℕ → ℕ → List ℕ → Result (List Cidr) WireFault
prefixes_at zero end octets = Ok []
prefixes_at (suc n) end [] = Ok []
prefixes_at (suc n) end (len ∷ octets) = do
  first ← prefix_at end (len ∷ octets)
  others ← prefixes_at n end first.1
  Ok (first.0 ∷ others)

-- ---- attributes, of which the first stands at the place at (RFC 4271, 4.3, 5 and 6.3)

-- the flag Extended Length: the length has two octets
abbrev pub is_wide : ℕ → Bool
is_wide flags = flags / 16 % 2 == 1

-- how many octets stand before the value, and how many the value has
unfoldable pub sizes_at : ℕ → List ℕ → Result (ℕ × ℕ) WireFault
sizes_at at octets =
    if is_wide (slice_index octets 0)
    then (if nat_lt (length octets) 4 then Err (Bounds at) else Ok (4, number_2 (drop 2 octets)))
    else (if nat_lt (length octets) 3 then Err (Bounds at) else Ok (3, slice_index octets 2))

-- ORIGIN, AS_PATH or NEXT_HOP
abbrev pub is_known : ℕ → Bool
is_known kind = (kind == 1 || kind == 2) || kind == 3

-- an attribute of this type came before
abbrev pub has : Found → ℕ → Bool
has found kind =
    if kind == 1 then is_some found.origin
    else (if kind == 2 then is_some found.path else is_some found.next_hop)

-- the type, the value, and the octets after it. The faults are looked for in this order.
unfoldable pub head_at : ℕ → Found → List ℕ → Result (ℕ × List ℕ × List ℕ) WireFault
head_at at found octets = do
  sizes ← sizes_at at octets
  if not (is_known (slice_index octets 1)) then Err (Attr at (slice_index octets 1) causes.Kind)
      else
      (if has found (slice_index octets 1) then Err (Attr at (slice_index octets 1) causes.Repeated)
      else (if not (slice_index octets 0 / 32 == 2)
      then Err (Attr at (slice_index octets 1) causes.Flags)
      else (if nat_lt (length octets) (sizes.0 + sizes.1) then Err (Bounds at)
      else Ok (
        slice_index octets 1,
        take sizes.1 (drop sizes.0 octets),
        drop sizes.1 (drop sizes.0 octets),
      ))))

-- ORIGIN (RFC 4271, 5.1.1)
unfoldable pub origin_at : ℕ → List ℕ → Result Origin WireFault
origin_at at (zero ∷ []) = Ok Igp
origin_at at (suc zero ∷ []) = Ok Egp
origin_at at (suc (suc zero) ∷ []) = Ok Incomplete
origin_at at (suc (suc (suc n)) ∷ []) = Err (Attr at 1 causes.Value)
origin_at at [] = Err (Attr at 1 causes.Size)
origin_at at (a ∷ b ∷ octets) = Err (Attr at 1 causes.Size)

-- so many numbers of four octets each
abbrev pub numbers_in : ℕ → List ℕ → List Asn
numbers_in zero octets = []
numbers_in (suc n) octets = record { 0 = number_4 octets } ∷ numbers_in n (drop 4 octets)

-- a count that isn't 0, and so many numbers (RFC 6793, 3)
unfoldable pub counted_at : ℕ → List ℕ → Result (List Asn) WireFault
counted_at at [] = Err (Attr at 2 causes.Size)
counted_at at (zero ∷ octets) = Err (Attr at 2 causes.Size)
counted_at at (suc n ∷ octets) =
    if not (length octets == 4 * suc n) then Err (Attr at 2 causes.Size)
    else Ok (numbers_in (suc n) octets)

-- AS_PATH: nothing, or one AS_SEQUENCE (RFC 4271, 5.1.2)
unfoldable pub path_at : ℕ → List ℕ → Result (List Asn) WireFault
path_at at [] = Ok []
path_at at (segment ∷ octets) =
    if not (segment == 2) then Err (Attr at 2 causes.Segment) else counted_at at octets

-- NEXT_HOP (RFC 4271, 5.1.3)
unfoldable pub next_hop_at : ℕ → List ℕ → Result ℕ WireFault
next_hop_at at octets =
    if not (length octets == 4) then Err (Attr at 3 causes.Size) else Ok (number_4 octets)

-- what was found, with the value of this type
unfoldable pub add_at : ℕ → Found → ℕ → List ℕ → Result Found WireFault
add_at at found kind value =
    if kind == 1
    then (origin_at at value
    >>= λ o. Ok (record { origin = Some o; path = found.path; next_hop = found.next_hop }))
    else (if kind == 2
    then (path_at at value
    >>= λ p. Ok (record { origin = found.origin; path = Some p; next_hop = found.next_hop }))
    else (next_hop_at at value
    >>= λ h. Ok (record { origin = found.origin; path = found.path; next_hop = Some h })))

-- what was found with the first attribute, and the octets after it
unfoldable pub attribute_at : ℕ → Found → List ℕ → Result (Found × List ℕ) WireFault
attribute_at end found octets = do
  head ← head_at (end - length octets) found octets
  more ← add_at (end - length octets) found head.0 head.1
  Ok (more, head.2)

-- at most n of them, to the end of the part
unfoldable pub attributes_at : ℕ → ℕ → Found → List ℕ → Result Found WireFault
attributes_at zero end found octets = Ok found
attributes_at (suc n) end found [] = Ok found
attributes_at (suc n) end found (flags ∷ octets) = do
  more ← attribute_at end found (flags ∷ octets)
  attributes_at n end more.0 more.1

abbrev pub nothing : Found
nothing = record { origin = None; path = None; next_hop = None }

-- all three, or the least type that is missing
abbrev pub whole_of : Option Origin → Option (List Asn) → Option ℕ → Result Attrs WireFault
whole_of None path hop = Err (Missing 1)
whole_of (Some o) None hop = Err (Missing 2)
whole_of (Some o) (Some p) None = Err (Missing 3)
whole_of (Some o) (Some p) (Some h) = Ok (record { origin = o; path = p; next_hop = h })

unfoldable pub whole : Found → Result Attrs WireFault
whole found = whole_of found.origin found.path found.next_hop

-- no attributes are needed where there are no octets for them and nothing is announced
unfoldable pub attrs_of : ℕ → ℕ → Found → Result (Option Attrs) WireFault
attrs_of size announced found =
    if size == 0 then (if announced == 0 then Ok None else (whole found >>= λ a. Ok (Some a)))
    else (whole found >>= λ a. Ok (Some a))

-- ---- messages (RFC 4271, 4.1, 4.3 and 6.1)

-- the first octet of the marker that isn't FF
abbrev pub marker_fault : List ℕ → Option ℕ
marker_fault octets = position (λ b. not (b == 255)) (take 16 octets)

-- The length and the type that the header gives are those of an UPDATE of so many octets. The
-- faults are looked for in this order.
unfoldable pub sized_as : ℕ → ℕ → ℕ → Result (Unit {0}) WireFault
sized_as have size kind =
    if nat_lt size 19 then Err (Length size)
    else (if nat_lt 4096 size then Err (Length size)
    else (if not (kind == 2) then Err (Kind kind)
    else (if nat_lt size 23 then Err (Length size)
    else (if nat_lt have size then Err (Short have size)
    else (if nat_lt size have then Err (Trailing size)
    else Ok tt)))))

abbrev pub marked : Option ℕ → Result (Unit {0}) WireFault → Result (Unit {0}) WireFault
marked (Some at) read = Err (Marker at)
marked None read = read

-- the header is that of an UPDATE of all these octets
unfoldable pub framed : List ℕ → Result (Unit {0}) WireFault
framed octets =
    if nat_lt (length octets) 19 then Err (Short (length octets) 19)
    else marked (marker_fault octets)
    (sized_as (length octets) (number_2 (drop 16 octets)) (slice_index octets 18))

-- a part with its length of two octets in front, and the octets after it, of which there are at
-- least spare
unfoldable pub field_at : ℕ → ℕ → List ℕ → Result (List ℕ × List ℕ) WireFault
field_at at spare octets =
    if nat_lt (length octets) (2 + number_2 octets + spare) then Err (Bounds at)
    else Ok (take (number_2 octets) (drop 2 octets), drop (number_2 octets) (drop 2 octets))

-- What comes after the header: the withdrawn prefixes, of which two octets more than they take must
-- be left, the attributes, and to the end the announced prefixes.
unfoldable pub body_at : List ℕ → Result Update WireFault
body_at octets = do
  withdrawn ← field_at 19 2 octets
  withdrawals ← prefixes_at (length withdrawn.0) (21 + length withdrawn.0) withdrawn.0
  attributes ← field_at (21 + length withdrawn.0) 0 withdrawn.1
  found ← attributes_at (length attributes.0) (23 + length withdrawn.0 + length attributes.0)
      nothing attributes.0
  nlri ← prefixes_at (length attributes.1)
      (23 + length withdrawn.0 + length attributes.0 + length attributes.1) attributes.1
  attrs ← attrs_of (length attributes.0) (length nlri) found
  Ok (record { withdrawn = withdrawals; attrs = attrs; announced = nlri })

-- the update that octets spell, or their first fault
unfoldable pub update_of : List ℕ → Result Update WireFault
update_of octets = do
  frame ← framed octets
  body_at (drop 19 octets)

abbrev pub fault_in : Result Update WireFault → Option WireFault
fault_in (Ok u) = None
fault_in (Err f) = Some f

-- the first fault of octets, or none
abbrev pub fault_of : List ℕ → Option WireFault
fault_of octets = fault_in (update_of octets)
