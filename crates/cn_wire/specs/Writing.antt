-- The one spelling that is written (RFC 4271, 4.3).
use Rattle.std.specs.Prelude.{ℕ, ◌^◌, ◌<◌, ◌≤◌, ◌&&◌, nat_le, Bool, List, [], ◌∷◌, ◌++◌, length, take, Option, Some, None, if◌then◌else◌}
use Rattle.std.specs.List.{flat_map, AllByRecursion}
use Rattle.cn_base.specs.Cidr.{Cidr, IsCidr}
use Rattle.cn_wire.specs.declared.update.Attrs.{Attrs}
use Rattle.cn_wire.specs.declared.update.Update.{Update}
use Rattle.cn_wire.specs.Numbers.{two_octets, four_octets, octets_for}
use Rattle.cn_wire.specs.Spelling.{Attribute, origin_attribute, as_path_attribute, next_hop_attribute, FitFourOctets, message, has_attrs}

-- the length, and as many octets of the bits as hold so many
abbrev pub spelled_prefix : Cidr → List ℕ
spelled_prefix p = p.len ∷ take (octets_for p.len) (four_octets p.bits)

abbrev pub spelled_prefixes : List Cidr → List ℕ
spelled_prefixes ps = flat_map spelled_prefix ps

-- flags 40 hexadecimal and a length of one octet, or flags 50 and a length of two where one octet
-- doesn't hold it
abbrev pub spelled_attribute : Attribute → List ℕ
spelled_attribute a =
    if nat_le (length a.value) 255 then 64 ∷ a.kind ∷ length a.value ∷ a.value
    else 80 ∷ a.kind ∷ (two_octets (length a.value) ++ a.value)

-- ORIGIN, AS_PATH, NEXT_HOP
abbrev pub spelled_attrs : Option Attrs → List ℕ
spelled_attrs None = []
spelled_attrs (Some a) =
    spelled_attribute (origin_attribute a)
    ++ (spelled_attribute (as_path_attribute a) ++ spelled_attribute (next_hop_attribute a))

abbrev pub spelling : Update → List ℕ
spelling u =
    message (spelled_prefixes u.withdrawn) (spelled_attrs u.attrs) (spelled_prefixes u.announced)

-- the message has at most 4,096 octets (RFC 4271, 4.1), and announces nothing without attributes
abbrev pub fits : Update → Bool
fits u = nat_le (length (spelling u)) 4096 && has_attrs u

-- ---- what an update of the program is

-- 32 bits, and zeros after the length
pub record IsPrefix (p : Cidr) : Type 0 where
  pub bits : p.bits < 2 ^ 32
  pub is : IsCidr p

abbrev pub ArePrefixes : List Cidr → Type 0
ArePrefixes ps = AllByRecursion IsPrefix ps

-- at most 255 numbers of four octets, and an address of four
abbrev pub IsAttrs : Option Attrs → Type 0
IsAttrs None = Unit {0}
IsAttrs (Some a) = FitFourOctets a.path × (length a.path ≤ 255) × (a.next_hop < 2 ^ 32)

pub record IsUpdate (u : Update) : Type 0 where
  pub withdrawn : ArePrefixes u.withdrawn
  pub attrs : IsAttrs u.attrs
  pub announced : ArePrefixes u.announced
