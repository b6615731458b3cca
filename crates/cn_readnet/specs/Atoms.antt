-- What a device originates, and an entry of a prefix list, as they are written: unlike the other
-- atoms of a text, these have more than one spelling.
use Rattle.std.specs.Prelude.{ℕ, ◌+◌, ◌==◌, Bool, true, false, ◌&&◌, nat_eq, nat_le, if◌then◌else◌, codes, List, [], ◌∷◌, length, drop, Option, Some, None, ok_or, Result, Ok, Err}
use Rattle.std.specs.List.{starts_with}
use Rattle.cn_lists.specs.Steps.{◌>>=◌}
use Rattle.cn_base.specs.Cidr.{Cidr}
use Rattle.cn_base.specs.Entry.{EntryValue, entry_with}
use Rattle.cn_base.specs.declared.ids.Origin.{Origin}
use Rattle.cn_base.specs.declared.ids.Origin.TheVariants.{Igp}
use Rattle.cn_net.specs.declared.device.Own.{Own}
use Rattle.cn_text.specs.Atoms.{origin_of, prefix_at, whole}
use Rattle.cn_text.specs.Number.{number_at}
use Rattle.cn_text.specs.declared.number.Bad.{Bad}

-- ---- what a device originates

-- the ORIGIN behind a prefix, after one space, and igp where nothing stands there (RFC 4271, 5.1.1)
abbrev pub origin_behind : List ℕ → Option Origin
origin_behind [] = Some Igp
origin_behind (b ∷ bs) = if b == 32 then origin_of bs else None

abbrev pub own_with : Cidr → Option Origin → Option Own
own_with p None = None
own_with p (Some origin) = Some (record { prefix = p; origin = origin })

abbrev pub own_behind : List ℕ → Result (Cidr × ℕ) Bad → Option Own
own_behind text (Ok p) = own_with p.0 (origin_behind (drop p.1 text))
own_behind text (Err e) = None

-- a prefix, or a prefix, one space and an ORIGIN
abbrev pub own_of : List ℕ → Option Own
own_of text = own_behind text (prefix_at text 0)

-- ---- entries of prefix lists

-- whether an entry permits what it matches, and the place after that word and a space
abbrev pub action_at : List ℕ → Result (Bool × ℕ) Bad
action_at text =
    if starts_with nat_eq text (codes "permit ") then Ok (true, 7)
    else if starts_with nat_eq text (codes "deny ") then Ok (false, 5)
    else Err (record { at = 0 })

-- the length after a word that may stand at a place, none where it doesn't, and the place after it
abbrev pub length_after : List ℕ → ℕ → List ℕ → Bool → Result (Option ℕ × ℕ) Bad
length_after text at word true = do
  n ← number_at text (at + length word) 32
  Ok (Some n.0, n.1)
length_after text at word false = Ok (None, at)

abbrev pub length_at : List ℕ → ℕ → List ℕ → Result (Option ℕ × ℕ) Bad
length_at text at word = length_after text at word (starts_with nat_eq (drop at text) word)

-- The least and the greatest length that an entry matches. Without `ge` and `le` both are the
-- length of its prefix; `ge` alone has no upper end, and `le` alone begins at the prefix's length.
abbrev pub lengths : ℕ → Option ℕ → Option ℕ → ℕ × ℕ
lengths len None None = (len, len)
lengths len (Some ge) None = (ge, 32)
lengths len None (Some le) = (len, le)
lengths len (Some ge) (Some le) = (ge, le)

-- the entry with these lengths, which lie between the length of its prefix and 32 and don't cross
abbrev pub entry_within : Bool → Cidr → ℕ × ℕ → Option EntryValue
entry_within permit p between =
    if nat_le p.len between.0 && (nat_le between.0 between.1 && nat_le between.1 32)
    then Some (entry_with permit p between.0 between.1) else None

-- `permit` or `deny`, one space and a prefix, then ` ge ` and a length or nothing, then ` le ` and
-- a length or nothing; and the place after it
unfoldable pub entry_at : List ℕ → Result (EntryValue × ℕ) Bad
entry_at text = do
  action ← action_at text
  p ← prefix_at text action.1
  ge ← length_at text p.1 (codes " ge ")
  le ← length_at text ge.1 (codes " le ")
  entry ← ok_or (entry_within action.0 p.0 (lengths p.0.len ge.0 le.0)) (record { at = 0 })
  Ok (entry, le.1)

-- the entry that a text is as a whole
abbrev pub entry_of : List ℕ → Option EntryValue
entry_of text = whole text (entry_at text)
