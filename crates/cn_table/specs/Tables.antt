-- What is read from a table of a text, and where its faults stand.
-- `front` is what stands before a key in its path: nothing at the top, and else the table's path
-- and a dot.
use Rattle.std.specs.Prelude.{ℕ, suc, ℤ, pos, negsuc, ◌&&◌, nat_le, if◌then◌else◌, codes, List, [], ◌∷◌, ◌++◌, map, Option, Some, None, ok_or, Result, Ok, Err}
use Rattle.std.specs.Fmt.{decimal}
use Rattle.std.specs.List.{list_any}
use Rattle.std.specs.Str.{bytes_eq}
use Rattle.cn_base.specs.Name.{name_of}
use Rattle.cn_base.specs.Cidr.{Cidr}
use Rattle.cn_base.specs.declared.ids.Asn.{Asn}
use Rattle.cn_base.specs.declared.ids.Origin.{Origin}
use Rattle.cn_text.specs.Atoms.{address_of, prefix_of, path_of, origin_of}
use Rattle.cn_text.specs.declared.answer.TextAnswer.{TextAnswer}
use Rattle.cn_text.specs.declared.answer.TextAnswer.TheVariants.{Key, Shape, Value}
use Rattle.cn_lists.specs.Steps.{◌>>=◌}
use Rattle.toml.specs.Data.{Data, Items, no_items, item, Members, no_members, member, get_member, as_str, as_integer, as_array, as_table}

-- the path of an item of an array, and the front of the keys of a table
abbrev pub item_path : List ℕ → ℕ → List ℕ
item_path path i = path ++ codes "[" ++ decimal i ++ codes "]"

abbrev pub front_of : List ℕ → List ℕ
front_of path = path ++ codes "."

-- the value of a key that must be there
abbrev pub needed : List ℕ → List ℕ → Members → Result Data TextAnswer
needed front key ms = ok_or (get_member key ms) (Key (front ++ key))

abbrev pub text_of : List ℕ → Data → Result (List ℕ) TextAnswer
text_of path d = ok_or (as_str d) (Shape path)

abbrev pub integer_of : List ℕ → Data → Result ℤ TextAnswer
integer_of path d = ok_or (as_integer d) (Shape path)

abbrev pub table_of : List ℕ → Data → Result Members TextAnswer
table_of path d = ok_or (as_table d) (Shape path)

-- the name that a string is
unfoldable pub name_in : List ℕ → Data → Result (List ℕ) TextAnswer
name_in path d = do
  text ← text_of path d
  ok_or (name_of text) (Value path)

unfoldable pub name_at : List ℕ → List ℕ → Members → Result (List ℕ) TextAnswer
name_at front key ms = do
  d ← needed front key ms
  name_in (front ++ key) d

-- the name at a key that may be absent
abbrev pub name_if_in : List ℕ → Option Data → Result (Option (List ℕ)) TextAnswer
name_if_in path None = Ok None
name_if_in path (Some d) = do
  name ← name_in path d
  Ok (Some name)

unfoldable pub name_if_at : List ℕ → List ℕ → Members → Result (Option (List ℕ)) TextAnswer
name_if_at front key ms = name_if_in (front ++ key) (get_member key ms)

-- the address that a string is as a whole
unfoldable pub address_in : List ℕ → Data → Result ℕ TextAnswer
address_in path d = do
  text ← text_of path d
  ok_or (address_of text) (Value path)

unfoldable pub address_at : List ℕ → List ℕ → Members → Result ℕ TextAnswer
address_at front key ms = do
  d ← needed front key ms
  address_in (front ++ key) d

-- the prefix that a string is as a whole
unfoldable pub prefix_in : List ℕ → Data → Result Cidr TextAnswer
prefix_in path d = do
  text ← text_of path d
  ok_or (prefix_of text) (Value path)

unfoldable pub prefix_at : List ℕ → List ℕ → Members → Result Cidr TextAnswer
prefix_at front key ms = do
  d ← needed front key ms
  prefix_in (front ++ key) d

-- the path of AS numbers that a string is as a whole
unfoldable pub path_at : List ℕ → List ℕ → Members → Result (List Asn) TextAnswer
path_at front key ms = do
  d ← needed front key ms
  text ← text_of (front ++ key) d
  ok_or (path_of text) (Value (front ++ key))

-- the ORIGIN that a string is as a whole
unfoldable pub origin_at : List ℕ → List ℕ → Members → Result Origin TextAnswer
origin_at front key ms = do
  d ← needed front key ms
  text ← text_of (front ++ key) d
  ok_or (origin_of text) (Value (front ++ key))

-- an integer from low to high
abbrev pub number_within : ℕ → ℕ → ℤ → Option ℕ
number_within low high (pos n) = if nat_le low n && nat_le n high then Some n else None
number_within low high (negsuc n) = None

unfoldable pub number_at : ℕ → ℕ → List ℕ → List ℕ → Members → Result ℕ TextAnswer
number_at low high front key ms = do
  d ← needed front key ms
  z ← integer_of (front ++ key) d
  ok_or (number_within low high z) (Value (front ++ key))

-- an array, which is empty where the key is absent
abbrev pub items_in : List ℕ → Option Data → Result Items TextAnswer
items_in path None = Ok no_items
items_in path (Some d) = ok_or (as_array d) (Shape path)

unfoldable pub array_at : List ℕ → List ℕ → Members → Result Items TextAnswer
array_at front key ms = items_in (front ++ key) (get_member key ms)

-- each item of an array, from that place on
unfoldable pub each : {A : Type 0} → (List ℕ → Data → Result A TextAnswer) → List ℕ → ℕ → Items
    → Result (List A) TextAnswer
each read path i no_items = Ok []
each read path i (item d ds) = do
  first ← read (item_path path i) d
  others ← each read path (suc i) ds
  Ok (first ∷ others)

-- a byte as a path shows it
abbrev pub shown : ℕ → ℕ
shown b = if nat_le 0x21 b && nat_le b 0x7E then b else 63

-- The first key that isn't listed. It is the least in the order of the keys' bytes (Order.antt),
-- since the members of a table stand in that order: they are the entries of an ordered map. The
-- laws `keys_ascend` and `unlisted_is_least` say so.
unfoldable pub unlisted : List (List ℕ) → Members → Option (List ℕ)
unlisted listed no_members = None
unlisted listed (member k d ms) =
    if list_any (bytes_eq k) listed then unlisted listed ms else Some k

abbrev pub no_key : List ℕ → Option (List ℕ) → Result (Unit {0}) TextAnswer
no_key front None = Ok tt
no_key front (Some k) = Err (Key (front ++ map shown k))

-- the table has the listed keys alone
abbrev pub only : List ℕ → List (List ℕ) → Members → Result (Unit {0}) TextAnswer
only front listed ms = no_key front (unlisted listed ms)
