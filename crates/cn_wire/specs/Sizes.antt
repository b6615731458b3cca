-- The room that prefixes take in a message.
use Rattle.std.specs.Prelude.{ℕ, ◌-◌, nat_le, List, [], ◌∷◌, length, Option, Some, None, if◌then◌else◌}
use Rattle.cn_base.specs.Cidr.{Cidr}
use Rattle.cn_wire.specs.Writing.{spelled_prefix}

-- what is left of the room, where it holds the prefixes
abbrev pub room_after : ℕ → List Cidr → Option ℕ
room_after room [] = Some room
room_after room (p ∷ ps) =
    if nat_le (length (spelled_prefix p)) room then room_after (room - length (spelled_prefix p)) ps
    else None

-- as many of the first prefixes as the room holds; the first that it doesn't hold ends them
abbrev pub longest_prefix_within : ℕ → List Cidr → List Cidr
longest_prefix_within room [] = []
longest_prefix_within room (p ∷ ps) =
    if nat_le (length (spelled_prefix p)) room
    then p ∷ longest_prefix_within (room - length (spelled_prefix p)) ps else []
