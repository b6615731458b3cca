-- The one spelling of an address, of a prefix, of a path and of an ORIGIN, and what lines share.
use Rattle.std.specs.Prelude.{ℕ, ◌/◌, ◌%◌, codes, List, [], ◌∷◌, ◌++◌, flat_map}
use Rattle.std.specs.Fmt.{decimal}
use Rattle.cn_base.specs.Cidr.{Cidr}
use Rattle.cn_base.specs.declared.ids.Asn.{Asn}
use Rattle.cn_base.specs.declared.ids.Origin.{Origin}
use Rattle.cn_base.specs.declared.ids.Origin.TheVariants.{Igp, Egp, Incomplete}

-- the end of a line
abbrev pub newline : List ℕ
newline = 10 ∷ []

-- two names, joined by a space
abbrev pub pair_text : List ℕ → List ℕ → List ℕ
pair_text first second = first ++ codes " " ++ second

-- the four octets, joined by dots
abbrev pub address : ℕ → List ℕ
address n =
    decimal (n / 16777216) ++ codes "." ++ decimal (n / 65536 % 256) ++ codes "."
    ++ decimal (n / 256 % 256) ++ codes "." ++ decimal (n % 256)

-- an address, a slash and the length
abbrev pub prefix_text : Cidr → List ℕ
prefix_text p = address p.bits ++ codes "/" ++ decimal p.len

-- numbers, each after a space
abbrev pub further_numbers : List Asn → List ℕ
further_numbers numbers = flat_map (λ n. codes " " ++ decimal n.0) numbers

-- the numbers, joined by one space each; `-` where there are none
abbrev pub path_text : List Asn → List ℕ
path_text [] = codes "-"
path_text (n ∷ ns) = decimal n.0 ++ further_numbers ns

-- the word for an ORIGIN (RFC 4271, 5.1.1)
abbrev pub origin_text : Origin → List ℕ
origin_text Igp = codes "igp"
origin_text Egp = codes "egp"
origin_text Incomplete = codes "incomplete"
