-- Sets of prefixes, in the order of prefixes.
use Rattle.std.specs.Prelude.{◌≡◌, Bool, true, false, List, Option, Some, slice_get}
use Rattle.std.specs.List.{fold}
use Rattle.std.specs.FinMap.{FinMap}
use Rattle.std.specs.FinMap as fin
use Rattle.std.specs.declared.cmp.Ordering.TheVariants.{Less}
use Rattle.cn_base.specs.Cidr.{Cidr, same_prefix}
use Rattle.cn_base.specs.Table.{prefix_cmp}

-- the keys of a map to nothing: they stand in an order that can be read
abbrev pub PrefixSet : Type 0
PrefixSet = FinMap prefix_cmp (Unit {0})

-- the set with no prefix
abbrev pub empty : PrefixSet
empty = fin.empty

-- p is in the set
abbrev pub contains : PrefixSet → Cidr → Bool
contains s p = fin.contains_key s p

-- the set with p
abbrev pub insert : PrefixSet → Cidr → PrefixSet
insert s p = fin.insert s p tt

-- the set without p
abbrev pub remove : PrefixSet → Cidr → PrefixSet
remove s p = fin.remove s p

-- the set with each of these
abbrev pub insert_all : PrefixSet → List Cidr → PrefixSet
insert_all s ps = fold insert s ps

-- the least prefix of the set
abbrev pub least : PrefixSet → Option Cidr
least s = slice_get (fin.keys s) 0

-- the least prefix of a set is in it, and stands before each other prefix of it
abbrev pub LeastLaw : Type 0
LeastLaw =
    (s : PrefixSet) (p : Cidr) → least s ≡ Some p
    → (contains s p ≡ true)
    × ((q : Cidr) → contains s q ≡ true → same_prefix q p ≡ false → prefix_cmp p q ≡ Less)
