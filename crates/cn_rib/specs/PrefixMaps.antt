-- Maps that are made of another: one that is changed at one prefix, and one of some of its entries.
use Rattle.std.specs.Prelude.{List, [], ◌∷◌, Option, Some, None}
use Rattle.std.specs.List.{fold}
use Rattle.std.specs.FinMap.{FinMap}
use Rattle.std.specs.FinMap as fin
use Rattle.cn_base.specs.Cidr.{Cidr}
use Rattle.cn_base.specs.Table.{prefix_cmp}

-- the map with this at p, where none takes away what is there
abbrev pub put_at : {X : Type 0} → FinMap prefix_cmp X → Cidr → Option X → FinMap prefix_cmp X
put_at m p None = fin.remove m p
put_at m p (Some v) = fin.insert m p v

-- the map without these prefixes
abbrev pub remove_all : {X : Type 0} → FinMap prefix_cmp X → List Cidr → FinMap prefix_cmp X
remove_all m ps = fold fin.remove m ps

abbrev pub add_front : {Y : Type 0} → Cidr → Option Y → List (Cidr × Y) → List (Cidr × Y)
add_front p None es = es
add_front p (Some y) es = (p, y) ∷ es

-- what g gives of each entry, without those of which it gives nothing
abbrev pub picked_entries : {X Y : Type 0} → (X → Option Y) → List (Cidr × X) → List (Cidr × Y)
picked_entries g [] = []
picked_entries g (e ∷ es) = add_front e.0 (g e.1) (picked_entries g es)

-- at each prefix what g gives of what the map has there
unfoldable pub picked : {X Y : Type 0} → (X → Option Y) → FinMap prefix_cmp X → FinMap prefix_cmp Y
picked g m = fin.from_sorted (picked_entries g (fin.entries m))

-- at each prefix f of what the map has there
abbrev pub mapped : {X Y : Type 0} → (X → Y) → FinMap prefix_cmp X → FinMap prefix_cmp Y
mapped f m = picked (λ x. Some (f x)) m

-- the map with this, if there is something, for each of these prefixes
abbrev pub put_each : {X : Type 0} → FinMap prefix_cmp X → List Cidr → Option X
    → FinMap prefix_cmp X
put_each m ps None = m
put_each m ps (Some v) = fold (λ n p. fin.insert n p v) m ps
