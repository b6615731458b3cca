-- What is owed, as rows of the packing rule: they ascend, and their paths are short.
use Rattle.std.proofs.Common.{◌≡◌, ◌≤◌, List, [], ◌∷◌, length, map, Option, Some, None, refl, ap, ◌∙◌, subst}
use Rattle.std.specs.Prelude.{IfSome, T, option_map}
use Rattle.std.specs.List.{AllByRecursion}
use Rattle.std.specs.FinMap.{FinMap}
use Rattle.std.specs.FinMap as fin
use Rattle.cn_base.specs.Cidr.{Cidr}
use Rattle.cn_base.specs.Table.{prefix_cmp}
use Rattle.cn_base.specs.declared.ids.DeviceId.{DeviceId}
use Rattle.cn_base.specs.declared.route.Attributes.{Attributes}
use Rattle.cn_base.specs.declared.route.Choice.{Choice}
use Rattle.cn_rib.specs.Updates.{AdjRib}
use Rattle.cn_rib.proofs.Keyed as keyed
use Rattle.cn_pack.specs.Packing.{AreShort, Ascends}
use Rattle.cn_pack.specs.declared.owed.Owed.{Owed as Row}
use Rattle.cn_net.specs.Network.{Network}
use Rattle.cn_net.specs.Stable.{offer_of, route_of}
use Rattle.cn_net.proofs.Offering.{offer-gives, offer_of-gives}
use Rattle.cn_core.specs.Owed.{OwedMap, attributes_of, offered_attributes, owed, row_of, rows}
use Rattle.cn_core.specs.State.{LocRib}
use Rattle.cn_core.proofs.Owes.{owed_some}

-- ---- the entries of a map

module _ {X : Type 0} (Q : Cidr → X → Type 0) where
  each_found : (es : List (Cidr × X)) → T (fin.is_sorted prefix_cmp es)
      → ((p : Cidr) (v : X) → fin.find prefix_cmp p es ≡ Some v → Q p v)
      → AllByRecursion (λ e. Q e.0 e.1) es
  each_found [] s each = tt
  each_found (e ∷ es) s each = (
    each e.0 e.1 (keyed.found_first e es),
    each_found es (keyed.sorted_parts e es s).1
        (λ p v h. each p v (keyed.found_later e es p v s h)),
  )

  -- what holds of what a map has holds of its entries
  pub each_entry : (m : FinMap prefix_cmp X)
      → ((p : Cidr) (v : X) → fin.get m p ≡ Some v → Q p v)
      → AllByRecursion (λ e. Q e.0 e.1) (fin.entries m)
  each_entry m each =
      each_found (fin.entries m) (fin.entries_sorted m)
      (λ p v h. each p v (fin.get-entries m p ∙ h))

-- ---- the rows ascend

row_prefixes : (es : List (Cidr × Option Attributes))
    → map (λ (o : Row). o.prefix) (map row_of es) ≡ map (λ (e : Cidr × Option Attributes). e.0) es
row_prefixes [] = refl
row_prefixes (e ∷ es) = ap (λ ps. e.0 ∷ ps) (row_prefixes es)

-- the rows ascend by their prefixes
pub rows_ascend : (m : OwedMap) → Ascends (rows m)
unfolding rows
rows_ascend m =
    keyed.rows_ascend (λ (o : Row). o.prefix) (map row_of (fin.entries m)) m
    (row_prefixes (fin.entries m))

-- ---- the paths are short

-- the path, if there is one, has at most 255 numbers
abbrev pub IsShort : Option Attributes → Type 0
IsShort v = IfSome v (λ w. length w.path ≤ 255)

-- what is offered has a short path
pub offered_short : (net : Network) (a b : DeviceId) (p : Cidr) (o : Option Choice)
    → IsShort (offered_attributes net a b p o)
unfolding offered_attributes
offered_short net a b p o =
    elim (offer_of net a b p o) as (λ f. offer_of net a b p o ≡ f
    → IsShort (option_map attributes_of f)) [
      | None ↦ λ f. tt
      | Some x ↦ λ f.
          let h = offer_of-gives net a b p o x f in
          (offer-gives net a b (route_of p h.source) x h.offered).short
    ] refl

rows_of_short : (es : List (Cidr × Option Attributes)) → AllByRecursion (λ e. IsShort e.1) es
    → AreShort (map row_of es)
rows_of_short [] h = tt
rows_of_short (e ∷ es) h = (row_short e.1 h.0, rows_of_short es h.1)
  where
    row_short : (v : Option Attributes) → IsShort v
        → IfSome (row_of (e.0, v)).wanted (λ w. length w.0 ≤ 255)
    row_short None h = tt
    row_short (Some w) h = h

-- the paths of what is owed are short
pub owed_short : (net : Network) (a b : DeviceId) (sent : AdjRib) (best : LocRib)
    → AreShort (rows (owed net a b sent best))
unfolding rows
owed_short net a b sent best =
    rows_of_short (fin.entries (owed net a b sent best))
    (each_entry (λ p v. IsShort v) (owed net a b sent best)
    (λ p v h. subst IsShort ((owed_some net a b sent best p v).0 h).0
    (offered_short net a b p (fin.get best p))))
