-- The packing rule: what a session owes, as one UPDATE message at a time (RFC 4271, 4.3 and 9.2).
use Rattle.std.specs.Prelude.{ℕ, ◌≡◌, ◌<◌, ◌≤◌, take, ◌-◌, ◌==◌, ◌&&◌, Bool, true, false, is_none, IfSome, List, [], ◌∷◌, length, map, filter, Option, Some, None}
use Rattle.std.specs.Cmp.Lexicographic.{pointwise}
use Rattle.std.specs.List.{AllByRecursion}
use Rattle.std.specs.List.Sorted.{IsStrictlySortedBy}
use Rattle.std.specs.Ordering.{on}
use Rattle.cn_base.specs.Cidr.{Cidr}
use Rattle.cn_base.specs.Rank.{origin_code}
use Rattle.cn_base.specs.Table.{prefix_cmp}
use Rattle.cn_base.specs.declared.ids.Asn.{Asn}
use Rattle.cn_base.specs.declared.ids.Origin.{Origin}
use Rattle.cn_wire.specs.Sizes.{longest_prefix_within}
use Rattle.cn_wire.specs.Writing.{fits, spelled_attrs}
use Rattle.cn_wire.specs.declared.update.Attrs.{Attrs}
use Rattle.cn_wire.specs.declared.update.Update.{Update}
use Rattle.cn_pack.specs.declared.owed.Owed.{Owed}

-- each prefix is above those before it
abbrev pub Ascends : List Owed → Type 0
Ascends owed = IsStrictlySortedBy (on (λ o. o.prefix) prefix_cmp) owed

-- each path has at most 255 numbers
abbrev pub AreShort : List Owed → Type 0
AreShort owed = AllByRecursion (λ o. IfSome o.wanted (λ w. length w.0 ≤ 255)) owed

-- ---- what is said in one message

-- the prefixes that are to be withdrawn, in their order
abbrev pub withdrawals : List Owed → List Cidr
withdrawals owed = map (λ o. o.prefix) (filter (λ o. is_none o.wanted) owed)

abbrev pub same_numbers : List Asn → List Asn → Bool
same_numbers p q = pointwise (λ a b. a.0 == b.0) p q

abbrev pub is_same : List Asn → Origin → Option (List Asn × Origin) → Bool
is_same path origin None = false
is_same path origin (Some w) = same_numbers path w.0 && (origin_code origin == origin_code w.1)

-- to be announced with this path and this ORIGIN
abbrev pub wants : List Asn → Origin → Owed → Bool
wants path origin o = is_same path origin o.wanted

-- the prefixes that are to be announced with this path and this ORIGIN, in their order
abbrev pub likewise : List Asn → Origin → List Owed → List Cidr
likewise path origin owed = map (λ o. o.prefix) (filter (wants path origin) owed)

-- ---- the rule

-- the update that withdraws these, and the one that announces these
abbrev pub withdrawing : List Cidr → Update
withdrawing ps = record { withdrawn = ps; attrs = None; announced = [] }

abbrev pub announcing : Attrs → List Cidr → Update
announcing a ps = record { withdrawn = []; attrs = Some a; announced = ps }

-- the update says as many of the first prefixes as fit: it fits, and with more of them it doesn't
pub record IsFullest (saying : List Cidr → Update) (ps : List Cidr) (u : Update) : Type 0 where
  pub count : ℕ
  pub within : count ≤ length ps
  pub says : u ≡ saying (take count ps)
  pub held : fits u ≡ true
  pub more : (j : ℕ) → count < j → j ≤ length ps → fits (saying (take j ps)) ≡ false

-- all of these are to be announced: the first is, and those with its path and its ORIGIN
abbrev pub IsAnnounced : Option (List Asn × Origin) → List Owed → ℕ → Update → Type 0
IsAnnounced None owed next_hop u = ⊥
IsAnnounced (Some w) owed next_hop u =
    IsFullest (announcing (record { origin = w.1; path = w.0; next_hop = next_hop }))
    (likewise w.0 w.1 owed) u

abbrev pub IsPackedBy : List Cidr → List Owed → ℕ → Update → Type 0
IsPackedBy (p ∷ ps) owed next_hop u = IsFullest withdrawing (p ∷ ps) u
IsPackedBy [] (o ∷ os) next_hop u = IsAnnounced o.wanted (o ∷ os) next_hop u
IsPackedBy [] [] next_hop u = ⊥

-- The message withdraws where a withdrawal is owed, and else announces. Where nothing is owed,
-- there is none.
abbrev pub IsPacked : List Owed → ℕ → Update → Type 0
IsPacked owed next_hop u = IsPackedBy (withdrawals owed) owed next_hop u

-- ---- the same, computed

abbrev pub nothing : Update
nothing = record { withdrawn = []; attrs = None; announced = [] }

abbrev pub announced_by : Option (List Asn × Origin) → List Owed → ℕ → Update
announced_by None owed next_hop = nothing
announced_by (Some w) owed next_hop =
    announcing (record { origin = w.1; path = w.0; next_hop = next_hop })
    (longest_prefix_within (4073
    - length (spelled_attrs (Some (record { origin = w.1; path = w.0; next_hop = next_hop }))))
    (likewise w.0 w.1 owed))

abbrev pub packed_by : List Cidr → List Owed → ℕ → Update
packed_by (p ∷ ps) owed next_hop = withdrawing (longest_prefix_within 4073 (p ∷ ps))
packed_by [] (o ∷ os) next_hop = announced_by o.wanted (o ∷ os) next_hop
packed_by [] [] next_hop = nothing

-- a message has room for 4,073 octets beside its header and the lengths of its first two parts
abbrev pub packed : List Owed → ℕ → Update
packed owed next_hop = packed_by (withdrawals owed) owed next_hop
