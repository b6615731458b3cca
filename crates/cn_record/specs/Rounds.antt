-- Who decides in a round over a table, and when nobody decides otherwise.
use Rattle.std.specs.Prelude.{◌≡◌, ◌≢◌, ◌<◌, ◌==◌, ◌&&◌, ◌⊎◌, All, Contains, IsSome, MatchOption, Bool, true, false, not, List, [], ◌∷◌, length, Option, None, Some, slice_index_or, slice_set}
use Rattle.std.specs.List.{fold}
use Rattle.cn_base.specs.Cidr.{Cidr}
use Rattle.cn_base.specs.declared.ids.Asn.{Asn}
use Rattle.cn_base.specs.declared.ids.DeviceId.{DeviceId}
use Rattle.cn_base.specs.declared.route.Choice.{Choice}
use Rattle.cn_net.specs.Network.{Network, IsDevice, IsLinked, asn_of, own_origin}
use Rattle.cn_net.specs.OneState.{IsStableFor}
use Rattle.cn_record.specs.Places.{AddsDevices, IsInside, at_device, is_inside}
use Rattle.cn_record.specs.Tables.{decided, held_of}
use Rattle.cn_record.specs.declared.converge.Change.{Change}
use Rattle.cn_record.specs.declared.places.PrefixDevice.{PrefixDevice}

-- ---- entries of devices

-- the list of entries when those of these devices have this value
abbrev pub reset : {X : Type 0} → X → List DeviceId → List X → List X
reset value ds entries = fold (λ xs d. slice_set xs d.0 value) entries ds

-- each entry has this value
abbrev pub AreAll : {X : Type 0} → X → List X → Type 0
AreAll value entries = All (λ x. x ≡ value) entries

-- ---- who decides next

-- the path begins with n
abbrev pub begins_with : List Asn → Asn → Bool
begins_with [] n = false
begins_with (x ∷ path) n = x.0 == n.0

-- b can't use what a neighbour offers that holds this: the neighbour holds nothing, or a path that
-- begins with b's AS number, which then stands in what is offered too (RFC 4271, 9.1.2)
abbrev pub is_deaf : Network → DeviceId → Option Choice → Bool
is_deaf net b None = true
is_deaf net b (Some c) = begins_with c.path (asn_of net b)

-- b is of the island i, and may decide otherwise where a neighbour that held before holds after
abbrev pub is_woken : Network → (DeviceId → Option DeviceId) → DeviceId → Option Choice
    → Option Choice → DeviceId → Bool
is_woken net label i before after b =
    not (is_deaf net b before && is_deaf net b after) && is_inside label i b

-- new has what old has, and those neighbours of d that may decide otherwise where d held before and
-- holds after
abbrev pub Wakes : Network → (DeviceId → Option DeviceId) → DeviceId → DeviceId → Option Choice
    → Option Choice → List DeviceId → List DeviceId → Type 0
Wakes net label i d before after old new =
    AddsDevices (λ b. IsLinked net d b × (is_woken net label i before after b ≡ true))
    (IsInside net label i) old new

-- each device of the island i that originates p stands in the list
abbrev pub HasIslandOriginators : Network → (DeviceId → Option DeviceId) → DeviceId → Cidr
    → List PrefixDevice → Type 0
HasIslandOriginators net label i p list =
    (d : DeviceId) → IsInside net label i d → IsSome (own_origin net d p)
    → Contains list (at_device d p)

-- each device that is marked stands in the list
abbrev pub AreMarked : List Bool → List DeviceId → Type 0
AreMarked marks list =
    (d : DeviceId) → d.0 < length marks → slice_index_or marks d.0 false ≡ true → Contains list d

-- each device of the island i holds what it decides, but for those that wait
abbrev pub RestsBut : Network → (DeviceId → Option DeviceId) → DeviceId → Cidr
    → List (Option Choice) → List DeviceId → Type 0
RestsBut net label i p table waiting =
    (d : DeviceId) → IsDevice net d → label d ≡ Some i
    → Contains waiting d ⊎ (decided net p table d ≡ held_of table d p)

-- each device that holds something stands in the list
abbrev pub AreHolders : Network → Cidr → List (Option Choice) → List DeviceId → Type 0
AreHolders net p table list =
    (d : DeviceId) → IsDevice net d → (held_of table d p ≡ None) ⊎ Contains list d

-- an entry's new value, what it was before where the two differ
abbrev pub TellsChange : Option Choice → Option Choice → Option Change → Type 0
TellsChange old new change =
    MatchOption change (old ≡ new) (λ c. (c.before ≡ old) × (old ≢ new))

-- ---- when nobody decides otherwise

-- these devices hold their best of what they offer each other, and the others hold nothing
pub record IsFixpoint (net : Network) (s : DeviceId → Bool) (p : Cidr)
    (table : List (Option Choice)) : Type 0 where
  pub size : length table ≡ length net.devices
  pub others : (d : DeviceId) → IsDevice net d → s d ≡ false → held_of table d p ≡ None
  pub stable : IsStableFor net s p (held_of table)

-- the island i is at a fixpoint, and the list has each of its devices that hold something, and no
-- device of another island
pub record IsConverged (net : Network) (label : DeviceId → Option DeviceId) (i : DeviceId)
    (p : Cidr) (table : List (Option Choice)) (list : List DeviceId) : Type 0 where
  pub fixpoint : IsFixpoint net (is_inside label i) p table
  pub holders : AreHolders net p table list
  pub inside : All (IsInside net label i) list
