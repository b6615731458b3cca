-- The fault of a draft: the first, in the order in which faults are looked for, or none.
use Rattle.std.specs.Prelude.{◌≡◌, ℕ, ◌++◌, ◌==◌, Bool, not, nat_lt, if◌then◌else◌, List, [], ◌∷◌, length, map, flat_map, Option, Some, None, option_map, position, Result, MatchResult}
use Rattle.std.specs.List.{list_any}
use Rattle.std.specs.Option.{option_or}
use Rattle.std.specs.Set.{distinct_count}
use Rattle.std.specs.Str.{bytes_eq}
use Rattle.cn_base.specs.Cidr.{Cidr, same_prefix}
use Rattle.cn_base.specs.declared.ids.DeviceId.{DeviceId}
use Rattle.cn_base.specs.declared.ids.RouterId.{RouterId}
use Rattle.cn_net.specs.Kept.{names_of}
use Rattle.cn_net.specs.Network.{Network, asn_of, same_device}
use Rattle.cn_net.specs.Numbered.{device_made, link_made, number_in, written_names}
use Rattle.cn_net.specs.Valid.{same_ends, same_router}
use Rattle.cn_net.specs.declared.device.Device.{Device}
use Rattle.cn_net.specs.declared.device.Link.{Link}
use Rattle.cn_net.specs.declared.draft.DeviceDraft.{DeviceDraft}
use Rattle.cn_net.specs.declared.draft.Draft.{Draft}
use Rattle.cn_net.specs.declared.draft.LinkDraft.{LinkDraft}
use Rattle.cn_net.specs.declared.draft.PeerDraft.{PeerDraft}
use Rattle.cn_net.specs.declared.fault.NetAnswer.{NetAnswer}
use Rattle.cn_net.specs.declared.fault.NetAnswer.TheVariants.{Fault, Memory}
use Rattle.cn_net.specs.declared.fault.NetFault.{NetFault}
use Rattle.cn_net.specs.declared.fault.NetFault.TheVariants.{TooMany, DuplicateName, DuplicateId, DuplicateOwn, UnknownName, DuplicatePeer, SelfLink, DuplicateLink, SameAs}
use Rattle.cn_net.specs.declared.fault.What.{What}
use Rattle.cn_net.specs.declared.fault.What.TheVariants.{Devices, Links, Prefixes}

-- ---- the first fault

infixr 5 ◌or_else◌
-- the first of two, where there is one
abbrev pub ◌or_else◌ : {F : Type 0} → Option F → Option F → Option F
x or_else y = option_or x y

-- a fault where a test finds it
abbrev pub fault_if : {F : Type 0} → Bool → F → Option F
fault_if found fault = if found then Some fault else None

-- the first fault of the elements of a list, each looked at with those before it
abbrev pub first_from : {X F : Type 0} → (List X → X → Option F) → List X → List X → Option F
first_from fault before [] = None
first_from fault before (x ∷ xs) = fault before x or_else first_from fault (before ++ x ∷ []) xs

-- the same from the front of the list
abbrev pub first_in : {X F : Type 0} → (List X → X → Option F) → List X → Option F
first_in fault xs = first_from fault [] xs

-- ---- limits

-- there are more than the limit
abbrev pub many_fault : What → ℕ → ℕ → Option NetFault
many_fault what limit count = fault_if (nat_lt limit count) (TooMany what count)

-- the numbers of devices and of links
abbrev pub parts_fault : ℕ → ℕ → Option NetFault
parts_fault devices links = many_fault Devices 4096 devices or_else many_fault Links 16384 links

-- the number of distinct prefixes
abbrev pub prefixes_fault : List DeviceDraft → Option NetFault
prefixes_fault devices =
    let prefixes = flat_map (λ d. map (λ o. o.prefix) d.body.own) devices in
    many_fault Prefixes 16384 (distinct_count same_prefix prefixes)

-- ---- a device, and those before it

-- one before it has its name
abbrev pub name_fault : List (List ℕ) → List ℕ → Option NetFault
name_fault names name = fault_if (list_any (bytes_eq name) names) (DuplicateName name)

-- one before it has its router id, and the first of these is told
abbrev pub id_fault : List RouterId → DeviceId → RouterId → Option NetFault
id_fault ids number id =
    option_map (λ a. DuplicateId (record { 0 = a }) number) (position (same_router id) ids)

-- the first of the prefixes that one before it equals
abbrev pub first_repeat : List Cidr → Option Cidr
first_repeat prefixes = first_in (λ before p. fault_if (list_any (same_prefix p) before) p) prefixes

abbrev pub device_fault : List DeviceDraft → DeviceDraft → Option NetFault
device_fault before d =
    let number : DeviceId = record { 0 = length before } in
    name_fault (written_names before) d.name
    or_else id_fault (map (λ e. e.id) before) number d.id
    or_else option_map (DuplicateOwn number) (first_repeat (map (λ o. o.prefix) d.body.own))

-- ---- the peers of a device

-- no device bears the name
abbrev pub unknown_fault : List (List ℕ) → List ℕ → Option NetFault
unknown_fault names name = fault_if (not (list_any (bytes_eq name) names)) (UnknownName name)

-- no device bears the peer's name; or one before it in the list is the same device
abbrev pub peer_fault : List (List ℕ) → DeviceId → List PeerDraft → PeerDraft → Option NetFault
peer_fault names device before p =
    let peer = number_in names p.name in
    let stands = list_any (same_device peer) (map (λ q. number_in names q.name) before) in
    unknown_fault names p.name or_else fault_if stands (DuplicatePeer device peer)

-- the first of its peers' faults
abbrev pub peers_fault : List (List ℕ) → List DeviceDraft → DeviceDraft → Option NetFault
peers_fault names before d = first_in (peer_fault names (record { 0 = length before })) d.body.peers

-- ---- a link, and those before it

-- the ends of a link have one AS number
abbrev pub same_system : List Device → Link → Bool
same_system devices l =
    let net : Network = record { devices = devices; links = [] } in
    (asn_of net l.a).0 == (asn_of net l.b).0

-- its ends are one device; or a link before it has its ends; or their AS numbers are equal
abbrev pub join_fault : List Device → Bool → Link → Option NetFault
join_fault devices stands l =
    fault_if (same_device l.a l.b) (SelfLink l.a)
    or_else fault_if stands (DuplicateLink l.a l.b)
    or_else fault_if (same_system devices l) (SameAs l.a l.b)

abbrev pub link_fault : List Device → List LinkDraft → LinkDraft → Option NetFault
link_fault devices before l =
    let names = names_of devices in
    let made = link_made names in
    unknown_fault names l.a
    or_else unknown_fault names l.b
    or_else join_fault devices (list_any (same_ends (made l)) (map made before)) (made l)

-- ---- a draft

-- too many devices or links; a device's fault; too many prefixes; a peer's fault; a link's fault
unfoldable pub fault_of : Draft → Option NetFault
fault_of draft =
    let names = written_names draft.devices in
    parts_fault (length draft.devices) (length draft.links)
    or_else first_in device_fault draft.devices
    or_else prefixes_fault draft.devices
    or_else first_in (peers_fault names) draft.devices
    or_else first_in (link_fault (map (device_made names) draft.devices)) draft.links

-- a fault in an answer is the first; want of memory tells nothing of it
abbrev pub IsFirstNetFault : Option NetFault → NetAnswer → Type 0
IsFirstNetFault first (Fault f) = first ≡ Some f
IsFirstNetFault first Memory = Unit {0}

-- what is answered tells of the first fault: Ok that there is none, a fault that it is the first
abbrev pub TellsFirst : {T : Type 0} → Option NetFault → Result T NetAnswer → Type 0
TellsFirst first answer = MatchResult answer (λ _. first ≡ None) (IsFirstNetFault first)
