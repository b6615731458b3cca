-- Changes of a network: what the network is after one, and the fault of one that isn't made, the
-- first in the order in which faults are looked for. The journal of an emulation is the list of the
-- changes that were made. `emulated` is the list of the emulated devices.
use Rattle.std.specs.Prelude.{◌≡◌, ℕ, ◌==◌, ◌&&◌, Bool, true, false, not, nat_lt, List, length, map, find, Option, Some, None, option_map, Result, MatchResult}
use Rattle.std.specs.List.{list_any}
use Rattle.cn_base.specs.Cidr.{same_prefix}
use Rattle.cn_base.specs.declared.ids.Asn.{Asn}
use Rattle.cn_base.specs.declared.ids.DeviceId.{DeviceId}
use Rattle.cn_change.specs.declared.change.Change.{Change}
use Rattle.cn_change.specs.declared.change.Change.TheVariants.{Cut, Reload, Reset, Restore}
use Rattle.cn_change.specs.declared.change.ChangeAnswer.{ChangeAnswer}
use Rattle.cn_change.specs.declared.change.ChangeAnswer.TheVariants.{Fault, Memory}
use Rattle.cn_change.specs.declared.change.ChangeFault.{ChangeFault}
use Rattle.cn_change.specs.declared.change.ChangeFault.TheVariants.{AlreadyDown, AlreadyUp, DuplicateOwn, DuplicatePeer, IsDown, LinkOutside, NoDevice, NoLink, NotEmulated, SameAs, TooMany}
use Rattle.cn_net.specs.Changed.{with_body, with_link}
use Rattle.cn_net.specs.Exchange.{is_up}
use Rattle.cn_net.specs.Faults.{◌or_else◌, fault_if, first_in}
use Rattle.cn_net.specs.Islands.{outside_of}
use Rattle.cn_net.specs.Limits.{most_rows, prefix_count, row_count}
use Rattle.cn_net.specs.Network.{Network, IsDevice, IsLinked, asn_of, is_linked, peers_of, same_device}
use Rattle.cn_net.specs.Valid.{IsValid}
use Rattle.cn_net.specs.declared.device.Body.{Body}
use Rattle.cn_net.specs.declared.device.Own.{Own}
use Rattle.cn_net.specs.declared.device.Peer.{Peer}
use Rattle.cn_net.specs.declared.fault.What.{What}
use Rattle.cn_net.specs.declared.fault.What.TheVariants.{Prefixes, Rows}

-- ---- the network after a change

-- a reload gives the device its new body; a cut sets the link down, a restore sets it up; a reset
-- leaves the network
abbrev pub changed : Network → Change → Network
changed net (Reload device body) = with_body net device body
changed net (Cut a b) = with_link net a b false
changed net (Restore a b) = with_link net a b true
changed net (Reset a b) = net

-- there is such a change of the network: the device is one and the network with its new body is
-- valid; the two devices are linked
abbrev pub IsPossible : Network → Change → Type 0
IsPossible net (Reload device body) = IsDevice net device × IsValid (with_body net device body)
IsPossible net (Cut a b) = IsLinked net a b
IsPossible net (Restore a b) = IsLinked net a b
IsPossible net (Reset a b) = IsLinked net a b

-- ---- numbers

-- d is the number of a device
abbrev pub is_device : Network → DeviceId → Bool
is_device net d = nat_lt d.0 (length net.devices)

-- the number isn't that of a device
abbrev pub number_fault : Network → DeviceId → Option ChangeFault
number_fault net d = fault_if (not (is_device net d)) (NoDevice d)

-- the first end isn't a device, or else the second isn't
abbrev pub ends_fault : Network → DeviceId → DeviceId → Option ChangeFault
ends_fault net a b = number_fault net a or_else number_fault net b

-- the first of the peers whose number isn't that of a device
abbrev pub unknown_peer_fault : Network → List Peer → Option ChangeFault
unknown_peer_fault net peers =
    option_map (λ p. NoDevice p.device) (find (λ p. not (is_device net p.device)) peers)

-- ---- a change of a link

-- the two aren't linked
abbrev pub link_fault : Network → DeviceId → DeviceId → Option ChangeFault
link_fault net a b = fault_if (not (is_linked net a b)) (NoLink a b)

-- neither end is emulated
abbrev pub reach_fault : List DeviceId → DeviceId → DeviceId → Option ChangeFault
reach_fault emulated a b =
    fault_if (outside_of emulated a && outside_of emulated b) (LinkOutside a b)

-- what is looked for before it counts whether the link is up: that its ends are devices, that they
-- are linked, and that one is emulated
unfoldable pub pair_fault : Network → List DeviceId → DeviceId → DeviceId → Option ChangeFault
pair_fault net emulated a b =
    ends_fault net a b or_else link_fault net a b or_else reach_fault emulated a b

-- a link that is down isn't cut
unfoldable pub cut_fault : Network → List DeviceId → DeviceId → DeviceId → Option ChangeFault
cut_fault net emulated a b =
    pair_fault net emulated a b or_else fault_if (not (is_up net a b)) (AlreadyDown a b)

-- a link that is up isn't restored
unfoldable pub restore_fault : Network → List DeviceId → DeviceId → DeviceId → Option ChangeFault
restore_fault net emulated a b =
    pair_fault net emulated a b or_else fault_if (is_up net a b) (AlreadyUp a b)

-- a session over a link that is down isn't reset
unfoldable pub reset_fault : Network → List DeviceId → DeviceId → DeviceId → Option ChangeFault
reset_fault net emulated a b =
    pair_fault net emulated a b or_else fault_if (not (is_up net a b)) (IsDown a b)

-- ---- a reload

-- the device isn't emulated
abbrev pub outside_fault : List DeviceId → DeviceId → Option ChangeFault
outside_fault emulated d = fault_if (outside_of emulated d) (NotEmulated d)

-- the least device that is linked to d, up or down, and has this AS number: the session between the
-- two wouldn't be eBGP (RFC 4271, 3)
unfoldable pub same_system_fault : Network → DeviceId → Asn → Option ChangeFault
same_system_fault net d asn =
    option_map SameAs (find (λ p. (asn_of net p).0 == asn.0) (peers_of net d))

-- the first element that one before it equals
abbrev pub first_twice : {K : Type 0} → (K → K → Bool) → List K → Option K
first_twice same keys = first_in (λ before k. fault_if (list_any (same k) before) k) keys

-- the first own prefix that stands in the list before
abbrev pub own_fault : List Own → Option ChangeFault
own_fault own = option_map DuplicateOwn (first_twice same_prefix (map (λ o. o.prefix) own))

-- the first peer that stands in the list before
abbrev pub policy_fault : List Peer → Option ChangeFault
policy_fault peers = option_map DuplicatePeer (first_twice same_device (map (λ p. p.device) peers))

abbrev pub most_prefixes : ℕ
most_prefixes = 16384

-- there are more than the limit
abbrev pub above_fault : What → ℕ → ℕ → Option ChangeFault
above_fault what limit count = fault_if (nat_lt limit count) (TooMany what count)

-- in the network there are too many distinct prefixes, or else too many rows
unfoldable pub limit_fault : Network → List DeviceId → Option ChangeFault
limit_fault net emulated =
    above_fault Prefixes most_prefixes (prefix_count net)
    or_else above_fault Rows most_rows (row_count net emulated)

-- the device is none, or a new peer isn't one; it isn't emulated; a device that is linked to it has
-- its new AS number
unfoldable pub place_fault : Network → List DeviceId → DeviceId → Body → Option ChangeFault
place_fault net emulated d body =
    number_fault net d
    or_else unknown_peer_fault net body.peers
    or_else outside_fault emulated d
    or_else same_system_fault net d body.asn

-- that, or else an own prefix twice, a peer twice, or too much of something after the reload
unfoldable pub reload_fault : Network → List DeviceId → DeviceId → Body → Option ChangeFault
reload_fault net emulated d body =
    place_fault net emulated d body
    or_else own_fault body.own
    or_else policy_fault body.peers
    or_else limit_fault (with_body net d body) emulated

-- ---- a change

-- the first fault of a change, and none where it is made
unfoldable pub fault_of : Network → List DeviceId → Change → Option ChangeFault
fault_of net emulated (Reload device body) = reload_fault net emulated device body
fault_of net emulated (Cut a b) = cut_fault net emulated a b
fault_of net emulated (Restore a b) = restore_fault net emulated a b
fault_of net emulated (Reset a b) = reset_fault net emulated a b

-- the change has no fault
abbrev pub IsAccepted : Network → List DeviceId → Change → Type 0
IsAccepted net emulated change = fault_of net emulated change ≡ None

-- the change has another body for a device
abbrev pub IsReload : Change → Type 0
IsReload (Reload device body) = Unit {0}
IsReload (Cut a b) = ⊥
IsReload (Restore a b) = ⊥
IsReload (Reset a b) = ⊥

-- a fault in an answer is the first; want of memory tells nothing of it
abbrev pub IsFirstChangeFault : Option ChangeFault → ChangeAnswer → Type 0
IsFirstChangeFault first (Fault f) = first ≡ Some f
IsFirstChangeFault first Memory = Unit {0}

-- what is answered tells of the first fault: Ok that there is none, a fault that it is the first
abbrev pub TellsFirstFault : {T : Type 0} → Option ChangeFault → Result T ChangeAnswer → Type 0
TellsFirstFault first answer = MatchResult answer (λ _. first ≡ None) (IsFirstChangeFault first)
