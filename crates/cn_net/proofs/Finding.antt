-- What is found of a device, a peer and a link, one test after another.
use Rattle.std.proofs.Common.{◌≡◌, ℕ, ◌<◌, ◌≤◌, nat_lt, true, false, arith, Bool, List, length, map, ap, sym, subst, ◌∙◌, Option, Some, None, option_map}
use Rattle.std.specs.List.{list_any}
use Rattle.std.proofs.lemmas.Bool.{ltb-false}
use Rattle.cn_base.specs.declared.ids.DeviceId.{DeviceId}
use Rattle.cn_base.specs.declared.ids.RouterId.{RouterId}
use Rattle.cn_net.specs.Faults.{◌or_else◌, device_fault, fault_if, first_repeat, id_fault, join_fault, link_fault, many_fault, name_fault, peer_fault, same_system, unknown_fault}
use Rattle.cn_net.specs.Ends.{ends_between, same_pair}
use Rattle.cn_net.specs.Kept.{names_of}
use Rattle.cn_net.specs.Network.{same_device}
use Rattle.cn_net.specs.Numbered.{link_made, written_names}
use Rattle.cn_net.specs.Valid.{same_ends}
use Rattle.cn_net.specs.declared.device.Device.{Device}
use Rattle.cn_net.specs.declared.device.Link.{Link}
use Rattle.cn_net.specs.declared.draft.DeviceDraft.{DeviceDraft}
use Rattle.cn_net.specs.declared.draft.LinkDraft.{LinkDraft}
use Rattle.cn_net.specs.declared.draft.PeerDraft.{PeerDraft}
use Rattle.cn_net.specs.declared.fault.NetFault.{NetFault}
use Rattle.cn_net.specs.declared.fault.NetFault.TheVariants.{DuplicateLink, DuplicateOwn, DuplicatePeer, SameAs, SelfLink, TooMany}
use Rattle.cn_net.specs.declared.fault.What.{What}
use Rattle.cn_net.specs.declared.make.Ends.{Ends}
use Rattle.cn_net.proofs.First.{found, found_none, is_first, is_second, neither, not_found}
use Rattle.cn_net.proofs.Known.{peer_number}
use Rattle.cn_net.proofs.Steps.{ends_stand}

-- ---- limits

pub too_many : (what : What) (limit n m : ℕ) → n ≡ m → limit < n
    → many_fault what limit m ≡ Some (TooMany what n)
too_many what limit n m e above =
    let over : nat_lt limit m ≡ true = grind arith in
    found (nat_lt limit m) (TooMany what m) over ∙ ap (λ k. Some (TooMany what k)) (sym e)

pub few_enough : (what : What) (limit n m : ℕ) → n ≡ m → n ≤ limit → many_fault what limit m ≡ None
few_enough what limit n m e below =
    let within : nat_lt limit m ≡ false = grind arith in
    found_none (nat_lt limit m) (TooMany what m) within

pub not_many : (what : What) (limit n : ℕ) → many_fault what limit n ≡ None → n ≤ limit
not_many what limit n e = ltb-false limit n (not_found (nat_lt limit n) (TooMany what n) e)

-- ---- a device

abbrev own_fault : List DeviceDraft → DeviceDraft → Option NetFault
own_fault before x =
    option_map (DuplicateOwn (record { 0 = length before }))
    (first_repeat (map (λ o. o.prefix) x.body.own))

abbrev id_found : List DeviceDraft → DeviceDraft → Option NetFault
id_found before x = id_fault (map (λ d. d.id) before) (record { 0 = length before }) x.id

module _ (before : List DeviceDraft) (x : DeviceDraft) (names : List (List ℕ))
    (named : names ≡ written_names before) where
  pub device_named : (f : NetFault) → name_fault names x.name ≡ Some f
      → device_fault before x ≡ Some f
  device_named f e =
      is_first (name_fault (written_names before) x.name)
      (id_found before x or_else own_fault before x) f
      (subst (λ ns. name_fault ns x.name ≡ Some f) named e)

  module _ (ids : List RouterId) (number : DeviceId) (new : name_fault names x.name ≡ None)
      (so : ids ≡ map (λ d. d.id) before) (place : number.0 ≡ length before) where
    after_name : device_fault before x ≡ (id_found before x or_else own_fault before x)
    after_name =
        is_second (name_fault (written_names before) x.name)
        (id_found before x or_else own_fault before x)
        (subst (λ ns. name_fault ns x.name ≡ None) named new)

    id_is : id_found before x ≡ id_fault ids number x.id
    id_is = λ j. id_fault (sym so j) (record { 0 = sym place j }) x.id

    pub device_numbered : (f : NetFault) → id_fault ids number x.id ≡ Some f
        → device_fault before x ≡ Some f
    device_numbered f e =
        after_name ∙ is_first (id_found before x) (own_fault before x) f (id_is ∙ e)

    pub device_looked : id_fault ids number x.id ≡ None → device_fault before x
        ≡ option_map (DuplicateOwn number) (first_repeat (map (λ o. o.prefix) x.body.own))
    device_looked e =
        after_name
        ∙ is_second (id_found before x) (own_fault before x) (id_is ∙ e)
        ∙ (λ j.
        option_map (DuplicateOwn (record { 0 = sym place j }))
        (first_repeat (map (λ o. o.prefix) x.body.own)))

-- ---- a peer

module _ (names : List (List ℕ)) (device : DeviceId) (before : List PeerDraft) (p : PeerDraft) where
  abbrev stands_before : DeviceId → Bool
  stands_before peer = list_any (same_device peer) (map (peer_number names) before)

  abbrev repeat_fault : Option NetFault
  repeat_fault =
      fault_if (stands_before (peer_number names p)) (DuplicatePeer device (peer_number names p))

  pub peer_named : (f : NetFault) → unknown_fault names p.name ≡ Some f
      → peer_fault names device before p ≡ Some f
  peer_named f e = is_first (unknown_fault names p.name) repeat_fault f e

  module _ (peer : DeviceId) (numbers : List DeviceId)
      (is : peer ≡ peer_number names p) (so : numbers ≡ map (peer_number names) before)
      (borne : unknown_fault names p.name ≡ None) where
    looked : peer_fault names device before p
        ≡ fault_if (list_any (same_device peer) numbers) (DuplicatePeer device peer)
    looked =
        is_second (unknown_fault names p.name) repeat_fault borne
        ∙ (λ j.
        fault_if (list_any (same_device (sym is j)) (sym so j)) (DuplicatePeer device (sym is j)))

    pub peer_repeated : list_any (same_device peer) numbers ≡ true
        → peer_fault names device before p ≡ Some (DuplicatePeer device peer)
    peer_repeated t =
        looked ∙ found (list_any (same_device peer) numbers) (DuplicatePeer device peer) t

    pub peer_new : list_any (same_device peer) numbers ≡ false
        → peer_fault names device before p ≡ None
    peer_new f =
        looked ∙ found_none (list_any (same_device peer) numbers) (DuplicatePeer device peer) f

-- ---- a link

abbrev join_found : List Device → List LinkDraft → LinkDraft → Option NetFault
join_found devices before l =
    let made = link_made (names_of devices) in
    join_fault devices (list_any (same_ends (made l)) (map made before)) (made l)

pub link_looked : (devices : List Device) (before : List LinkDraft) (l : LinkDraft)
    (names : List (List ℕ)) (made : Link) (stands : Bool)
    → names ≡ names_of devices → unknown_fault names l.a ≡ None → unknown_fault names l.b ≡ None
    → made ≡ link_made (names_of devices) l
    → stands ≡ list_any (same_ends made) (map (link_made (names_of devices)) before)
    → link_fault devices before l ≡ join_fault devices stands made
link_looked devices before l names made stands named a b is so =
    is_second (unknown_fault (names_of devices) l.a)
    (unknown_fault (names_of devices) l.b or_else join_found devices before l)
    (subst (λ ns. unknown_fault ns l.a ≡ None) named a)
    ∙ is_second (unknown_fault (names_of devices) l.b) (join_found devices before l)
    (subst (λ ns. unknown_fault ns l.b ≡ None) named b)
    ∙ (λ j. join_fault devices
    (list_any (same_ends (sym is j)) (map (link_made (names_of devices)) before)) (sym is j))
    ∙ ap (λ t. join_fault devices t made) (sym so)

-- what the code asks of the ends of earlier links is what the definition does
pub joins_stand : (l : Link) (joined made : List Link) (keys : List Ends)
    → keys ≡ map ends_between joined → joined ≡ made
    → list_any (same_pair (ends_between l)) keys ≡ list_any (same_ends l) made
joins_stand l joined made keys ends so =
    ap (list_any (same_pair (ends_between l))) ends ∙ ends_stand l joined
    ∙ ap (list_any (same_ends l)) so

pub joined_fresh : (devices : List Device) (stands : Bool) (l : Link)
    → join_fault devices stands l ≡ None → stands ≡ false
joined_fresh devices stands l e =
    let after =
    neither (fault_if (same_device l.a l.b) (SelfLink l.a))
    (fault_if stands (DuplicateLink l.a l.b) or_else fault_if (same_system devices l)
    (SameAs l.a l.b)) e in
    not_found stands (DuplicateLink l.a l.b)
    (neither (fault_if stands (DuplicateLink l.a l.b))
    (fault_if (same_system devices l) (SameAs l.a l.b)) after.1).0
