-- Where no fault is found, the draft stands for a valid network; and where it does, none is.
use Rattle.std.proofs.Common.{◌≡◌, ◌≢◌, ℕ, ◌+◌, ◌<◌, ◌≤◌, Bool, true, false, not, List, [], ◌∷◌, ◌++◌, length, get_or, map, take, refl, sym, ◌∙◌, ap, subst, arith, inl, inr, position, option_map, Option, Some, None, nat_lt, cond}
use Rattle.std.specs.Cmp.{IsEquivalence}
use Rattle.std.specs.List.{All, IsDistinct, list_any, position_or_len}
use Rattle.std.specs.Str.{bytes_eq}
use Rattle.std.proofs.Math.Seq.{get_or-append_seam, take-append_seam}
use Rattle.std.proofs.lemmas.Bool.{cases_Bool, eqb-false, false_from_ne_true, ne_eqb, ltb-false, ltb-true, true≢false}
use Rattle.std.proofs.lemmas.Cmp.{nat_list_eq_equiv}
use Rattle.std.proofs.lemmas.List.{length-append, length-map, map-append}
use Rattle.std.proofs.lemmas.List.Elements.{All-get_or, All-nil, All-push}
use Rattle.std.proofs.lemmas.List.Sums.{prefix_len-le-length}
use Rattle.std.proofs.lemmas.Map.Keys.{IsDistinct-push}
use Rattle.cn_base.specs.Cidr.{Cidr, same_prefix}
use Rattle.cn_base.specs.declared.ids.DeviceId.{DeviceId}
use Rattle.cn_net.specs.Faults.{◌or_else◌, device_fault, fault_if, first_in, first_repeat, id_fault, join_fault, link_fault, name_fault, unknown_fault, same_system}
use Rattle.cn_net.specs.Kept.{names_of}
use Rattle.cn_net.specs.Network.{Network, asn_of, same_device}
use Rattle.cn_net.specs.Numbered.{link_made, place_of, written_names}
use Rattle.cn_net.specs.Valid.{JoinsDevices, same_ends, same_router}
use Rattle.cn_net.specs.declared.device.Device.{Device}
use Rattle.cn_net.specs.declared.device.Link.{Link}
use Rattle.cn_net.specs.declared.draft.DeviceDraft.{DeviceDraft}
use Rattle.cn_net.specs.declared.draft.LinkDraft.{LinkDraft}
use Rattle.cn_net.specs.declared.fault.NetFault.{NetFault}
use Rattle.cn_net.specs.declared.fault.NetFault.TheVariants.{DuplicateId, DuplicateLink, DuplicateName, DuplicateOwn, SameAs, SelfLink, UnknownName}
use Rattle.cn_net.proofs.First.{built, faultless, found_none, is_second, neither, not_found}
use Rattle.cn_net.proofs.Keys.{equivalence, not_distinct, same_prefix-Decides, same_router-Decides}
use Rattle.cn_net.proofs.Places.{no_place, unplaced}
use Rattle.cn_net.proofs.Steps.{same_ends-laws}

-- ---- what a network has where no fault is found

-- no prefix twice in one device
abbrev pub ListsOwnOnce : DeviceDraft → Type 0
ListsOwnOnce d = IsDistinct same_prefix (map (λ o. o.prefix) d.body.own)

-- distinct names and router ids, and no prefix twice in one device
pub record AreDistinct (devices : List DeviceDraft) : Type 0 where
  pub names : IsDistinct bytes_eq (written_names devices)
  pub ids : IsDistinct same_router (map (λ d. d.id) devices)
  pub own : All ListsOwnOnce devices

-- l joins two of these devices
abbrev pub JoinsAmong : List Device → Link → Type 0
JoinsAmong devices l = JoinsDevices (record { devices = devices; links = [] }) l

-- each of the links joins two of the devices, and no two have the same ends
pub record AreJoined (devices : List Device) (links : List Link) : Type 0 where
  pub ends : All (JoinsAmong devices) links
  pub one_link : IsDistinct same_ends links

-- ---- keys

-- among distinct keys, none before a key is equal to it
fresh : {K : Type 0} {eq : K → K → Bool} → IsEquivalence eq
    → (before : List K) (x : K) (after : List K) → IsDistinct eq (before ++ x ∷ after)
    → list_any (eq x) before ≡ false
fresh {eq} laws before x after distinct =
    let xs = before ++ x ∷ after in
    let at : get_or xs (length before) x ≡ x = get_or-append_seam before x after x in
    let front : take (length before) xs ≡ before = take-append_seam before (x ∷ after) in
    let within : length before < length xs = omega (arith, length-append before (x ∷ after)) in
    false_from_ne_true (list_any (eq x) before) (λ t.
    not_distinct laws xs (length before) x within ((λ j. list_any (eq (at j)) (front j)) ∙ t)
    distinct)

pub fresh_key : {X K : Type 0} {eq : K → K → Bool} → IsEquivalence eq
    → (f : X → K) (before : List X) (x : X) (after : List X)
    → IsDistinct eq (map f (before ++ x ∷ after)) → list_any (eq (f x)) (map f before) ≡ false
fresh_key {eq} laws f before x after distinct =
    fresh laws (map f before) (f x) (map f after)
    (subst (λ ks. IsDistinct eq ks) (map-append f before (x ∷ after)) distinct)

pub pushed_key : {X K : Type 0} {eq : K → K → Bool} → IsEquivalence eq
    → (f : X → K) (before : List X) (x : X) → IsDistinct eq (map f before)
    → list_any (eq (f x)) (map f before) ≡ false → IsDistinct eq (map f (before ++ x ∷ []))
pushed_key {eq} laws f before x distinct new =
    subst (λ ks. IsDistinct eq ks) (sym (map-append f before (x ∷ [])))
    (IsDistinct-push laws (map f before) (f x) distinct new)

-- what holds of each element holds of the one in the middle
pub middle : {X : Type 0} (P : X → Type 0) (before : List X) (x : X) (after : List X)
    → All P (before ++ x ∷ after) → P x
middle P before x after all =
    subst P (get_or-append_seam before x after x)
    (All-get_or P (before ++ x ∷ after) (length before) x
    (omega (arith, length-append before (x ∷ after))) all)

-- a key without a place stands nowhere
stands_nowhere : {K : Type 0} (p : K → Bool) (keys : List K) → position_or_len p keys ≡ length keys
    → list_any p keys ≡ false
stands_nowhere p [] e = refl
stands_nowhere p (k ∷ keys) e =
    elim (cases_Bool (p k)) [
      | inl t ↦
          let none : cond (not (p k)) (1 + position_or_len p keys) 0 ≡ 0 =
          ap (λ b. cond (not b) (1 + position_or_len p keys) 0) t in
          absurd (omega (arith, none, e))
      | inr f ↦
          let one : cond (not (p k)) (1 + position_or_len p keys) 0 ≡ 1 + position_or_len p keys =
          ap (λ b. cond (not b) (1 + position_or_len p keys) 0) f in
          let later : position_or_len p keys ≡ length keys = omega (arith, one, e) in
          grind (arith, f, stands_nowhere p keys later)
    ]

placed : {K : Type 0} (p : K → Bool) (keys : List K) → position p keys ≡ None
    → list_any p keys ≡ false
placed p keys e =
    let n = position_or_len p keys in
    let most : n ≤ length keys = prefix_len-le-length (λ k. not (p k)) keys in
    elim (cases_Bool (nat_lt n (length keys))) [
      | inl t ↦ let some : position p keys ≡ Some n = ap (λ b. cond b (Some n) None) t in absurd cc
      | inr f ↦ stands_nowhere p keys (omega (arith, most, ltb-false n (length keys) f))
    ]

-- a key that stands somewhere has a place
has_place : {K : Type 0} (p : K → Bool) (keys : List K) → list_any p keys ≡ true
    → position_or_len p keys < length keys
has_place p keys t =
    let n = position_or_len p keys in
    let most : n ≤ length keys = prefix_len-le-length (λ k. not (p k)) keys in
    elim (cases_Bool (nat_lt n (length keys))) [
      | inl s ↦ ltb-true n (length keys) s
      | inr f ↦
          absurd (true≢false
          (sym t ∙ stands_nowhere p keys (omega (arith, most, ltb-false n (length keys) f))))
    ]

-- ---- prefixes

once : (prefixes : List Cidr) → first_repeat prefixes ≡ None → IsDistinct same_prefix prefixes
unfolding IsDistinct
once prefixes e =
    built (λ before p. fault_if (list_any (same_prefix p) before) p) (IsDistinct same_prefix)
    (λ before p so none. IsDistinct-push (equivalence same_prefix same_prefix-Decides) before p so
    (not_found (list_any (same_prefix p) before) p none))
    [] prefixes tt e

none_twice : (prefixes : List Cidr) → IsDistinct same_prefix prefixes → first_repeat prefixes ≡ None
none_twice prefixes distinct =
    faultless (λ before p. fault_if (list_any (same_prefix p) before) p) (IsDistinct same_prefix)
    (λ before p after so. found_none (list_any (same_prefix p) before) p
    (fresh (equivalence same_prefix same_prefix-Decides) before p after so))
    [] prefixes distinct

-- ---- devices

no_option : {X F : Type 0} (f : X → F) (o : Option X) → option_map f o ≡ None → o ≡ None
no_option f None e = refl
no_option f (Some x) e = absurd cc

-- what is looked at after the name of a device
abbrev id_of : List DeviceDraft → DeviceDraft → Option NetFault
id_of before x = id_fault (map (λ d. d.id) before) (record { 0 = length before }) x.id

abbrev own_in : List DeviceDraft → DeviceDraft → Option NetFault
own_in before x =
    option_map (DuplicateOwn (record { 0 = length before }))
    (first_repeat (map (λ o. o.prefix) x.body.own))

device_distinct : (before : List DeviceDraft) (x : DeviceDraft) → AreDistinct before
    → device_fault before x ≡ None → AreDistinct (before ++ x ∷ [])
device_distinct before x so e =
    let names = written_names before in
    let ids = map (λ d. d.id) before in
    let number : DeviceId = record { 0 = length before } in
    let named = neither (name_fault names x.name) (id_of before x or_else own_in before x) e in
    let numbered = neither (id_of before x) (own_in before x) named.1 in
    let name = not_found (list_any (bytes_eq x.name) names) (DuplicateName x.name) named.0 in
    let place =
    no_option (λ a. DuplicateId (record { 0 = a }) number) (position (same_router x.id) ids)
    numbered.0 in
    let own =
    no_option (DuplicateOwn number) (first_repeat (map (λ o. o.prefix) x.body.own)) numbered.1 in
    let routers = equivalence same_router same_router-Decides in
    record {
      names = pushed_key nat_list_eq_equiv (λ d. d.name) before x so.names name;
      ids = pushed_key routers (λ d. d.id) before x so.ids (placed (same_router x.id) ids place);
      own = All-push ListsOwnOnce before x so.own (once (map (λ o. o.prefix) x.body.own) own);
    }

distinct_none : AreDistinct []
unfolding IsDistinct
distinct_none = record { names = tt; ids = tt; own = All-nil ListsOwnOnce }

pub devices_distinct : (ds : List DeviceDraft) → first_in device_fault ds ≡ None → AreDistinct ds
devices_distinct ds e = built device_fault AreDistinct device_distinct [] ds distinct_none e

device_faultless : (before : List DeviceDraft) (x : DeviceDraft) (after : List DeviceDraft)
    → AreDistinct (before ++ x ∷ after) → device_fault before x ≡ None
device_faultless before x after so =
    let names = written_names before in
    let ids = map (λ d. d.id) before in
    let number : DeviceId = record { 0 = length before } in
    let routers = equivalence same_router same_router-Decides in
    let name = fresh_key nat_list_eq_equiv (λ d. d.name) before x after so.names in
    let id = fresh_key routers (λ d. d.id) before x after so.ids in
    let own = middle ListsOwnOnce before x after so.own in
    is_second (name_fault names x.name) (id_of before x or_else own_in before x)
    (found_none (list_any (bytes_eq x.name) names) (DuplicateName x.name) name)
    ∙ is_second (id_of before x) (own_in before x)
    (ap (option_map (λ a. DuplicateId (record { 0 = a }) number))
    (no_place (same_router x.id) ids id))
    ∙ ap (option_map (DuplicateOwn number)) (none_twice (map (λ o. o.prefix) x.body.own) own)

pub devices_faultless : (ds : List DeviceDraft) → AreDistinct ds → first_in device_fault ds ≡ None
devices_faultless ds so = faultless device_fault AreDistinct device_faultless [] ds so

-- ---- links

-- the names of the devices have its name
pub borne : (names : List (List ℕ)) (name : List ℕ) → unknown_fault names name ≡ None
    → place_of names name < length names
borne names name e =
    let known : not (list_any (bytes_eq name) names) ≡ false =
    not_found (not (list_any (bytes_eq name) names)) (UnknownName name) e in
    has_place (bytes_eq name) names (grind (arith, known))

pub known : (names : List (List ℕ)) (name : List ℕ) → place_of names name < length names
    → unknown_fault names name ≡ None
known names name within =
    elim (cases_Bool (list_any (bytes_eq name) names)) [
      | inl t ↦ found_none (not (list_any (bytes_eq name) names)) (UnknownName name) (ap not t)
      | inr f ↦ absurd (omega (arith, within, unplaced (bytes_eq name) names f))
    ]

pub record IsJoined (devices : List Device) (stands : Bool) (l : Link) : Type 0 where
  pub apart : l.a ≢ l.b
  pub fresh : stands ≡ false
  pub systems : asn_of (record { devices = devices; links = [] }) l.a
      ≢ asn_of (record { devices = devices; links = [] }) l.b

is_joined : (devices : List Device) (stands : Bool) (l : Link) → join_fault devices stands l ≡ None
    → IsJoined devices stands l
is_joined devices stands l e =
    let net : Network = record { devices = devices; links = [] } in
    let one = fault_if (same_device l.a l.b) (SelfLink l.a) in
    let two = fault_if stands (DuplicateLink l.a l.b) in
    let three = fault_if (same_system devices l) (SameAs l.a l.b) in
    let first = neither one (two or_else three) e in
    let second = neither two three first.1 in
    record {
      apart =
          λ same. eqb-false l.a.0 l.b.0 (not_found (same_device l.a l.b) (SelfLink l.a) first.0)
          (ap (λ d. d.0) same);
      fresh = not_found stands (DuplicateLink l.a l.b) second.0;
      systems =
          λ same. eqb-false (asn_of net l.a).0 (asn_of net l.b).0
          (not_found (same_system devices l) (SameAs l.a l.b) second.1) (ap (λ s. s.0) same);
    }

join_faultless : (devices : List Device) (stands : Bool) (l : Link) → IsJoined devices stands l
    → join_fault devices stands l ≡ None
join_faultless devices stands l so =
    let net : Network = record { devices = devices; links = [] } in
    let two = fault_if stands (DuplicateLink l.a l.b) in
    let three = fault_if (same_system devices l) (SameAs l.a l.b) in
    is_second (fault_if (same_device l.a l.b) (SelfLink l.a)) (two or_else three)
    (found_none (same_device l.a l.b) (SelfLink l.a)
    (ne_eqb l.a.0 l.b.0 (λ e. so.apart (λ i. record { 0 = e i }))))
    ∙ is_second two three (found_none stands (DuplicateLink l.a l.b) so.fresh)
    ∙ found_none (same_system devices l) (SameAs l.a l.b)
    (ne_eqb (asn_of net l.a).0 (asn_of net l.b).0 (λ e. so.systems (λ i. record { 0 = e i })))

link_joined : (devices : List Device) (before : List LinkDraft) (l : LinkDraft)
    → AreJoined devices (map (link_made (names_of devices)) before)
    → link_fault devices before l ≡ None
    → AreJoined devices (map (link_made (names_of devices)) (before ++ l ∷ []))
link_joined devices before l so e =
    let names = names_of devices in
    let made = link_made names in
    let stands = list_any (same_ends (made l)) (map made before) in
    let first =
    neither (unknown_fault names l.a)
    (unknown_fault names l.b or_else join_fault devices stands (made l)) e in
    let second = neither (unknown_fault names l.b) (join_fault devices stands (made l)) first.1 in
    let joined = is_joined devices stands (made l) second.1 in
    let many : length names ≡ length devices = length-map devices (λ d. d.name) in
    let a : place_of names l.a < length devices = omega (arith, many, borne names l.a first.0) in
    let b : place_of names l.b < length devices = omega (arith, many, borne names l.b second.0) in
    let joins : JoinsAmong devices (made l) =
    record { a = a; b = b; apart = joined.apart; systems = joined.systems } in
    subst (AreJoined devices) (sym (map-append made before (l ∷ []))) (record {
      ends = All-push (JoinsAmong devices) (map made before) (made l) so.ends joins;
      one_link = IsDistinct-push same_ends-laws (map made before) (made l) so.one_link joined.fresh;
    })

joined_none : (devices : List Device) → AreJoined devices []
unfolding IsDistinct
joined_none devices = record { ends = All-nil (JoinsAmong devices); one_link = tt }

pub links_joined : (devices : List Device) (links : List LinkDraft)
    → first_in (link_fault devices) links ≡ None
    → AreJoined devices (map (link_made (names_of devices)) links)
links_joined devices links e =
    built (link_fault devices) (λ ls. AreJoined devices (map (link_made (names_of devices)) ls))
    (link_joined devices) [] links (joined_none devices) e

link_faultless : (devices : List Device) (before : List LinkDraft) (l : LinkDraft)
    (after : List LinkDraft)
    → AreJoined devices (map (link_made (names_of devices)) (before ++ l ∷ after))
    → link_fault devices before l ≡ None
link_faultless devices before l after so =
    let names = names_of devices in
    let made = link_made names in
    let stands = list_any (same_ends (made l)) (map made before) in
    let parts : AreJoined devices (map made before ++ made l ∷ map made after) =
    subst (AreJoined devices) (map-append made before (l ∷ after)) so in
    let joins =
    middle (JoinsAmong devices) (map made before) (made l) (map made after) parts.ends in
    let many : length names ≡ length devices = length-map devices (λ d. d.name) in
    is_second (unknown_fault names l.a)
    (unknown_fault names l.b or_else join_fault devices stands (made l))
    (known names l.a (omega (arith, many, joins.a)))
    ∙ is_second (unknown_fault names l.b) (join_fault devices stands (made l))
    (known names l.b (omega (arith, many, joins.b)))
    ∙ join_faultless devices stands (made l) (record {
      apart = joins.apart;
      fresh = fresh same_ends-laws (map made before) (made l) (map made after) parts.one_link;
      systems = joins.systems;
    })

pub links_faultless : (devices : List Device) (links : List LinkDraft)
    → AreJoined devices (map (link_made (names_of devices)) links)
    → first_in (link_fault devices) links ≡ None
links_faultless devices links so =
    faultless (link_fault devices) (λ ls. AreJoined devices (map (link_made (names_of devices)) ls))
    (link_faultless devices) [] links so
