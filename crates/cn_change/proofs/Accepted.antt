-- What an accepted change leaves: the network is valid, nothing outside is touched, the ends of
-- links are the same, and the limits are kept.
use Rattle.std.proofs.Common.{◌≡◌, ◌≢◌, ℕ, ◌+◌, ◌*◌, ◌<◌, ◌≤◌, Bool, true, false, cond, List, [], ◌∷◌, length, get_or, set, map, Some, option_map, unwrap_or, inl, inr, refl, sym, subst, ap, ◌∙◌, arith}
use Rattle.std.specs.List.{All, Contains, IsDistinct, sum_by}
use Rattle.std.specs.Str.{bytes_eq}
use Rattle.std.proofs.lemmas.Bool.{cases_eq}
use Rattle.std.proofs.lemmas.Bool.Decides.{nat_tests}
use Rattle.std.proofs.lemmas.List.{get_or-set_other, get_or-set_same, get_or_default}
use Rattle.std.proofs.lemmas.List.Sums.{sum_by-cons}
use Rattle.std.proofs.lemmas.Option.{slice_get-get_or}
use Rattle.cn_base.specs.declared.ids.DeviceId.{DeviceId}
use Rattle.cn_lists.proofs.Finding.{is_some-find, is_some-option_map}
use Rattle.cn_change.specs.Journal.{IsAccepted, IsPossible, changed, fault_of}
use Rattle.cn_change.specs.declared.change.Change.{Change}
use Rattle.cn_change.specs.declared.change.Change.TheVariants.{Cut, Reload, Reset, Restore}
use Rattle.cn_change.proofs.Counted.{length-with_body}
use Rattle.cn_change.proofs.Fits.{ReloadFits, cut_fits, other_system, reload_fits, reset_fits, restore_fits}
use Rattle.cn_net.specs.Alike.{DifferInside, HaveSameEnds, ends_of}
use Rattle.cn_net.specs.Changed.{reloaded, with_body, with_link}
use Rattle.cn_net.specs.Islands.{holds_device, outside_of}
use Rattle.cn_net.specs.Limits.{IsWithinLimits, emulated_ends, prefix_count, session_count}
use Rattle.cn_net.specs.Network.{Network, IsDevice, IsLinked, asn_of, device_of, joins}
use Rattle.cn_net.specs.Valid.{IsValid, JoinsDevices, ListsPeersOnce, OriginatesOnce, same_router}
use Rattle.cn_net.specs.declared.device.Body.{Body}
use Rattle.cn_net.specs.declared.device.Device.{Device}
use Rattle.cn_net.specs.declared.device.Link.{Link}
use Rattle.cn_net.proofs.ChangedInside.{body_inside, body_keeps_ends, link_inside, link_keeps_ends}
use Rattle.cn_net.proofs.Reloaded.{device_of-with_body, device_of-with_body_other, devices-with_body, map-with_body}
use Rattle.cn_net.proofs.Turned.{IsValid-ends, ends_of-with_link}

-- ---- a valid network after a reload

-- a link joins its ends
linked_at : (net : Network) (a b : DeviceId) (k : ℕ) (e : Link) → k < length net.links
    → joins a b (get_or net.links k e) ≡ true → IsLinked net a b
linked_at net a b k e lt t =
    let l = get_or net.links k e in
    let there : Contains net.links l = (k, lt, get_or_default net.links k l e lt) in
    is_some-option_map (λ (x : Link). x.up) _ ∙ is_some-find (joins a b) net.links l there t

module _ (net : Network) (d : DeviceId) (body : Body) (is : IsDevice net d) where
  -- what holds of the new body and of those that were there holds of all
  all_bodies : (P : Body → Type 0) → P body → All (λ x. P x.body) net.devices
      → All (λ x. P x.body) (with_body net d body).devices
  all_bodies P here all k e lt =
      let y = reloaded body (get_or net.devices d.0 e) in
      let many = length-with_body net d body is in
      let within : k < length net.devices = omega arith in
      let same : get_or (with_body net d body).devices k e ≡ get_or (set net.devices d.0 y) k e =
      ap (λ ds. get_or ds k e) (devices-with_body net d body e is) in
      elim (cases_eq k d.0) [
        | inl at ↦
            subst (λ (z : Device). P z.body)
            (sym (same ∙ ap (λ j. get_or (set net.devices d.0 y) j e) at
            ∙ get_or-set_same net.devices d.0 y e is))
            here
        | inr ne ↦
            subst (λ (z : Device). P z.body)
            (sym (same ∙ get_or-set_other net.devices d.0 k y e ne)) (all k e within)
      ]

  asn_here : asn_of (with_body net d body) d ≡ body.asn
  asn_here =
      let none : Device = record { name = []; layer = 0; id = record { 0 = 0 }; body = body } in
      let x = get_or net.devices d.0 none in
      let there : device_of net d ≡ Some x = slice_get-get_or net.devices d.0 none is in
      ap (λ o. unwrap_or (option_map (λ (z : Device). z.body.asn) o) (record { 0 = 0 }))
      (device_of-with_body net d body x there)

  asn_elsewhere : (e : DeviceId) → e ≢ d → asn_of (with_body net d body) e ≡ asn_of net e
  asn_elsewhere e ne =
      ap (λ o. unwrap_or (option_map (λ (z : Device). z.body.asn) o) (record { 0 = 0 }))
      (device_of-with_body_other net d body e ne)

  -- the two ends of a link have different AS numbers still
  module _ (a b : DeviceId) (apart : a ≢ b) (differ : asn_of net a ≢ asn_of net b)
      (other_b : a ≡ d → asn_of net b ≢ body.asn)
      (other_a : b ≡ d → asn_of net a ≢ body.asn) where
    systems : asn_of (with_body net d body) a ≢ asn_of (with_body net d body) b
    systems same =
        elim (cases_eq a.0 d.0) [
          | inl ea ↦
              let at : a ≡ d = λ j. record { 0 = ea j } in
              let ne : b ≢ d = λ e. apart (at ∙ sym e) in
              other_b at
              (sym (asn_elsewhere b ne) ∙ sym same ∙ ap (asn_of (with_body net d body)) at
              ∙ asn_here)
          | inr na ↦
              let ne_a : a ≢ d = λ e. na (ap (λ (z : DeviceId). z.0) e) in
              elim (cases_eq b.0 d.0) [
                | inl eb ↦
                    let at : b ≡ d = λ j. record { 0 = eb j } in
                    other_a at
                    (sym (asn_elsewhere a ne_a) ∙ same ∙ ap (asn_of (with_body net d body)) at
                    ∙ asn_here)
                | inr nb ↦
                    let ne_b : b ≢ d = λ e. nb (ap (λ (z : DeviceId). z.0) e) in
                    differ (sym (asn_elsewhere a ne_a) ∙ same ∙ asn_elsewhere b ne_b)
              ]
        ]

joins_itself : (l : Link) → joins l.a l.b l ≡ true
joins_itself l = grind (arith, nat_tests)

joins_back : (l : Link) → joins l.b l.a l ≡ true
joins_back l = grind (arith, nat_tests)

joins_after : (net : Network) (d : DeviceId) (body : Body) (emulated : List DeviceId)
    → IsValid net → ReloadFits net emulated d body
    → All (JoinsDevices (with_body net d body)) net.links
joins_after net d body emulated valid fits k e lt =
    let l = get_or net.links k e in
    let h : JoinsDevices net l = valid.ends k e lt in
    let is = fits.place.device in
    let many = length-with_body net d body is in
    let other : (p : DeviceId) → IsLinked net d p → asn_of net p ≢ body.asn =
    λ p linked. other_system net d p body.asn valid fits.place.systems linked in
    let a : l.a.0 < length net.devices = h.a in
    let b : l.b.0 < length net.devices = h.b in
    record {
      a = omega arith;
      b = omega arith;
      apart = h.apart;
      systems =
          systems net d body is l.a l.b h.apart h.systems
          (λ at. other l.b (linked_at net d l.b k e lt
          (ap (λ z. joins z l.b l) (sym at) ∙ joins_itself l)))
          (λ at. other l.a (linked_at net d l.a k e lt
          (ap (λ z. joins z l.a l) (sym at) ∙ joins_back l)));
    }

valid_after : (net : Network) (d : DeviceId) (body : Body) (emulated : List DeviceId)
    → IsValid net → ReloadFits net emulated d body → IsValid (with_body net d body)
valid_after net d body emulated valid fits =
    let is = fits.place.device in
    let many = length-with_body net d body is in
    let few = valid.few_devices in
    let P : ℕ → Body → Type 0 = λ m b. All (λ p. p.device.0 < m) b.peers in
    record {
      few_devices = omega arith;
      few_links = valid.few_links;
      few_prefixes = fits.few_prefixes;
      names = subst (λ ns. IsDistinct bytes_eq ns)
          (sym (map-with_body net d body (λ x. x.name) (λ x. refl))) valid.names;
      ids = subst (λ ns. IsDistinct same_router ns)
          (sym (map-with_body net d body (λ x. x.id) (λ x. refl))) valid.ids;
      own = all_bodies net d body is OriginatesOnce fits.own valid.own;
      peers =
          all_bodies net d body is (P (length (with_body net d body).devices))
          (subst (λ m. P m body) (sym many) fits.place.peers)
          (subst (λ m. All (λ x. P m x.body) net.devices) (sym many) valid.peers);
      one_policy = all_bodies net d body is ListsPeersOnce fits.one_policy valid.one_policy;
      ends = joins_after net d body emulated valid fits;
      one_link = valid.one_link;
    }

-- ---- a valid network after any change

turned_valid : (net : Network) (a b : DeviceId) (up : Bool) → IsValid net
    → IsValid (with_link net a b up)
turned_valid net a b up valid =
    IsValid-ends net (with_link net a b up).links (sym (ends_of-with_link a b up net)) valid

pub accepted_valid : (net : Network) (emulated : List DeviceId) (change : Change) → IsValid net
    → IsAccepted net emulated change → IsValid (changed net change)
unfolding fault_of
accepted_valid net emulated (Reload d body) valid e =
    valid_after net d body emulated valid (reload_fits net emulated d body e)
accepted_valid net emulated (Cut a b) valid e = turned_valid net a b false valid
accepted_valid net emulated (Restore a b) valid e = turned_valid net a b true valid
accepted_valid net emulated (Reset a b) valid e = valid

-- such a change can be made
pub accepted_possible : (net : Network) (emulated : List DeviceId) (change : Change) → IsValid net
    → IsAccepted net emulated change → IsPossible net change
unfolding fault_of
accepted_possible net emulated (Reload d body) valid e =
    let fits = reload_fits net emulated d body e in
    (fits.place.device, valid_after net d body emulated valid fits)
accepted_possible net emulated (Cut a b) valid e = (cut_fits net emulated a b e).linked
accepted_possible net emulated (Restore a b) valid e = (restore_fits net emulated a b e).linked
accepted_possible net emulated (Reset a b) valid e = (reset_fits net emulated a b e).linked

-- ---- what is outside, and the ends of links

pub change_keeps_ends : (net : Network) (change : Change) → HaveSameEnds net (changed net change)
change_keeps_ends net (Reload d body) = body_keeps_ends net d body
change_keeps_ends net (Cut a b) = link_keeps_ends net a b false
change_keeps_ends net (Restore a b) = link_keeps_ends net a b true
change_keeps_ends net (Reset a b) = record { devices = refl; links = refl }

pub accepted_inside : (net : Network) (emulated : List DeviceId) (change : Change)
    → IsAccepted net emulated change → DifferInside net (changed net change) (outside_of emulated)
unfolding fault_of
accepted_inside net emulated (Reload d body) e =
    body_inside net (outside_of emulated) d body (reload_fits net emulated d body e).place.inside
accepted_inside net emulated (Cut a b) e =
    link_inside net (outside_of emulated) a b false (cut_fits net emulated a b e).inside
accepted_inside net emulated (Restore a b) e =
    link_inside net (outside_of emulated) a b true (restore_fits net emulated a b e).inside
accepted_inside net emulated (Reset a b) e = record {
  ends = record { devices = refl; links = refl };
  devices = λ d t. refl;
  links = refl;
}

-- ---- the limits

-- how many of two ends are emulated
abbrev pub received : List DeviceId → DeviceId × DeviceId → ℕ
received emulated e = cond (holds_device emulated e.0) 1 0 + cond (holds_device emulated e.1) 1 0

-- how many sessions are kept is a matter of the ends of the links
counted_ends : (emulated : List DeviceId) (links : List Link)
    → sum_by (emulated_ends emulated) links
    ≡ sum_by (received emulated) (map ends_of links)
counted_ends emulated [] = refl
counted_ends emulated (l ∷ ls) =
    sum_by-cons (emulated_ends emulated) l ls
    ∙ ap (λ n. emulated_ends emulated l + n) (counted_ends emulated ls)
    ∙ sym (sum_by-cons (received emulated) (ends_of l) (map ends_of ls))

turned_count : (net : Network) (emulated : List DeviceId) (a b : DeviceId) (up : Bool)
    → session_count (with_link net a b up) emulated ≡ session_count net emulated
turned_count net emulated a b up =
    counted_ends emulated (with_link net a b up).links
    ∙ ap (sum_by (received emulated)) (ends_of-with_link a b up net)
    ∙ sym (counted_ends emulated net.links)

turned_within : (net : Network) (emulated : List DeviceId) (a b : DeviceId) (up : Bool)
    → IsWithinLimits net emulated → IsWithinLimits (with_link net a b up) emulated
turned_within net emulated a b up so = record {
  few_emulated = so.few_emulated;
  few_rows =
      subst (λ n. n * prefix_count net ≤ 16777216) (sym (turned_count net emulated a b up))
      so.few_rows;
}

pub accepted_within : (net : Network) (emulated : List DeviceId) (change : Change)
    → IsWithinLimits net emulated → IsAccepted net emulated change
    → IsWithinLimits (changed net change) emulated
unfolding fault_of
accepted_within net emulated (Reload d body) so e =
    record {
      few_emulated = so.few_emulated;
      few_rows = (reload_fits net emulated d body e).few_rows;
    }
accepted_within net emulated (Cut a b) so e = turned_within net emulated a b false so
accepted_within net emulated (Restore a b) so e = turned_within net emulated a b true so
accepted_within net emulated (Reset a b) so e = so
