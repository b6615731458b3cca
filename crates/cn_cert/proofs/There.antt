-- A boundary that isn't certified has a first refusal, in the sense of classical logic. Other
-- crates may cite this module.
use Rattle.std.proofs.Common.{◌≡◌, ◌≢◌, ◌∙◌, Bool, Option, Some, refl, sym, inl, inr}
use Rattle.cn_lists.specs.Classical.{Classically}
use Rattle.cn_lists.proofs.Classical.{and_then, least_by, least_by_two, settled, with_found}
use Rattle.cn_base.specs.Cidr.{Cidr}
use Rattle.cn_base.specs.declared.ids.DeviceId.{DeviceId}
use Rattle.cn_net.specs.Certificate.{HaveOneSystem, HasOwnPrefixes, IsCertified}
use Rattle.cn_net.specs.Network.{Network, IsDevice, asn_of}
use Rattle.cn_cert.specs.Refusal.{Faces, IsFirstRefusal, IsLeast, IsRefusal, OriginatesElsewhere, OriginatesInside, Refuses, island_of, kind_place}
use Rattle.cn_cert.specs.declared.refusal.Refusal.{Refusal}
use Rattle.cn_cert.specs.declared.refusal.Refusal.TheVariants.{Facing, Origins}
use Rattle.cn_cert.specs.declared.refusal.Side.{Side}
use Rattle.cn_cert.specs.declared.refusal.Side.TheVariants.{Emulated, Outside}
use Rattle.cn_cert.proofs.Classes.{some_member}
use Rattle.cn_cert.proofs.Shares.{in_or_not}
use Rattle.cn_cert.proofs.Systems.{same_or_not}

-- of these devices, where one is given, one is the least
least_there : (These : DeviceId → Type 0) (d : DeviceId) → These d
    → Classically ((m : DeviceId) × IsLeast These m)
least_there These d these =
    with_found (least_by These (λ x. x.0) d these)
    (λ m. (m.0, record { one = m.1; least = m.2 }))

module _ (net : Network) (outside : DeviceId → Bool) (label : DeviceId → Option DeviceId) where
  abbrev SomeRefusal : Type 0
  SomeRefusal = (r : Refusal) × IsRefusal net outside label r

  -- what is so of an island is a refusal once it names the island's least device
  refusal_named : (i : DeviceId) (r : Refusal) → Refuses net outside label i r
      → Classically SomeRefusal
  refusal_named i (Facing side named a a_asn b b_asn) h =
      let m = some_member net outside label i (Facing side named a a_asn b b_asn) h in
      with_found (least_there (λ x. IsDevice net x × (label x ≡ Some i)) m.0 (m.1, m.2))
      (λ least. (
        Facing side least.0 a a_asn b b_asn,
        record { island = i; named = least.1; refuses = h },
      ))
  refusal_named i (Origins named p inside elsewhere) h =
      let m = some_member net outside label i (Origins named p inside elsewhere) h in
      with_found (least_there (λ x. IsDevice net x × (label x ≡ Some i)) m.0 (m.1, m.2))
      (λ least. (
        Origins least.0 p inside elsewhere,
        record { island = i; named = least.1; refuses = h },
      ))

  -- of two devices of different AS numbers one isn't of the AS of a third
  other_there : (side : Side) (i x y a : DeviceId) → Faces net outside label side i x
      → Faces net outside label side i y → asn_of net x ≢ asn_of net y
      → Classically ((d : DeviceId) × Faces net outside label side i d
      × (asn_of net d ≢ asn_of net a))
  other_there side i x y a fx fy apart =
      with_found (settled (asn_of net x ≡ asn_of net a)) (λ same. elim same [
        | inl e ↦ (y, fy, λ e'. apart (e ∙ sym e'))
        | inr ne ↦ (x, fx, ne)
      ])

  facing_there : (side : Side) (i x y : DeviceId) → Faces net outside label side i x
      → Faces net outside label side i y → asn_of net x ≢ asn_of net y → Classically SomeRefusal
  facing_there side i x y fx fy apart =
      and_then (least_there (Faces net outside label side i) x fx) (λ a.
      and_then (other_there side i x y a.0 fx fy apart) (λ other.
      and_then
      (least_there (λ d. Faces net outside label side i d × (asn_of net d ≢ asn_of net a.0))
      other.0 (other.1, other.2)) (λ b.
      refusal_named i (Facing side i a.0 (asn_of net a.0) b.0 (asn_of net b.0))
      (record { least = a.1; other = b.1 }, refl, refl))))

  -- a prefix that is originated inside an island and elsewhere
  record IsShared (i : DeviceId) (p : Cidr) : Type 0 where
    inside : DeviceId
    elsewhere : DeviceId
    is_inside : OriginatesInside net label i p inside
    is_elsewhere : OriginatesElsewhere net label i p elsewhere

  origins_there : (i : DeviceId) (p : Cidr) → IsShared i p → Classically SomeRefusal
  origins_there i p shared =
      and_then (least_by_two (IsShared i) (λ q. q.bits) (λ q. q.len) p shared) (λ low.
      let at = low.1 in
      and_then (least_there (OriginatesInside net label i low.0) at.inside at.is_inside) (λ inside.
      and_then (least_there (OriginatesElsewhere net label i low.0) at.elsewhere at.is_elsewhere)
      (λ elsewhere.
      refusal_named i (Origins i low.0 inside.0 elsewhere.0) (record {
        inside_least = inside.1;
        elsewhere_least = elsewhere.1;
        prefix_least = λ q d x before hd hx. low.2 q
            (record { inside = d; elsewhere = x; is_inside = hd; is_elsewhere = hx }) before;
      }))))

  module _ (missing : SomeRefusal → ⊥) where
    clean_side : (side : Side) (i : DeviceId) → HaveOneSystem net (Faces net outside label side i)
    clean_side side i x y fx fy = same_or_not (asn_of net x) (asn_of net y)
        (λ apart. facing_there side i x y fx fy apart missing)

    own_prefixes : (i : DeviceId) → HasOwnPrefixes net label i
    own_prefixes i d x p is od ox = in_or_not (label x) i (λ ne. origins_there i p (record {
      inside = d;
      elsewhere = x;
      is_inside = record { label_is = is; originates = od };
      is_elsewhere = record { label_is_not = ne; originates = ox };
    }) missing)

    refused_nowhere : IsCertified net outside label
    refused_nowhere = record {
      island = λ i. record {
        emulated_side = clean_side Emulated i;
        outside_side = clean_side Outside i;
        origins = own_prefixes i;
      };
    }

  -- of a boundary that isn't certified a first refusal can't be missing, by whatever labels its
  -- islands go
  pub refusal_there : (IsCertified net outside label → ⊥)
      → Classically ((r : Refusal) × IsFirstRefusal net outside label r)
  refusal_there uncertified =
      let some : Classically SomeRefusal = λ missing. uncertified (refused_nowhere missing) in
      and_then some (λ r. with_found
      (least_by_two (IsRefusal net outside label) (λ s. (island_of s).0) kind_place r.0 r.1)
      (λ low. (low.0, record { refusal = low.1; first = low.2 })))
