-- A refusal is one of an island, and not of its label's value.
use Rattle.std.proofs.Common.{◌≡◌, ◌≢◌, Bool, Option, Some, None, sym, subst, ◌∙◌, arith}
use Rattle.std.specs.Prelude.{◌↔◌, MatchOption}
use Rattle.cn_base.specs.Cidr.{Cidr}
use Rattle.cn_base.specs.declared.ids.DeviceId.{DeviceId}
use Rattle.cn_net.specs.Certificate.{IsCertified}
use Rattle.cn_net.specs.Islands.{HaveSameIslands}
use Rattle.cn_net.specs.Network.{Network, IsDevice, asn_of}
use Rattle.cn_net.proofs.Agreeing.{certificate_agrees, emulated_facing, island_too, labelled_too, outside_facing, same_islands_back}
use Rattle.cn_cert.specs.Refusal.{Faces, IsFirstRefusal, IsLeast, IsLeastOf, IsRefusal, OriginatesElsewhere, OriginatesInside, Refuses, island_of}
use Rattle.cn_cert.specs.Steps.{AreNames, IsFirstNamed}
use Rattle.cn_cert.specs.declared.refusal.Refusal.{Refusal}
use Rattle.cn_cert.specs.declared.refusal.Refusal.TheVariants.{Facing, Origins}
use Rattle.cn_cert.specs.declared.refusal.Side.{Side}
use Rattle.cn_cert.specs.declared.refusal.Side.TheVariants.{Emulated, Outside}

least_same : (P Q : DeviceId → Type 0) (d : DeviceId) → ((x : DeviceId) → P x → Q x)
    → ((x : DeviceId) → Q x → P x) → IsLeast P d → IsLeast Q d
least_same P Q d to from h = record { one = to d h.one; least = λ x q. h.least x (from x q) }

-- ---- one island, with a label i of x and a label j of y

-- the devices with label i of x are those with label j of y
abbrev AreOne : Network → (DeviceId → Option DeviceId) → (DeviceId → Option DeviceId) → DeviceId
    → DeviceId → Type 0
AreOne net x y i j = (d : DeviceId) → IsDevice net d → (x d ≡ Some i) ↔ (y d ≡ Some j)

module _ (net : Network) (outside : DeviceId → Bool) (x y : DeviceId → Option DeviceId)
    (same : HaveSameIslands net x y) (i j : DeviceId) (one : AreOne net x y i j) where
  faces_too : (side : Side) (d : DeviceId) → Faces net outside y side j d
      → Faces net outside x side i d
  faces_too Emulated d h =
      emulated_facing net x y same outside j d h i ((one h.peer h.peer_is_device).1 h.in_island)
  faces_too Outside d h =
      outside_facing net x y same outside j d h i ((one d h.is_device).1 h.in_island)

  inside_too : (p : Cidr) (d : DeviceId) → OriginatesInside net y j p d
      → OriginatesInside net x i p d
  inside_too p d h =
      record { label_is = (one d h.originates.0).1 h.label_is; originates = h.originates }

  elsewhere_too : (p : Cidr) (d : DeviceId) → OriginatesElsewhere net y j p d
      → OriginatesElsewhere net x i p d
  elsewhere_too p d h = record {
    label_is_not = λ e. h.label_is_not ((one d h.originates.0).0 e);
    originates = h.originates;
  }

  labelled_with : (d : DeviceId) → IsDevice net d × (y d ≡ Some j) → IsDevice net d × (x d ≡ Some i)
  labelled_with d h = (h.0, (one d h.0).1 h.1)

one_back : (net : Network) (x y : DeviceId → Option DeviceId) (i j : DeviceId)
    → AreOne net x y i j → AreOne net y x j i
one_back net x y i j one d is = ((one d is).1, (one d is).0)

module _ (net : Network) (outside : DeviceId → Bool) (x y : DeviceId → Option DeviceId)
    (same : HaveSameIslands net x y) (i j : DeviceId) (one : AreOne net x y i j) where
  abbrev back : HaveSameIslands net y x
  back = same_islands_back net x y same

  abbrev eno : AreOne net y x j i
  eno = one_back net x y i j one

  refuses_too : (r : Refusal) → Refuses net outside y j r → Refuses net outside x i r
  refuses_too (Facing side named a a_asn b b_asn) (h, is_a, is_b) = (
    record {
      least = least_same (Faces net outside y side j) (Faces net outside x side i) a
          (faces_too net outside x y same i j one side)
          (faces_too net outside y x back j i eno side) h.least;
      other = least_same
          (λ d. Faces net outside y side j d × (asn_of net d ≢ asn_of net a))
          (λ d. Faces net outside x side i d × (asn_of net d ≢ asn_of net a)) b
          (λ d f. (faces_too net outside x y same i j one side d f.0, f.1))
          (λ d f. (faces_too net outside y x back j i eno side d f.0, f.1)) h.other;
    },
    is_a,
    is_b,
  )
  refuses_too (Origins named p inside elsewhere) h = record {
    inside_least = least_same (OriginatesInside net y j p) (OriginatesInside net x i p) inside
        (inside_too net outside x y same i j one p) (inside_too net outside y x back j i eno p)
        h.inside_least;
    elsewhere_least =
        least_same (OriginatesElsewhere net y j p) (OriginatesElsewhere net x i p) elsewhere
        (elsewhere_too net outside x y same i j one p)
        (elsewhere_too net outside y x back j i eno p) h.elsewhere_least;
    prefix_least = λ q d e before in_d in_e.
        h.prefix_least q d e before
        (inside_too net outside y x back j i eno q d in_d)
        (elsewhere_too net outside y x back j i eno q e in_e);
  }

  named_too : (d : DeviceId) → IsLeastOf net y j d → IsLeastOf net x i d
  named_too d =
      least_same (λ z. IsDevice net z × (y z ≡ Some j)) (λ z. IsDevice net z × (x z ≡ Some i)) d
      (labelled_with net outside x y same i j one) (labelled_with net outside y x back j i eno)

-- ---- labellings with the same islands

module _ (net : Network) (outside : DeviceId → Bool) (x y : DeviceId → Option DeviceId)
    (same : HaveSameIslands net x y) where
  refusal_too : (r : Refusal) → IsRefusal net outside y r → IsRefusal net outside x r
  refusal_too r h =
      let d = island_of r in
      let is_d = h.named.one.0 in
      let i = labelled_too net x y same d h.island is_d h.named.one.1 in
      let one : AreOne net x y i.0 h.island = λ e is_e. (
        λ in_x. sym ((same.together d e is_d is_e).0 (i.1 ∙ sym in_x)) ∙ h.named.one.1,
        λ in_y. island_too net x y same d e i.0 h.island is_d is_e h.named.one.1 in_y i.1,
      ) in
      record {
        island = i.0;
        named = named_too net outside x y same i.0 h.island one d h.named;
        refuses = refuses_too net outside x y same i.0 h.island one r h.refuses;
      }

module _ (net : Network) (outside : DeviceId → Bool) (x y : DeviceId → Option DeviceId)
    (same : HaveSameIslands net x y) where
  pub first_too : (r : Refusal) → IsFirstRefusal net outside y r → IsFirstRefusal net outside x r
  first_too r h = record {
    refusal = refusal_too net outside x y same r h.refusal;
    first = λ s q b. h.first s (refusal_too net outside y x (same_islands_back net x y same) s q) b;
  }

module _ (net : Network) (outside : DeviceId → Bool) (name : DeviceId → Option DeviceId) where
  -- some device of the island that is refused
  pub some_member : (i : DeviceId) (r : Refusal) → Refuses net outside name i r
      → (d : DeviceId) × IsDevice net d × (name d ≡ Some i)
  some_member i (Facing Emulated named a a_asn b b_asn) (h, is_a, is_b) =
      let f = h.least.one in (f.peer, f.peer_is_device, f.in_island)
  some_member i (Facing Outside named a a_asn b b_asn) (h, is_a, is_b) =
      let f = h.least.one in (a, f.is_device, f.in_island)
  some_member i (Origins named p inside elsewhere) h =
      let o = h.inside_least.one in (inside, o.originates.0, o.label_is)

-- ---- islands that are labelled by their least devices

module _ (net : Network) (outside : DeviceId → Bool) (name : DeviceId → Option DeviceId)
    (names : AreNames net name) where
  named_by : (r : Refusal) → IsRefusal net outside name r → Refuses net outside name (island_of r) r
  named_by r h =
      let d = island_of r in
      let least = names d h.island h.named.one.0 h.named.one.1 in
      let below = h.named.least h.island least.one in
      let above = least.least d h.named.one in
      let e : h.island.0 ≡ d.0 = omega (arith, below, above) in
      let same : h.island ≡ d = λ k. record { 0 = e k } in
      subst (λ i. Refuses net outside name i r) same h.refuses

  pub first_by_name : (r : Refusal) → IsFirstNamed net outside name r
      → IsFirstRefusal net outside name r
  first_by_name r h =
      let m = some_member net outside name (island_of r) r h.refuses in
      record {
        refusal = record {
          island = island_of r;
          named = names m.0 (island_of r) m.1 m.2;
          refuses = h.refuses;
        };
        first = λ s q b. h.first s (named_by s q) b;
      }

-- what was found by the least devices of islands is so by their labels
pub found_by_name : (net : Network) (outside : DeviceId → Bool)
    (name label : DeviceId → Option DeviceId)
    → HaveSameIslands net name label → AreNames net name → (found : Option Refusal)
    → MatchOption found (IsCertified net outside name) (IsFirstNamed net outside name)
    → MatchOption found (IsCertified net outside label) (IsFirstRefusal net outside label)
found_by_name net outside name label same names None h =
    certificate_agrees net name label same outside h
found_by_name net outside name label same names (Some r) h =
    first_too net outside label name (same_islands_back net name label same) r
    (first_by_name net outside name names r h)
