-- A boundary isn't both safe and unsafe, and what is first wrong with it makes it unsafe.
use Rattle.std.proofs.Common.{◌≡◌, inl, inr, Bool, List, Option, Some, sym, subst, ◌∙◌}
use Rattle.cn_base.specs.Cidr.{Cidr}
use Rattle.cn_base.specs.declared.ids.DeviceId.{DeviceId}
use Rattle.cn_base.specs.declared.route.Choice.{Choice}
use Rattle.cn_net.specs.Certificate.{IsCertified}
use Rattle.cn_net.specs.Islands.{IsIslands, label_of, outside_of}
use Rattle.cn_net.specs.Network.{Network}
use Rattle.cn_net.specs.Opening.{Opening}
use Rattle.cn_net.specs.Records.{IsOfIsland}
use Rattle.cn_net.specs.Restriction.{restricted}
use Rattle.cn_net.proofs.Agreeing.{certificate_agrees, islands_agree, same_islands}
use Rattle.cn_net.proofs.Apart.{distinct_ids}
use Rattle.cn_net.proofs.Restricted.{distinct_restricted}
use Rattle.cn_net.proofs.States.{has_one_state}
use Rattle.cn_cert.proofs.Orders.{certified_is_refused_nowhere}
use Rattle.cn_record.specs.Recorded.{SaysSound}
use Rattle.cn_record.specs.Unsound.{IsFirstUnsound}
use Rattle.cn_record.specs.declared.saved.Row.{Row}
use Rattle.cn_record.proofs.Saying.{says_row}
use Rattle.cn_plan.specs.Boundary.{AreSoundRows, BoundaryFault, CertificateFails, CertificateHolds, IsCertifiedOpening, IsFirstFault, IsSafe, IsSafeOpening, IsUnsafe, of_certificate, of_record}

-- what the first difference contradicts
pub unsound_denies : (o : Opening) (rows : List Row) (d : DeviceId) (p : Cidr)
    (held wanted : Option Choice)
    → IsCertifiedOpening o.net (outside_of o.emulated) o → IsFirstUnsound o rows d p held wanted
    → SaysSound o rows → ⊥
unsound_denies o rows d p held wanted opened first sound =
    let ids =
    distinct_restricted o.net (outside_of o.emulated) (distinct_ids o.net opened.opening.valid) in
    let alone = has_one_state (restricted o.net (outside_of o.emulated)) ids in
    let u = first.unsound in
    u.differs alone.state alone.stable
    (sound alone.state alone.stable d u.island p u.is_device u.in_island u.of_island)

module _ (net : Network) (outside : DeviceId → Bool) where
  -- ---- the labels of the islands are one

  pub holds_not_fails : CertificateHolds net outside → CertificateFails net outside → ⊥
  holds_not_fails (x, islands, holds) (y, others, fails) =
      fails (certificate_agrees net x y
      (same_islands net x y (islands_agree net outside x y islands others)) outside holds)

  sound_agrees : (rows : List Row) (x y : DeviceId → Option DeviceId) → IsIslands net outside x
      → IsIslands net outside y → AreSoundRows net outside x rows → AreSoundRows net outside y rows
  sound_agrees rows x y islands others sound state stable d i p is l of_island =
      let same = islands_agree net outside x y islands others in
      let l' : x d ≡ Some i = same d is ∙ l in
      let of_island' : IsOfIsland net x i p = record {
        device = of_island.device;
        in_island = same of_island.device of_island.originates.0 ∙ of_island.in_island;
        originates = of_island.originates;
      } in
      says_row net y d p rows i is l of_island ∙ sym (says_row net x d p rows i is l' of_island')
      ∙ sound state stable d i p is l' of_island'

  pub safe_not_unsafe : (rows : List Row) → IsSafe net outside rows → IsUnsafe net outside rows → ⊥
  safe_not_unsafe rows (holds, records) (inl fails) = holds_not_fails holds fails
  safe_not_unsafe rows (holds, (x, islands, sound)) (inr (y, others, unsound)) =
      unsound (sound_agrees rows x y islands others sound)

  -- ---- an opening of the network

  module _ (o : Opening) (network : o.net ≡ net)
      (emulated : (d : DeviceId) → outside_of o.emulated d ≡ outside d) where
    these : outside_of o.emulated ≡ outside
    these i d = emulated d i

    -- what is so of its own network and its own outside devices is so of these, and back
    pub carried : (P : Network → (DeviceId → Bool) → Type 0) → P o.net (outside_of o.emulated)
        → P net outside
    carried P h = subst (λ n. P n outside) network (subst (λ f. P o.net f) these h)

    pub back : (P : Network → (DeviceId → Bool) → Type 0) → P net outside
        → P o.net (outside_of o.emulated)
    back P h = subst (λ f. P o.net f) (sym these) (subst (λ n. P n outside) (sym network) h)

  pub safe_of : (rows : List Row) (o : Opening) → IsSafeOpening net outside rows o
      → IsSafe net outside rows
  safe_of rows o h =
      let c = h.certified in
      let label = label_of o.labels in (
        (
          label,
          c.islands,
          carried o c.network c.emulated (λ n f. IsCertified n f label) c.opening.certified,
        ),
        (
          label,
          c.islands,
          carried o c.network c.emulated (λ n f. AreSoundRows n f label rows) h.sound,
        ),
      )

  pub fault_unsafe : (rows : List Row) (fault : BoundaryFault) → IsFirstFault net outside rows fault
      → IsUnsafe net outside rows
  fault_unsafe rows (of_certificate refusal) (label, islands, first) =
      inl (label, islands, certified_is_refused_nowhere net outside label refusal first.refusal)
  fault_unsafe rows (of_record d p held wanted) (o, c, first) =
      let label = label_of o.labels in
      let own : IsCertifiedOpening o.net (outside_of o.emulated) o =
      record {
        network = λ i. o.net;
        emulated = λ x i. outside_of o.emulated x;
        islands = back o c.network c.emulated (λ n f. IsIslands n f label) c.islands;
        opening = c.opening;
      } in
      inr (
        label,
        c.islands,
        λ sound. unsound_denies o rows d p held wanted own first
            (back o c.network c.emulated (λ n f. AreSoundRows n f label rows) sound),
      )
