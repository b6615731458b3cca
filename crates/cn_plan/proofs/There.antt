-- A boundary has a safe opening or a first fault: one of them always is there, in the sense of
-- classical logic. Other crates may cite this module.
use Rattle.std.proofs.Common.{◌≡◌, ◌⊎◌, List, Option, length, refl, inl, inr, All}
use Rattle.cn_lists.specs.Classical.{Classically}
use Rattle.cn_lists.proofs.Classical.{and_then, given, settled, with_found}
use Rattle.cn_base.specs.declared.ids.DeviceId.{DeviceId}
use Rattle.cn_net.specs.Certificate.{IsCertified}
use Rattle.cn_net.specs.Islands.{IsAscending, IsIslands, label_of, outside_of}
use Rattle.cn_net.specs.Network.{Network, IsDevice}
use Rattle.cn_net.specs.Opening.{Opening}
use Rattle.cn_net.specs.Valid.{IsValid}
use Rattle.cn_net.proofs.Chains.{islands_labelling}
use Rattle.cn_island.proofs.There.{islands_there}
use Rattle.cn_cert.proofs.There.{refusal_there}
use Rattle.cn_record.specs.Recorded.{SaysSound}
use Rattle.cn_record.specs.declared.saved.Row.{Row}
use Rattle.cn_record.proofs.There.{unsound_there}
use Rattle.cn_plan.specs.Boundary.{BoundaryFault, IsCertifiedOpening, IsFirstFault, IsSafeOpening, of_certificate, of_record}

module _ (net : Network) (set : List DeviceId) (rows : List Row) (valid : IsValid net)
    (within : All (IsDevice net) set) (ascending : IsAscending set) where
  abbrev SomeFault : Type 0
  SomeFault = (fault : BoundaryFault) × IsFirstFault net (outside_of set) rows fault

  -- a safe opening, with an entry of labels for each device
  abbrev SomeOpening : Type 0
  SomeOpening =
      (o : Opening) × IsSafeOpening net (outside_of set) rows o
      × (length o.labels ≡ length net.devices)

  module _ (labels : List (Option DeviceId)) (size : length labels ≡ length net.devices)
      (islands : IsIslands net (outside_of set) (label_of labels)) where
    abbrev with_labels : Opening
    with_labels = record { net = net; emulated = set; labels = labels }

    opens_certified : IsCertified net (outside_of set) (label_of labels)
        → IsCertifiedOpening net (outside_of set) with_labels
    opens_certified certified = record {
      network = refl;
      emulated = λ d. refl;
      islands = islands;
      opening = record {
        valid = valid;
        devices = within;
        ascending = ascending;
        labelling = islands_labelling net (outside_of set) (label_of labels) islands;
        certified = certified;
      };
    }

    certified_or_not : IsCertified net (outside_of set) (label_of labels)
        ⊎ (IsCertified net (outside_of set) (label_of labels) → ⊥)
        → Classically (SomeOpening ⊎ SomeFault)
    certified_or_not (inl certified) =
        let opened = opens_certified certified in
        and_then (settled (SaysSound with_labels rows)) (λ records. elim records [
          | inl sound ↦
              given (inl (with_labels, record { certified = opened; sound = sound }, size))
          | inr unsound ↦ with_found (unsound_there with_labels rows valid unsound)
              (λ u. inr (of_record u.0 u.1 u.2 u.3, (with_labels, opened, u.4)))
        ])
    certified_or_not (inr uncertified) =
        with_found (refusal_there net (outside_of set) (label_of labels) uncertified)
        (λ r. inr (of_certificate r.0, (label_of labels, islands, r.1)))

  -- of a boundary's safe opening and its first fault one is there: both can't be missing
  pub boundary_there : Classically (SomeOpening ⊎ SomeFault)
  boundary_there =
      and_then (islands_there net (outside_of set)) (λ found.
      and_then (settled (IsCertified net (outside_of set) (label_of found.0)))
      (certified_or_not found.0 found.1 found.2))
