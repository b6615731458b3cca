-- When the boundary of the emulated devices is safe: it is certified, and what is recorded of the
-- devices behind it is sound. Below, `outside d` says that d isn't emulated, and `rows` are the
-- rows of what is recorded.
use Rattle.std.specs.Prelude.{◌≡◌, ◌⊎◌, Bool, List, Option}
use Rattle.cn_base.specs.Cidr.{Cidr}
use Rattle.cn_base.specs.declared.ids.DeviceId.{DeviceId}
use Rattle.cn_base.specs.declared.route.Choice.{Choice}
use Rattle.cn_cert.specs.Refusal.{IsFirstRefusal}
use Rattle.cn_cert.specs.declared.refusal.Refusal.{Refusal}
use Rattle.cn_net.specs.Certificate.{IsCertified}
use Rattle.cn_net.specs.Islands.{IsIslands, label_of, outside_of}
use Rattle.cn_net.specs.Network.{Network}
use Rattle.cn_net.specs.Opening.{IsOpening, Opening}
use Rattle.cn_net.specs.Records.{AreSound}
use Rattle.cn_record.specs.Recorded.{SaysSound}
use Rattle.cn_record.specs.Said.{said}
use Rattle.cn_record.specs.Unsound.{IsFirstUnsound}
use Rattle.cn_record.specs.declared.saved.Row.{Row}

-- ---- the certificate, with the islands of the outside

-- the boundary is certified
abbrev pub CertificateHolds : Network → (DeviceId → Bool) → Type 0
CertificateHolds net outside =
    (label : DeviceId → Option DeviceId) × IsIslands net outside label
    × IsCertified net outside label

-- the boundary isn't certified
abbrev pub CertificateFails : Network → (DeviceId → Bool) → Type 0
CertificateFails net outside =
    (label : DeviceId → Option DeviceId) × IsIslands net outside label
    × ¬ (IsCertified net outside label)

-- ---- the records

-- what the outside devices say by these rows is sound
abbrev pub AreSoundRows : Network → (DeviceId → Bool) → (DeviceId → Option DeviceId) → List Row
    → Type 0
AreSoundRows net outside label rows = AreSound net outside label (said net label rows)

abbrev pub RecordsHold : Network → (DeviceId → Bool) → List Row → Type 0
RecordsHold net outside rows =
    (label : DeviceId → Option DeviceId) × IsIslands net outside label
    × AreSoundRows net outside label rows

abbrev pub RecordsFail : Network → (DeviceId → Bool) → List Row → Type 0
RecordsFail net outside rows =
    (label : DeviceId → Option DeviceId) × IsIslands net outside label
    × ¬ (AreSoundRows net outside label rows)

-- ---- both

-- the boundary is safe: certified, and with sound records
abbrev pub IsSafe : Network → (DeviceId → Bool) → List Row → Type 0
IsSafe net outside rows = CertificateHolds net outside × RecordsHold net outside rows

abbrev pub IsUnsafe : Network → (DeviceId → Bool) → List Row → Type 0
IsUnsafe net outside rows = CertificateFails net outside ⊎ RecordsFail net outside rows

-- the certified opening of the network with these emulated devices: its labels are those of the
-- islands
pub record IsCertifiedOpening (net : Network) (outside : DeviceId → Bool)
    (o : Opening) : Type 0 where
  pub network : o.net ≡ net
  pub emulated : (d : DeviceId) → outside_of o.emulated d ≡ outside d
  pub islands : IsIslands net outside (label_of o.labels)
  pub opening : IsOpening o

-- that opening, and what the outside devices say by the rows is sound
pub record IsSafeOpening (net : Network) (outside : DeviceId → Bool) (rows : List Row)
    (o : Opening) : Type 0 where
  pub certified : IsCertifiedOpening net outside o
  pub sound : SaysSound o rows

-- ---- why a boundary isn't safe

-- what an island's certificate is refused for; or a device and a prefix, what is recorded of them
-- and what the device holds
pub data BoundaryFault : Type 0 where
  of_certificate : Refusal → BoundaryFault
  of_record : DeviceId → Cidr → Option Choice → Option Choice → BoundaryFault

-- the certificate's first refusal, and where it holds, the first record that isn't sound
abbrev pub IsFirstFault : Network → (DeviceId → Bool) → List Row → BoundaryFault → Type 0
IsFirstFault net outside rows (of_certificate refusal) =
    (label : DeviceId → Option DeviceId) × IsIslands net outside label
    × IsFirstRefusal net outside label refusal
IsFirstFault net outside rows (of_record d p held wanted) =
    (o : Opening) × IsCertifiedOpening net outside o × IsFirstUnsound o rows d p held wanted
