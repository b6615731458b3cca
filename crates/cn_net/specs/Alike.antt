-- Networks that differ in nothing but in which of their links are up, in no end of a link, or in
-- nothing outside.
use Rattle.std.specs.Prelude.{◌≡◌, ◌↔◌, ◌⊎◌, ◌&&◌, Bool, true, false, List, length, Option, None, map}
use Rattle.std.specs.List.{filter}
use Rattle.cn_base.specs.declared.ids.DeviceId.{DeviceId}
use Rattle.cn_net.specs.Certificate.{IsCertified}
use Rattle.cn_net.specs.Changed.{with_body, with_link}
use Rattle.cn_net.specs.Islands.{IsIslandLabelling, IsIslands}
use Rattle.cn_net.specs.Network.{Network, IsDevice, device_of}
use Rattle.cn_net.specs.Records.{AreSound}
use Rattle.cn_net.specs.Restriction.{restricted}
use Rattle.cn_net.specs.Stable.{Assignment, IsStable}
use Rattle.cn_net.specs.declared.device.Body.{Body}
use Rattle.cn_net.specs.declared.device.Link.{Link}

-- ---- links with the same ends

-- the two ends of a link, in its order
abbrev pub ends_of : Link → DeviceId × DeviceId
ends_of l = (l.a, l.b)

-- the same devices, and links with the same ends in the same order: each may be up in one, down in
-- the other
pub record DifferInUp (net net' : Network) : Type 0 where
  pub devices : net.devices ≡ net'.devices
  pub links : map ends_of net.links ≡ map ends_of net'.links

-- what is said of islands and of the certificate holds of both networks or of neither
pub record HaveBoundariesAlike (net net' : Network) : Type 0 where
  pub islands : (outside : DeviceId → Bool) (label : DeviceId → Option DeviceId)
      → IsIslands net outside label ↔ IsIslands net' outside label
  pub labelling : (outside : DeviceId → Bool) (label : DeviceId → Option DeviceId)
      → IsIslandLabelling net outside label ↔ IsIslandLabelling net' outside label
  pub certified : (outside : DeviceId → Bool) (label : DeviceId → Option DeviceId)
      → IsCertified net outside label ↔ IsCertified net' outside label

-- as many devices, whatever they are, and links with the same ends in the same order
pub record HaveSameEnds (net net' : Network) : Type 0 where
  pub devices : length net.devices ≡ length net'.devices
  pub links : map ends_of net.links ≡ map ends_of net'.links

-- ---- networks that are the same outside
-- Below, `outside d` says that d isn't emulated.

-- the links between two outside devices
abbrev pub links_outside : (DeviceId → Bool) → Network → List Link
links_outside outside net = filter (λ l. outside l.a && outside l.b) net.links

-- Each outside device is the same, and so are the links between two of them, up or down. An
-- emulated device may be another in one than in the other, and a link with an emulated end may be
-- up in one and down in the other.
pub record DifferInside (net net' : Network) (outside : DeviceId → Bool) : Type 0 where
  pub ends : HaveSameEnds net net'
  pub devices : (d : DeviceId) → outside d ≡ true → device_of net d ≡ device_of net' d
  pub links : links_outside outside net ≡ links_outside outside net'

-- an end of the link of two devices is emulated
abbrev pub IsLinkInside : (DeviceId → Bool) → DeviceId → DeviceId → Type 0
IsLinkInside outside a b = (outside a ≡ false) ⊎ (outside b ≡ false)

-- no emulated device has a label
abbrev pub LabelsOutside : Network → (DeviceId → Bool) → (DeviceId → Option DeviceId) → Type 0
LabelsOutside net outside label =
    (d : DeviceId) → IsDevice net d → outside d ≡ false → label d ≡ None

-- what is said of the outside devices alone holds of both networks or of neither
pub record HaveRecordsAlike (net net' : Network) (outside : DeviceId → Bool) : Type 0 where
  pub stable : (held : Assignment)
      → IsStable (restricted net outside) held ↔ IsStable (restricted net' outside) held
  pub sound : (label : DeviceId → Option DeviceId) (said : Assignment)
      → LabelsOutside net outside label
      → AreSound net outside label said ↔ AreSound net' outside label said

-- ---- what a change leaves as it is

-- a link that goes down or comes up, and a device that has another body, leave the ends of all
-- links and the number of the devices
pub record ChangesKeepEnds (net : Network) : Type 0 where
  pub link : (a b : DeviceId) (up : Bool) → HaveSameEnds net (with_link net a b up)
  pub body : (d : DeviceId) (body : Body) → HaveSameEnds net (with_body net d body)

-- where an end of the link, or the device, is emulated, they differ inside alone
pub record ChangesStayInside (net : Network) (outside : DeviceId → Bool) : Type 0 where
  pub link : (a b : DeviceId) (up : Bool) → IsLinkInside outside a b
      → DifferInside net (with_link net a b up) outside
  pub body : (d : DeviceId) (body : Body) → outside d ≡ false
      → DifferInside net (with_body net d body) outside
