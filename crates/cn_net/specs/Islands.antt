-- The devices that aren't emulated, in islands.
-- Below, `outside d` says that d isn't emulated, and `label d` is the number of d's island.
use Rattle.std.specs.Prelude.{◌≡◌, ◌≤◌, ◌↔◌, Bool, true, false, not, List, Option, Some, None, slice_get, unwrap_or}
use Rattle.std.specs.List.{list_any}
use Rattle.std.specs.List.Sorted.{IsStrictlySortedBy}
use Rattle.std.specs.Ordering.{nat_cmp, on}
use Rattle.cn_base.specs.declared.ids.DeviceId.{DeviceId}
use Rattle.cn_net.specs.Network.{Network, IsDevice, IsLinked, same_device}

-- d is in the set
abbrev pub holds_device : List DeviceId → DeviceId → Bool
holds_device set d = list_any (λ x. same_device x d) set

-- each number is above those before it
abbrev pub IsAscending : List DeviceId → Type 0
IsAscending set = IsStrictlySortedBy (on (λ d. d.0) nat_cmp) set

-- d isn't emulated
abbrev pub outside_of : List DeviceId → DeviceId → Bool
outside_of emulated d = not (holds_device emulated d)

-- the number that a list of labels gives a device
abbrev pub label_of : List (Option DeviceId) → DeviceId → Option DeviceId
label_of labels d = unwrap_or (slice_get labels d.0) None

-- a chain of links between outside devices leads from one device to another
pub data IsJoined (net : Network) (outside : DeviceId → Bool) : DeviceId → DeviceId → Type 0 where
  itself : {d : DeviceId} → IsJoined net outside d d
  link : {a b c : DeviceId}
      → IsJoined net outside a b → outside b ≡ true → outside c ≡ true → IsLinked net b c
      → IsJoined net outside a c

-- the label of an outside device is the least device that a chain joins to it
pub record IsIslands
    (net : Network) (outside : DeviceId → Bool) (label : DeviceId → Option DeviceId) : Type 0 where
  pub emulated : (d : DeviceId) → IsDevice net d → outside d ≡ false → label d ≡ None
  pub labelled : (d : DeviceId) → IsDevice net d → outside d ≡ true
      → (i : DeviceId) × (label d ≡ Some i)
  pub joined : (d i : DeviceId) → IsDevice net d → label d ≡ Some i → IsJoined net outside d i
  pub least : (d i x : DeviceId) → IsDevice net d → label d ≡ Some i → IsJoined net outside d x
      → i.0 ≤ x.0

-- Labels of islands: exactly the outside devices have one, and linked outside devices have the
-- same. An island is a class of devices with equal labels; it may be several of the least islands.
pub record IsIslandLabelling
    (net : Network) (outside : DeviceId → Bool) (label : DeviceId → Option DeviceId) : Type 0 where
  pub emulated : (d : DeviceId) → IsDevice net d → outside d ≡ false → label d ≡ None
  pub labelled : (d : DeviceId) → IsDevice net d → outside d ≡ true
      → (i : DeviceId) × (label d ≡ Some i)
  pub linked : (a b : DeviceId) → IsDevice net a → IsDevice net b
      → outside a ≡ true → outside b ≡ true → IsLinked net a b
      → label a ≡ label b

-- two labellings label the same devices, and put the same of them into one island
pub record HaveSameIslands (net : Network) (x y : DeviceId → Option DeviceId) : Type 0 where
  pub labelled : (d : DeviceId) → IsDevice net d → (x d ≡ None) ↔ (y d ≡ None)
  pub together : (a b : DeviceId) → IsDevice net a → IsDevice net b → (x a ≡ x b) ↔ (y a ≡ y b)
