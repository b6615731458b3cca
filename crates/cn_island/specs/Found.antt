-- The devices that were found so far, and the labels that they got. These are words of the crate's
-- private functions alone: what `islands` gives is said by `IsIslands` of cn_net, and no layer
-- above needs them.
use Rattle.std.specs.Prelude.{◌≡◌, ◌⊎◌, ◌<◌, ◌≤◌, ℕ, Bool, true, List, Option, Some, None, is_some, length, slice_index_or}
use Rattle.std.specs.List.{count_by}
use Rattle.cn_base.specs.declared.ids.DeviceId.{DeviceId}
use Rattle.cn_net.specs.Islands.{IsJoined, holds_device, label_of}
use Rattle.cn_net.specs.Network.{Network, IsLinked}

-- the devices with a label are those that were found, and each stands once in the list
pub record IsFound (labels : List (Option DeviceId)) (found : List DeviceId) : Type 0 where
  pub labelled : (d : DeviceId) → is_some (label_of labels d) ≡ holds_device found d
  pub once : length found ≡ count_by is_some labels

-- each device with a property that had no label got the label of one island, and beside these
-- nothing changed
pub record IsSpread (P : DeviceId → Type 0) (island : DeviceId)
    (labels labels' : List (Option DeviceId)) (found found' : List DeviceId) : Type 0 where
  pub longer : length found ≤ length found'
  pub front : (k : ℕ) (d : DeviceId) → k < length found
      → slice_index_or found' k d ≡ slice_index_or found k d
  pub behind : (k : ℕ) (d : DeviceId) → length found ≤ k → k < length found'
      → label_of labels' (slice_index_or found' k d) ≡ Some island
  pub kept : (d i : DeviceId) → label_of labels d ≡ Some i → label_of labels' d ≡ Some i
  pub all : (d : DeviceId) → P d → is_some (label_of labels' d) ≡ true
  pub only : (d i : DeviceId) → label_of labels' d ≡ Some i → (label_of labels d ≡ Some i)
      ⊎ ((label_of labels d ≡ None) × P d × (i ≡ island))

-- the next device of a chain: b is outside and linked to a
abbrev pub IsNext : Network → (DeviceId → Bool) → DeviceId → DeviceId → Type 0
IsNext net outside a b = IsLinked net a b × (outside b ≡ true)

-- Labels are those of islands as far as they go: each outside device with a number below `low` has
-- one, and the first `next` of the devices that were found have the label of each device that a
-- link leads on to.
pub record IsSearched (net : Network) (outside : DeviceId → Bool) (labels : List (Option DeviceId))
    (found : List DeviceId) (next low : ℕ) : Type 0 where
  pub size : length labels ≡ length net.devices
  pub listed : IsFound labels found
  pub inside : next ≤ length found
  pub outer : (d i : DeviceId) → label_of labels d ≡ Some i → outside d ≡ true
  pub joined : (d i : DeviceId) → label_of labels d ≡ Some i → IsJoined net outside d i
  pub least : (d i : DeviceId) → label_of labels d ≡ Some i → i.0 ≤ d.0
  pub below : (d : DeviceId) → d.0 < low → d.0 < length net.devices → outside d ≡ true
      → is_some (label_of labels d) ≡ true
  pub spread : (k : ℕ) (d b : DeviceId) → k < next → IsNext net outside (slice_index_or found k d) b
      → label_of labels b ≡ label_of labels (slice_index_or found k d)
