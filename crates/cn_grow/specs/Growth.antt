-- Sets of devices that grow upwards along links.
use Rattle.std.specs.Prelude.{◌≡◌, ◌<◌, ℕ, true, List, option_map, unwrap_or}
use Rattle.cn_base.specs.declared.ids.DeviceId.{DeviceId}
use Rattle.cn_net.specs.Islands.{holds_device}
use Rattle.cn_net.specs.Network.{Network, IsLinked, device_of}

-- a device's layer; 0 where there is no such device
abbrev pub layer_of : Network → DeviceId → ℕ
layer_of net d = unwrap_or (option_map (λ x. x.layer) (device_of net d)) 0

-- b is linked to a, up or down, and has a greater layer
abbrev pub IsAbove : Network → DeviceId → DeviceId → Type 0
IsAbove net a b = IsLinked net a b × (layer_of net a < layer_of net b)

-- each device of one set is in the other
abbrev pub IsPartOf : List DeviceId → List DeviceId → Type 0
IsPartOf xs ys = (d : DeviceId) → holds_device xs d ≡ true → holds_device ys d ≡ true

-- each device that is linked to a member and has a greater layer is a member
abbrev pub IsClosed : Network → List DeviceId → Type 0
IsClosed net set = (a b : DeviceId) → holds_device set a ≡ true → IsAbove net a b
    → holds_device set b ≡ true

-- the set holds the given devices and is closed, and every closed set that holds them holds it
pub record IsGrown (net : Network) (must set : List DeviceId) : Type 0 where
  pub given : IsPartOf must set
  pub closed : IsClosed net set
  pub least : (other : List DeviceId) → IsPartOf must other → IsClosed net other
      → IsPartOf set other
