-- A network with some of its devices alone: what is left of it where the others say nothing.
-- Below, `s d` says that d is one of these devices.
use Rattle.std.specs.Prelude.{ℕ, ◌+◌, Bool, ◌&&◌, List, [], ◌∷◌, filter, if◌then◌else◌}
use Rattle.cn_base.specs.declared.ids.DeviceId.{DeviceId}
use Rattle.cn_net.specs.Network.{Network}
use Rattle.cn_net.specs.declared.device.Device.{Device}

-- the device, which originates nothing unless it is kept
abbrev pub without_origins : Bool → Device → Device
without_origins keep d = if keep then d else (record d { body = record d.body { own = [] } })

-- the devices, of which the first has number n, and those that aren't in s originate nothing
abbrev pub without_origins_from : (DeviceId → Bool) → ℕ → List Device → List Device
without_origins_from s n [] = []
without_origins_from s n (d ∷ ds) =
    without_origins (s (record { 0 = n })) d ∷ without_origins_from s (n + 1) ds

-- all devices keep their numbers, a link with an end that isn't in s goes, and devices that aren't
-- in s originate nothing
unfoldable pub restricted : Network → (DeviceId → Bool) → Network
restricted net s = record {
  devices = without_origins_from s 0 net.devices;
  links = filter (λ l. s l.a && s l.b) net.links;
}
