-- A network after a change: another state of a link, or another body of a device.
use Rattle.std.specs.Prelude.{◌&&◌, ◌||◌, Bool, if◌then◌else◌, map, option_map, set, unwrap_or}
use Rattle.cn_base.specs.declared.ids.DeviceId.{DeviceId}
use Rattle.cn_net.specs.Network.{Network, device_of, joins, same_device}
use Rattle.cn_net.specs.declared.device.Body.{Body}
use Rattle.cn_net.specs.declared.device.Device.{Device}
use Rattle.cn_net.specs.declared.device.Link.{Link}

-- the link with this state
abbrev pub with_state : Bool → Link → Link
with_state up l = record { a = l.a; b = l.b; up = up }

-- the network in which the link of a and b, in either order, is up or down
abbrev pub with_link : Network → DeviceId → DeviceId → Bool → Network
with_link net a b up = record {
  devices = net.devices;
  links = map (λ l. if joins a b l then with_state up l else l) net.links;
}

-- the device with another body, as after a reload
abbrev pub reloaded : Body → Device → Device
reloaded body x = record { name = x.name; layer = x.layer; id = x.id; body = body }

-- the network with this body of d; without such a device it is as it was
abbrev pub with_body : Network → DeviceId → Body → Network
with_body net d body = record {
  devices = unwrap_or (option_map (λ x. set net.devices d.0 (reloaded body x)) (device_of net d))
      net.devices;
  links = net.links;
}

-- x and y are a and b, in either order
abbrev pub same_two : DeviceId → DeviceId → DeviceId → DeviceId → Bool
same_two a b x y = (same_device x a && same_device y b) || (same_device x b && same_device y a)
