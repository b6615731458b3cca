-- What an outside device says: its rows for the prefixes that its island originates, and nothing
-- else. Below, `label d` is the label of d's island.
use Rattle.std.specs.Prelude.{◌&&◌, Bool, List, length, nat_lt, Option, None, is_some, if◌then◌else◌}
use Rattle.std.specs.List.{list_any}
use Rattle.std.specs.Option.{option_eq}
use Rattle.cn_base.specs.Cidr.{Cidr}
use Rattle.cn_base.specs.declared.ids.DeviceId.{DeviceId}
use Rattle.cn_net.specs.Islands.{label_of}
use Rattle.cn_net.specs.Network.{Network, device_ids, own_origin, same_device}
use Rattle.cn_net.specs.Opening.{Opening}
use Rattle.cn_net.specs.Stable.{Assignment}
use Rattle.cn_record.specs.Rows.{row_for}
use Rattle.cn_record.specs.declared.saved.Row.{Row}

-- d and x are of one island
abbrev pub is_one_island : (DeviceId → Option DeviceId) → DeviceId → DeviceId → Bool
is_one_island label d x = is_some (label d) && option_eq same_device (label d) (label x)

-- d is a device, and some device of its island originates p
unfoldable pub island_originates : Network → (DeviceId → Option DeviceId) → DeviceId → Cidr → Bool
island_originates net label d p =
    nat_lt d.0 (length net.devices)
    && list_any (λ x. is_one_island label d x && is_some (own_origin net x p)) (device_ids net)

-- the row of d and p where d's island originates p, and nothing where it doesn't
unfoldable pub said : Network → (DeviceId → Option DeviceId) → List Row → Assignment
said net label rows d p = if island_originates net label d p then row_for rows d p else None

-- what the outside devices of an opening say by these rows
abbrev pub said_by : Opening → List Row → Assignment
said_by o rows = said o.net (label_of o.labels) rows
