-- What a device holds for a prefix, as a text.
use Rattle.std.specs.Prelude.{ℕ, codes, List, ◌++◌, Option, Some, None}
use Rattle.cn_base.specs.declared.ids.DeviceId.{DeviceId}
use Rattle.cn_base.specs.declared.route.Choice.{Choice}
use Rattle.cn_net.specs.Network.{Network, name_of}
use Rattle.cn_text.specs.Printed.{path_text, origin_text}

-- where a route came from: the device itself, or the device that sent it
abbrev pub source_text : Network → Option DeviceId → List ℕ
source_text net None = codes "own"
source_text net (Some sender) = codes "from " ++ name_of net sender

-- a choice: where it came from, its path and its ORIGIN
abbrev pub choice_text : Network → Choice → List ℕ
choice_text net c =
    source_text net c.from ++ codes " path " ++ path_text c.path ++ codes " origin "
    ++ origin_text c.origin
