-- What an emulation opens with: a network, the devices that are emulated, and the labels of the
-- others' islands.
use Rattle.std.specs.Prelude.{All, List, Option}
use Rattle.cn_base.specs.declared.ids.DeviceId.{DeviceId}
use Rattle.cn_net.specs.Certificate.{IsCertified}
use Rattle.cn_net.specs.Islands.{IsAscending, IsIslandLabelling, label_of, outside_of}
use Rattle.cn_net.specs.Network.{Network, IsDevice}
use Rattle.cn_net.specs.Valid.{IsValid}

-- a network, the numbers of its emulated devices, and an entry for each device: the label of its
-- island, if it isn't emulated
pub record Opening : Type 0 where
  pub net : Network
  pub emulated : List DeviceId
  pub labels : List (Option DeviceId)

-- A certified opening: the network is valid, the emulated devices are some of its own, in ascending
-- order, the labels fit, and each island has its certificate.
pub record IsOpening (o : Opening) : Type 0 where
  pub valid : IsValid o.net
  pub devices : All (IsDevice o.net) o.emulated
  pub ascending : IsAscending o.emulated
  pub labelling : IsIslandLabelling o.net (outside_of o.emulated) (label_of o.labels)
  pub certified : IsCertified o.net (outside_of o.emulated) (label_of o.labels)
