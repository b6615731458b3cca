-- What is pending in an emulation, as a text.
use Rattle.std.specs.Prelude.{ℕ, codes, List, [], ◌++◌}
use Rattle.cn_base.specs.declared.ids.DeviceId.{DeviceId}
use Rattle.cn_base.specs.declared.standing.Standing.{Standing}
use Rattle.cn_base.specs.declared.standing.Standing.TheVariants.{Quiet, Mailbox, Device}
use Rattle.cn_net.specs.Network.{Network, name_of}
use Rattle.cn_text.specs.Printed.{pair_text}

-- the two devices of a session, the sender first
abbrev pub paired : Network → DeviceId → DeviceId → List ℕ
paired net from to = pair_text (name_of net from) (name_of net to)

-- what is pending first, behind a space, and nothing where nothing is
abbrev pub pending_text : Network → Standing → List ℕ
pending_text net Quiet = []
pending_text net (Mailbox from to) = codes " mailbox " ++ paired net from to
pending_text net (Device device) = codes " device " ++ name_of net device
