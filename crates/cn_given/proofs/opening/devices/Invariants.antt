use Rattle.std.proofs.Common.{All}
use Rattle.cn_net.specs.Network.{IsDevice}
use Rattle.cn_given.proofs.opening.devices.Given as goal

abbrev pub invariant-loop-name : goal.invariant-loop-name
invariant-loop-name l = All (IsDevice l.net) l.devices.items
