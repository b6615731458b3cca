use Rattle.std.proofs.Common.{map}
use Rattle.cn_net.specs.Network.{same_device}
use Rattle.cn_change.proofs.Twice.{IsSearched}
use Rattle.cn_change.proofs.faults.repeated_peer.Given as goal

abbrev pub invariant-loop-one : goal.invariant-loop-one
invariant-loop-one l =
    IsSearched same_device (map (λ p. p.device) l.peers) l.one-index l.before.keys
