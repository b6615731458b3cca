use Rattle.std.proofs.Common.{◌≡◌, drop, map, take}
use Rattle.cn_net.specs.Faults.{first_from, first_in, peer_fault}
use Rattle.cn_net.specs.Numbered.{peer_made, texts}
use Rattle.cn_net.proofs.Known.{peer_number}
use Rattle.cn_net.proofs.make.known_peers.Given as goal

abbrev pub invariant-loop-draft : goal.invariant-loop-draft
invariant-loop-draft l =
    let names = texts l.names.keys in
    let i = l.draft-index in
    record {
      made : l.known.items ≡ map (peer_made names) (take i l.peers);
      numbers : l.before.keys ≡ map (peer_number names) (take i l.peers);
      first : first_in (peer_fault names l.device) l.peers
          ≡ first_from (peer_fault names l.device) (take i l.peers) (drop i l.peers);
    }
