use Rattle.std.proofs.Common.{◌≡◌, ◌<◌, ◌∷◌, ◌++◌, [], true, false, length, if◌then◌else◌, take, arith, ap, ◌∙◌}
use Rattle.std.specs.List.{list_any}
use Rattle.std.proofs.lemmas.Grind.{common_steps}
use Rattle.cn_net.specs.Faults.{peer_fault}
use Rattle.cn_net.specs.Network.{same_device}
use Rattle.cn_net.specs.Numbered.{peer_made, texts}
use Rattle.cn_net.specs.declared.fault.NetFault.TheVariants.{DuplicatePeer}
use Rattle.cn_net.proofs.Finding.{peer_new, peer_repeated}
use Rattle.cn_net.proofs.First.{first_here, first_later}
use Rattle.cn_net.proofs.Known.{peer_number}
use Rattle.cn_net.proofs.Steps.{pushed_more}
use Rattle.cn_net.proofs.make.known_peers.Goals as goal

pub returns-then-not-branch-clause-first : goal.returns-then-not-branch-clause-first
returns-then-not-branch-clause-first c =
    let names = texts c.args.names.now.keys in
    let device = c.args.device in
    let peers = c.args.peers.now in
    let i = c.loop-draft.draft-index in
    let draft = c.draft-item.result in
    let so = c.loop-draft.invariant in
    let peer = c.in_ok-peer.peer in
    let known = c.in_ok-peer.ensures in
    let before = c.loop-draft.before.keys in
    let stands : list_any (same_device peer) before ≡ true =
    grind (arith, common_steps, c.in_ok-insert.ensures.added) in
    first_here (peer_fault names device) peers i draft (DuplicatePeer device peer)
    (omega arith) c.draft-item.is so.first
    (peer_repeated names device (take i peers) draft peer before known.ok so.numbers known.first
    stands)

pub loop-draft-preserved : goal.loop-draft-preserved
loop-draft-preserved c =
    let names = texts c.args.names.now.keys in
    let device = c.args.device in
    let peers = c.args.peers.now in
    let i = c.loop-draft.draft-index in
    let draft = c.draft-item.result in
    let is = c.draft-item.is in
    let within : i < length peers = omega arith in
    let so = c.loop-draft.invariant in
    let peer = c.in_ok-peer.peer in
    let known = c.in_ok-peer.ensures in
    let before = c.loop-draft.before.keys in
    let old = c.loop-draft.known.items in
    let fresh : list_any (same_device peer) before ≡ false =
    grind (arith, common_steps, c.in_ok-insert.ensures.added) in
    let put : c.insert.new.self.keys ≡ before ++ peer_number names draft ∷ [] =
    c.in_ok-insert.ensures.keys
    ∙ ap (λ t. if t then before else (before ++ peer ∷ [])) fresh
    ∙ ap (λ d. before ++ d ∷ []) known.ok in
    let made : record { device = peer; policy = c.in_ok-policy.policy } ≡ peer_made names draft =
    λ j. record { device = known.ok j; policy = c.in_ok-policy.ensures j } in
    let pushed : c.push.new.self.items ≡ old ++ peer_made names draft ∷ [] =
    c.in_ok-push.ensures.items ∙ ap (λ p. old ++ p ∷ []) made in
    record {
      made = pushed_more (peer_made names) peers i draft within is old c.push.new.self.items so.made
          pushed;
      numbers =
          pushed_more (peer_number names) peers i draft within is before c.insert.new.self.keys
          so.numbers put;
      first = first_later (peer_fault names device) peers i draft within is so.first
          (peer_new names device (take i peers) draft peer before known.ok so.numbers known.first
          fresh);
    }
