use Rattle.std.proofs.Common.{◌≡◌, true, false, arith, sym}
use Rattle.std.specs.List.{list_any}
use Rattle.std.proofs.lemmas.Grind.{common_steps}
use Rattle.cn_net.specs.Network.{same_device}
use Rattle.cn_change.proofs.Twice.{first_twice-here, first_twice-later}
use Rattle.cn_change.proofs.faults.repeated_peer.Goals as goal
use Rattle.cn_net.specs.declared.device.Peer.{Peer}

pub returns-then-not-branch : goal.returns-then-not-branch
returns-then-not-branch c =
    let x : Peer = c.one-item.result in
    let stands : list_any (same_device x.device) c.loop-one.before.keys ≡ true =
    grind (arith, common_steps, c.in_ok-insert.ensures.added) in
    sym (first_twice-here same_device (λ p. p.device) c.args.peers.now c.loop-one.one-index x
    c.loop-one.before.keys (omega arith) c.one-item.is c.loop-one.invariant stands)

pub loop-one-preserved : goal.loop-one-preserved
loop-one-preserved c =
    let x : Peer = c.one-item.result in
    let fresh : list_any (same_device x.device) c.loop-one.before.keys ≡ false =
    grind (arith, common_steps, c.in_ok-insert.ensures.added) in
    first_twice-later same_device (λ p. p.device) c.args.peers.now c.loop-one.one-index x
    c.loop-one.before.keys (omega arith) c.one-item.is c.loop-one.invariant
    c.insert.new.self.keys fresh c.in_ok-insert.ensures.keys
