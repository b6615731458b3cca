use Rattle.std.proofs.Common.{subst, arith}
use Rattle.cn_net.proofs.Lookups.{AreFrom, no_device, range_at}
use Rattle.cn_net.proofs.sessions.SessionIndex.from.Goals as goal

pub returns-then-device-len-clause-ordered : goal.returns-then-device-len-clause-ordered
returns-then-device-len-clause-ordered c =
    let inside = c.self.inside in
    (range_at inside.ends.items inside.starts.items c.args.device c.index.result.now
    c.index-then-device-len.result.now c.self.invariant.begin (omega arith) c.index.ensures
    c.index-then-device-len.ensures).ordered

pub returns-then-device-len-clause-these : goal.returns-then-device-len-clause-these
returns-then-device-len-clause-these c =
    let inside = c.self.inside in
    let s = c.index.result.now in
    let e = c.index-then-device-len.result.now in
    (subst (λ es. AreFrom es c.args.device s e) c.self.view_is
    (range_at inside.ends.items inside.starts.items c.args.device s e c.self.invariant.begin
    (omega arith) c.index.ensures c.index-then-device-len.ensures)).these

pub returns-else-device-len-clause-these : goal.returns-else-device-len-clause-these
returns-else-device-len-clause-these c =
    let inside = c.self.inside in
    (subst (λ es. AreFrom es c.args.device 0 0) c.self.view_is
    (no_device inside.ends.items inside.starts.items c.args.device c.self.invariant.senders
    (omega arith))).these
