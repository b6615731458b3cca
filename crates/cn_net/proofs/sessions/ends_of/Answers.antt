use Rattle.std.proofs.Common.{◌≡◌, length, ap, sym, ◌∙◌, arith}
use Rattle.std.specs.List.{flat_map}
use Rattle.cn_net.specs.Sessions.{session_ends, sessions_from}
use Rattle.cn_net.proofs.Indexing.{all_ids, ends_more, ids, no_ids}
use Rattle.cn_net.proofs.sessions.ends_of.Goals as goal

pub loop-from-init : goal.loop-from-init
loop-from-init c =
    c.in_ok-ends.ensures.items
    ∙ sym (ap (flat_map (sessions_from c.args.net.now c.args.emulated.now)) no_ids)

pub loop-from-preserved : goal.loop-from-preserved
loop-from-preserved c =
    ends_more (sessions_from c.args.net.now c.args.emulated.now) c.loop-from.from
    c.loop-from.ends.items c.in_ok-ends-2.ends.items c.loop-from.invariant c.in_ok-ends-2.ensures

pub returns : goal.returns
unfolding session_ends
returns c =
    let net = c.args.net.now in
    let end : c.loop-from.from ≡ length net.devices = omega arith in
    c.loop-from.invariant
    ∙ ap (λ n. flat_map (sessions_from net c.args.emulated.now) (ids n)) end
    ∙ ap (flat_map (sessions_from net c.args.emulated.now)) (all_ids net)
