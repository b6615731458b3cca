use Rattle.std.proofs.Common.{◌<◌, length, map, sym, ap, ◌∙◌, subst, arith}
use Rattle.std.proofs.lemmas.List.{get_or-map, length-map}
use Rattle.cn_core.specs.declared.session.Session.{Session}
use Rattle.cn_core.specs.OwedLists.{IsListed, owed_over}
use Rattle.cn_core.specs.Stored.{held_under, rib_under, session_under}
use Rattle.cn_core.proofs.ListsMade.{listed-next}
use Rattle.cn_core.proofs.start.lists.Goals as goal

pub loop-session-preserved : goal.loop-session-preserved
loop-session-preserved c =
    let pool = c.args.pool.now in
    let sessions = c.args.sessions.now in
    let ribs = c.args.ribs.now in
    let x = c.session-item.result in
    let y = c.index-ribs-session.result in
    let i = c.loop-session.session-index in
    let o = c.in_ok-listed.field-0 in
    let within : x.from.0 < length ribs =
    subst (λ (u : Session). u.from.0 < length ribs) (sym c.session-item.is)
    (c.requires i x c.loop-session-test.true) in
    listed-next c.args.certified.now (map (session_under pool) sessions)
    (map (rib_under pool) ribs) i c.loop-session.lists.items c.push.new.self.items
    (session_under pool x) (rib_under pool y) o c.loop-session.invariant
    (omega (arith, c.loop-session-test.true, length-map sessions (session_under pool)))
    (ap (session_under pool) c.session-item.is
    ∙ sym (get_or-map (session_under pool) sessions i x (session_under pool x)
    c.loop-session-test.true))
    (omega (arith, within, length-map ribs (rib_under pool)))
    (ap (rib_under pool) c.index-ribs-session.is
    ∙ sym (get_or-map (rib_under pool) ribs x.from.0 y (rib_under pool y) within))
    (subst (λ net. IsListed (owed_over net (held_under pool y.loc_rib) (session_under pool x)) o)
    c.net-net.ensures c.in_ok-listed.ensures)
    c.in_ok-push.ensures.items
