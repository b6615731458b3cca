use Rattle.std.proofs.Common.{◌<◌, List, ap, arith, length, map, set, subst, sym, ◌∙◌}
use Rattle.cn_pack.specs.Packing.{packed}
use Rattle.cn_net.specs.Network.{Network, router_of}
use Rattle.cn_pool.proofs.Pools.{extends_itself}
use Rattle.cn_core.specs.declared.owed.Owed.{Owed}
use Rattle.cn_core.specs.declared.session.Session.{Session}
use Rattle.cn_core.specs.Owed.{rows}
use Rattle.cn_core.specs.OwedLists.{IsListed, owed_over}
use Rattle.cn_core.specs.State.{SessionState}
use Rattle.cn_core.specs.Stored.{IsKeptRight, held_under, rib_under, session_under, stands_for}
use Rattle.cn_core.specs.Whole.{IsWhole}
use Rattle.cn_core.proofs.Changed.{found_to_send, listed_read, message_laid, message_read, place_within, read_session}
use Rattle.cn_core.proofs.Kept.{room_to_send}
use Rattle.cn_core.proofs.StoredKept.{inside_ribs, inside_sessions, kept-more, kept-sent, on_err, read-under, set_same, stands-more, stands-sent, stored}
use Rattle.cn_core.proofs.engine.Engine.send.Goals as goal

pub returns-in_default-clause-ok : goal.returns-in_default-clause-ok
returns-in_default-clause-ok c =
    absurd (found_to_send (stands_for c.args.self.now) c.args.from c.args.to c.requires
    c.in_default.ensures)

pub index-rib-requires : goal.index-rib-requires
index-rib-requires c =
    let s = stands_for c.args.self.now in
    let in' = c.self.inside in
    let at = c.in-Some.at in
    let v = ap stands_for c.self.view_is in
    let under = c.self.invariant.under in
    let whole = subst IsWhole v c.self.invariant.right.whole in
    let range = (place_within s c.args.from c.args.to at whole c.in-Some.ensures).0 in
    let inside =
    inside_sessions in'.certified in'.pool in'.pool in'.sessions.items in'.ribs.items
    (extends_itself in'.pool) under s v at c.in-Some.ensures.inside in
    let within =
    inside_ribs in'.certified in'.pool in'.pool in'.sessions.items in'.ribs.items
    (extends_itself in'.pool) under s v c.args.from.0 range in
    omega (arith, within)

pub message-requires : goal.message-requires
message-requires c =
    let s = stands_for c.args.self.now in
    let in' = c.self.inside in
    let at = c.in-Some.at in
    let v = ap stands_for c.self.view_is in
    let under = c.self.invariant.under in
    let whole = subst IsWhole v c.self.invariant.right.whole in
    let range = (place_within s c.args.from c.args.to at whole c.in-Some.ensures).0 in
    let inside =
    inside_sessions in'.certified in'.pool in'.pool in'.sessions.items in'.ribs.items
    (extends_itself in'.pool) under s v at c.in-Some.ensures.inside in
    let within =
    inside_ribs in'.certified in'.pool in'.pool in'.sessions.items in'.ribs.items
    (extends_itself in'.pool) under s v c.args.from.0 range in
    let ss = map (session_under in'.pool) in'.sessions.items in
    let rs = map (rib_under in'.pool) in'.ribs.items in
    let x = c.index_mut-session.result.now in
    let y = c.index-rib.result.now in
    let read =
    read-under (session_under in'.pool) in'.sessions.items at x inside
    c.index_mut-session.ensures.value in
    let read_rib =
    read-under (rib_under in'.pool) in'.ribs.items c.args.from.0 y within c.index-rib.ensures in
    let o = c.index_mut-lists.result.now in
    subst (λ (n : Network). IsListed (owed_over n (held_under in'.pool y.loc_rib)
    (session_under in'.pool x)) o) (sym c.net-net.ensures)
    (listed_read in'.certified ss rs s v in'.owed.items c.self.invariant.right.listed c.args.from
    c.args.to at (session_under in'.pool x) (rib_under in'.pool y) o c.in-Some.ensures read range
    read_rib c.index_mut-lists.ensures.value)

pub send-requires-clause-room : goal.send-requires-clause-room
send-requires-clause-room c =
    let s = stands_for c.args.self.now in
    let in' = c.self.inside in
    let at = c.in-Some.at in
    let v = ap stands_for c.self.view_is in
    let under = c.self.invariant.under in
    let whole = subst IsWhole v c.self.invariant.right.whole in
    let range = (place_within s c.args.from c.args.to at whole c.in-Some.ensures).0 in
    let inside =
    inside_sessions in'.certified in'.pool in'.pool in'.sessions.items in'.ribs.items
    (extends_itself in'.pool) under s v at c.in-Some.ensures.inside in
    let within =
    inside_ribs in'.certified in'.pool in'.pool in'.sessions.items in'.ribs.items
    (extends_itself in'.pool) under s v c.args.from.0 range in
    let ss = map (session_under in'.pool) in'.sessions.items in
    let rs = map (rib_under in'.pool) in'.ribs.items in
    let x = c.index_mut-session.result.now in
    let y = c.index-rib.result.now in
    let read =
    read-under (session_under in'.pool) in'.sessions.items at x inside
    c.index_mut-session.ensures.value in
    let read_rib =
    read-under (rib_under in'.pool) in'.ribs.items c.args.from.0 y within c.index-rib.ensures in
    subst (λ (z : SessionState). length z.mail < 64)
    (read_session in'.certified ss rs s v c.args.from c.args.to at (session_under in'.pool x)
    c.in-Some.ensures read)
    (room_to_send s c.args.from c.args.to c.requires)

pub invariant_of-self-in_err-send : goal.invariant_of-self-in_err-send
invariant_of-self-in_err-send c =
    let in' = c.self.inside in
    let xs = in'.sessions.items in
    let os = in'.owed.items in
    let at = c.in-Some.at in
    subst (λ (t : List Session × List Owed).
    IsKeptRight (stored in'.certified c.send.new.pool t.0 in'.ribs.items) in'.index t.1
    in'.in_mail in'.in_lists in'.in_ribs)
    (λ j. (
      sym (set_same xs at c.index_mut-session.result.now c.send.new.session
          c.in_err-send.ensures.err_session c.index_mut-session.ensures.value) j,
      sym (set_same os at c.index_mut-lists.result.now c.send.new.lists
          c.in_err-send.ensures.err_lists c.index_mut-lists.ensures.value) j,
    ))
    (kept-more in'.certified in'.pool c.send.new.pool xs in'.ribs.items
    c.in_err-send.ensures.kept in'.index os in'.in_mail in'.in_lists in'.in_ribs
    c.self.invariant)

pub returns-in_err-send-clause-err : goal.returns-in_err-send-clause-err
returns-in_err-send-clause-err c =
    let in' = c.self.inside in
    let xs = in'.sessions.items in
    on_err c.from_residual-in_err-send.result
    ((λ j. stands_for (stored in'.certified c.send.new.pool
    (set_same xs c.in-Some.at c.index_mut-session.result.now c.send.new.session
    c.in_err-send.ensures.err_session c.index_mut-session.ensures.value j) in'.ribs.items))
    ∙ stands-more in'.certified in'.pool c.send.new.pool xs in'.ribs.items
    c.in_err-send.ensures.kept c.self.invariant.under
    ∙ ap stands_for c.self.view_is)

pub invariant_of-self-2 : goal.invariant_of-self-2
invariant_of-self-2 c =
    let s = stands_for c.args.self.now in
    let in' = c.self.inside in
    let at = c.in-Some.at in
    let v = ap stands_for c.self.view_is in
    let under = c.self.invariant.under in
    let whole = subst IsWhole v c.self.invariant.right.whole in
    let range = (place_within s c.args.from c.args.to at whole c.in-Some.ensures).0 in
    let inside =
    inside_sessions in'.certified in'.pool in'.pool in'.sessions.items in'.ribs.items
    (extends_itself in'.pool) under s v at c.in-Some.ensures.inside in
    let within =
    inside_ribs in'.certified in'.pool in'.pool in'.sessions.items in'.ribs.items
    (extends_itself in'.pool) under s v c.args.from.0 range in
    let ss = map (session_under in'.pool) in'.sessions.items in
    let rs = map (rib_under in'.pool) in'.ribs.items in
    let x = c.index_mut-session.result.now in
    let y = c.index-rib.result.now in
    let read =
    read-under (session_under in'.pool) in'.sessions.items at x inside
    c.index_mut-session.ensures.value in
    let read_rib =
    read-under (rib_under in'.pool) in'.ribs.items c.args.from.0 y within c.index-rib.ensures in
    let o = c.index_mut-lists.result.now in
    kept-sent in'.certified in'.pool c.send.new.pool in'.sessions.items in'.ribs.items
    c.in_ok-send.ensures.kept in'.index in'.owed.items in'.in_mail in'.in_lists in'.in_ribs
    c.self.invariant at x c.send.new.session o c.send.new.lists c.in_ok-update.update
    c.set.new.self c.set-2.new.self inside c.index_mut-session.ensures.value
    c.index_mut-lists.ensures.value
    (message_laid in'.certified ss rs s v c.args.from c.args.to at (session_under in'.pool x)
    (rib_under in'.pool y) c.in_ok-update.update c.in-Some.ensures read range read_rib
    (c.in_ok-update.ensures.exact
    ∙ (λ j. packed (rows (owed_over (c.net-net.ensures j) (held_under in'.pool y.loc_rib)
    (session_under in'.pool x))) (router_of (c.net-net.ensures j) x.from).0)))
    c.in_ok-send.ensures.session c.in_ok-send.ensures.lists c.in_ok-send.ensures.under
    (c.set.ensures ∙ ap (set in'.in_mail at) c.len.ensures.length)
    (c.set-2.ensures ∙ ap (set in'.in_lists at) c.len-2.ensures)

pub returns-clause-ok : goal.returns-clause-ok
returns-clause-ok c =
    let s = stands_for c.args.self.now in
    let in' = c.self.inside in
    let at = c.in-Some.at in
    let v = ap stands_for c.self.view_is in
    let under = c.self.invariant.under in
    let whole = subst IsWhole v c.self.invariant.right.whole in
    let range = (place_within s c.args.from c.args.to at whole c.in-Some.ensures).0 in
    let inside =
    inside_sessions in'.certified in'.pool in'.pool in'.sessions.items in'.ribs.items
    (extends_itself in'.pool) under s v at c.in-Some.ensures.inside in
    let within =
    inside_ribs in'.certified in'.pool in'.pool in'.sessions.items in'.ribs.items
    (extends_itself in'.pool) under s v c.args.from.0 range in
    let ss = map (session_under in'.pool) in'.sessions.items in
    let rs = map (rib_under in'.pool) in'.ribs.items in
    let x = c.index_mut-session.result.now in
    let y = c.index-rib.result.now in
    let read =
    read-under (session_under in'.pool) in'.sessions.items at x inside
    c.index_mut-session.ensures.value in
    let read_rib =
    read-under (rib_under in'.pool) in'.ribs.items c.args.from.0 y within c.index-rib.ensures in
    stands-sent in'.certified in'.pool c.send.new.pool in'.sessions.items in'.ribs.items
    c.in_ok-send.ensures.kept under s v c.args.from c.args.to at x c.send.new.session
    c.in_ok-update.update c.in-Some.ensures inside c.index_mut-session.ensures.value
    c.in_ok-send.ensures.session
    (message_read in'.certified ss rs s v c.args.from c.args.to at (session_under in'.pool x)
    (rib_under in'.pool y) c.in_ok-update.update c.in-Some.ensures read range read_rib
    (c.in_ok-update.ensures.exact
    ∙ (λ j. packed (rows (owed_over (c.net-net.ensures j) (held_under in'.pool y.loc_rib)
    (session_under in'.pool x))) (router_of (c.net-net.ensures j) x.from).0)))
