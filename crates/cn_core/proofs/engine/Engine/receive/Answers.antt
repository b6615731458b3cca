use Rattle.std.proofs.Common.{List, ap, arith, set, subst, sym, ◌∙◌}
use Rattle.cn_pool.proofs.Pools.{extends_itself}
use Rattle.cn_core.specs.declared.session.Rib.{Rib}
use Rattle.cn_core.specs.declared.session.Session.{Session}
use Rattle.cn_core.specs.Machine.{receive}
use Rattle.cn_core.specs.State.{SessionState}
use Rattle.cn_core.specs.Stored.{IsKeptRight, stands_for}
use Rattle.cn_core.specs.Whole.{IsWhole}
use Rattle.cn_core.proofs.Changed.{place_within}
use Rattle.cn_core.proofs.Places.{session_nowhere}
use Rattle.cn_core.proofs.StoredKept.{inside_ribs, inside_sessions, kept-more, kept-received, on_err, set_same, stands-more, stands-received, stored, within_dirty}
use Rattle.cn_core.proofs.engine.Engine.receive.Goals as goal

pub returns-in_default-clause-ok : goal.returns-in_default-clause-ok
returns-in_default-clause-ok c =
    let s = stands_for c.args.self.now in
    sym (ap (λ (x : SessionState). receive s c.args.from c.args.to x.mail)
    (session_nowhere s c.args.from c.args.to c.in_default.ensures))

pub index_mut-rib-requires : goal.index_mut-rib-requires
index_mut-rib-requires c =
    let s = stands_for c.args.self.now in
    let in' = c.self.inside in
    let at = c.in-Some.at in
    let v = ap stands_for c.self.view_is in
    let under = c.self.invariant.under in
    let whole = subst IsWhole v c.self.invariant.right.whole in
    let range = (place_within s c.args.from c.args.to at whole c.in-Some.ensures).1 in
    let inside =
    inside_sessions in'.certified in'.pool in'.pool in'.sessions.items in'.ribs.items
    (extends_itself in'.pool) under s v at c.in-Some.ensures.inside in
    let within =
    inside_ribs in'.certified in'.pool in'.pool in'.sessions.items in'.ribs.items
    (extends_itself in'.pool) under s v c.args.to.0 range in
    omega (arith, within)

pub invariant_of-self : goal.invariant_of-self
invariant_of-self c =
    let in' = c.self.inside in
    let xs = in'.sessions.items in
    let ys = in'.ribs.items in
    subst (λ (t : List Session × List Rib).
    IsKeptRight (stored in'.certified c.receive.new.pool t.0 t.1) in'.index in'.owed.items
    in'.in_mail in'.in_lists in'.in_ribs)
    (λ j. (
      sym (set_same xs c.in-Some.at c.index_mut-session.result.now c.receive.new.session
          c.in_err-receive.ensures.err_session c.index_mut-session.ensures.value) j,
      sym (set_same ys c.args.to.0 c.index_mut-rib.result.now c.receive.new.rib
          c.in_err-receive.ensures.err_rib c.index_mut-rib.ensures.value) j,
    ))
    (kept-more in'.certified in'.pool c.receive.new.pool xs ys c.in_err-receive.ensures.kept
    in'.index in'.owed.items in'.in_mail in'.in_lists in'.in_ribs c.self.invariant)

pub returns-in_err-receive-clause-err : goal.returns-in_err-receive-clause-err
returns-in_err-receive-clause-err c =
    let in' = c.self.inside in
    let xs = in'.sessions.items in
    let ys = in'.ribs.items in
    on_err c.from_residual.result
    ((λ j. stands_for (stored in'.certified c.receive.new.pool
    (set_same xs c.in-Some.at c.index_mut-session.result.now c.receive.new.session
    c.in_err-receive.ensures.err_session c.index_mut-session.ensures.value j)
    (set_same ys c.args.to.0 c.index_mut-rib.result.now c.receive.new.rib
    c.in_err-receive.ensures.err_rib c.index_mut-rib.ensures.value j)))
    ∙ stands-more in'.certified in'.pool c.receive.new.pool xs ys c.in_err-receive.ensures.kept
    c.self.invariant.under
    ∙ ap stands_for c.self.view_is)

pub set-requires-2 : goal.set-requires-2
set-requires-2 c =
    let s = stands_for c.args.self.now in
    let in' = c.self.inside in
    let at = c.in-Some.at in
    let v = ap stands_for c.self.view_is in
    let under = c.self.invariant.under in
    let whole = subst IsWhole v c.self.invariant.right.whole in
    let range = (place_within s c.args.from c.args.to at whole c.in-Some.ensures).1 in
    let inside =
    inside_sessions in'.certified in'.pool in'.pool in'.sessions.items in'.ribs.items
    (extends_itself in'.pool) under s v at c.in-Some.ensures.inside in
    let within =
    inside_ribs in'.certified in'.pool in'.pool in'.sessions.items in'.ribs.items
    (extends_itself in'.pool) under s v c.args.to.0 range in
    within_dirty in'.certified in'.pool in'.sessions.items in'.ribs.items in'.index in'.owed.items
    in'.in_mail in'.in_lists in'.in_ribs c.self.invariant c.args.to.0 within

pub invariant_of-self-2 : goal.invariant_of-self-2
invariant_of-self-2 c =
    let s = stands_for c.args.self.now in
    let in' = c.self.inside in
    let at = c.in-Some.at in
    let v = ap stands_for c.self.view_is in
    let under = c.self.invariant.under in
    let whole = subst IsWhole v c.self.invariant.right.whole in
    let range = (place_within s c.args.from c.args.to at whole c.in-Some.ensures).1 in
    let inside =
    inside_sessions in'.certified in'.pool in'.pool in'.sessions.items in'.ribs.items
    (extends_itself in'.pool) under s v at c.in-Some.ensures.inside in
    let within =
    inside_ribs in'.certified in'.pool in'.pool in'.sessions.items in'.ribs.items
    (extends_itself in'.pool) under s v c.args.to.0 range in
    kept-received in'.certified in'.pool c.receive.new.pool in'.sessions.items in'.ribs.items
    c.in_ok-receive.ensures.kept in'.index in'.owed.items in'.in_mail in'.in_lists in'.in_ribs
    c.self.invariant at c.args.to.0 c.index_mut-session.result.now c.receive.new.session
    c.index_mut-rib.result.now c.receive.new.rib c.set.new.self c.set-2.new.self inside
    c.index_mut-session.ensures.value within c.index_mut-rib.ensures.value
    c.in_ok-receive.ensures.session c.in_ok-receive.ensures.rib c.in_ok-receive.ensures.best
    c.in_ok-receive.ensures.under
    (c.set.ensures ∙ ap (set in'.in_mail at) c.len-left.ensures.length)
    (c.set-2.ensures ∙ ap (set in'.in_ribs c.args.to.0) c.len.ensures)

pub returns-clause-ok : goal.returns-clause-ok
returns-clause-ok c =
    let s = stands_for c.args.self.now in
    let in' = c.self.inside in
    let at = c.in-Some.at in
    let v = ap stands_for c.self.view_is in
    let under = c.self.invariant.under in
    let whole = subst IsWhole v c.self.invariant.right.whole in
    let range = (place_within s c.args.from c.args.to at whole c.in-Some.ensures).1 in
    let more = c.in_ok-receive.ensures.kept in
    stands-received in'.certified in'.pool c.receive.new.pool in'.sessions.items in'.ribs.items
    more under s v c.args.from c.args.to at c.index_mut-session.result.now c.receive.new.session
    c.index_mut-rib.result.now c.receive.new.rib c.in-Some.ensures
    (inside_sessions in'.certified in'.pool c.receive.new.pool in'.sessions.items in'.ribs.items
    more under s v at c.in-Some.ensures.inside)
    c.index_mut-session.ensures.value range
    (inside_ribs in'.certified in'.pool c.receive.new.pool in'.sessions.items in'.ribs.items
    more under s v c.args.to.0 range)
    c.index_mut-rib.ensures.value c.in_ok-receive.ensures.session c.in_ok-receive.ensures.rib
    c.in_ok-receive.ensures.best
