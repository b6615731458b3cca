use Rattle.std.proofs.Common.{◌∙◌, ap, sym, subst}
use Rattle.std.specs.Prelude.{option_copied, option_map}
use Rattle.cn_core.specs.Stored.{Stored, session_under, stands_for}
use Rattle.cn_core.specs.Whole.{IsWhole}
use Rattle.cn_core.proofs.Firsts.{pending-dirty, pending-dirty_before, pending-none, pending-sender, pending-sender_before, pending_within}
use Rattle.cn_core.proofs.engine.Engine.first_pending.Goals as goal

pub returns-then-from-device-clause-first : goal.returns-then-from-device-clause-first
returns-then-from-device-clause-first c =
    let n = c.args.self.now in
    let s = stands_for n in
    let whole =
    subst (λ (t : Stored). IsWhole (stands_for t)) c.self.view_is c.self.invariant.right.whole in
    let x = session_under n.pool c.in-Some-Some.session.now in
    sym (pending-sender_before s whole c.in-Some-Some.device x
    (sym c.first_dirty.ensures ∙ c.in-Some-Some.is-0)
    (sym c.debtor.ensures
    ∙ ap (λ o. option_map (session_under n.pool) (option_copied o)) c.in-Some-Some.is-1)
    c.if-from-device.true)

pub returns-then-from-device-clause-within : goal.returns-then-from-device-clause-within
returns-then-from-device-clause-within c =
    pending_within (stands_for c.args.self.now) c.in-Some-Some.session.now.from
    (returns-then-from-device-clause-first c)

pub returns-else-from-device-clause-first : goal.returns-else-from-device-clause-first
returns-else-from-device-clause-first c =
    let n = c.args.self.now in
    let s = stands_for n in
    let whole =
    subst (λ (t : Stored). IsWhole (stands_for t)) c.self.view_is c.self.invariant.right.whole in
    sym (pending-dirty_before s whole c.in-Some-Some.device
    (session_under n.pool c.in-Some-Some.session.now)
    (sym c.first_dirty.ensures ∙ c.in-Some-Some.is-0)
    (sym c.debtor.ensures
    ∙ ap (λ o. option_map (session_under n.pool) (option_copied o)) c.in-Some-Some.is-1)
    c.if-from-device.false)

pub returns-else-from-device-clause-within : goal.returns-else-from-device-clause-within
returns-else-from-device-clause-within c =
    pending_within (stands_for c.args.self.now) c.in-Some-Some.device
    (returns-else-from-device-clause-first c)

pub returns-in-Some-None-clause-first : goal.returns-in-Some-None-clause-first
returns-in-Some-None-clause-first c =
    let n = c.args.self.now in
    let s = stands_for n in
    let whole =
    subst (λ (t : Stored). IsWhole (stands_for t)) c.self.view_is c.self.invariant.right.whole in
    sym (pending-dirty s whole c.in-Some-None.device
    (sym c.first_dirty.ensures ∙ c.in-Some-None.is-0)
    (sym c.debtor.ensures
    ∙ ap (λ o. option_map (session_under n.pool) (option_copied o)) c.in-Some-None.is-1))

pub returns-in-Some-None-clause-within : goal.returns-in-Some-None-clause-within
returns-in-Some-None-clause-within c =
    pending_within (stands_for c.args.self.now) c.in-Some-None.device
    (returns-in-Some-None-clause-first c)

pub returns-in-None-Some-clause-first : goal.returns-in-None-Some-clause-first
returns-in-None-Some-clause-first c =
    let n = c.args.self.now in
    let s = stands_for n in
    let whole =
    subst (λ (t : Stored). IsWhole (stands_for t)) c.self.view_is c.self.invariant.right.whole in
    let x = session_under n.pool c.in-None-Some.session.now in
    sym (pending-sender s whole x
    (sym c.first_dirty.ensures ∙ c.in-None-Some.is-0)
    (sym c.debtor.ensures
    ∙ ap (λ o. option_map (session_under n.pool) (option_copied o)) c.in-None-Some.is-1))

pub returns-in-None-Some-clause-within : goal.returns-in-None-Some-clause-within
returns-in-None-Some-clause-within c =
    pending_within (stands_for c.args.self.now) c.in-None-Some.session.now.from
    (returns-in-None-Some-clause-first c)

pub returns-in-None-None-clause-first : goal.returns-in-None-None-clause-first
returns-in-None-None-clause-first c =
    let n = c.args.self.now in
    let s = stands_for n in
    let whole =
    subst (λ (t : Stored). IsWhole (stands_for t)) c.self.view_is c.self.invariant.right.whole in
    sym (pending-none s whole
    (sym c.first_dirty.ensures ∙ c.in-None-None.is-0)
    (sym c.debtor.ensures
    ∙ ap (λ o. option_map (session_under n.pool) (option_copied o)) c.in-None-None.is-1))
