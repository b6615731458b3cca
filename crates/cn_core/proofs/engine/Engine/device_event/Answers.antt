use Rattle.std.proofs.Common.{◌≡◌, ◌∙◌, ap, sym, subst, Some, None}
use Rattle.std.specs.Prelude.{option_copied, option_map}
use Rattle.std.specs.List.{find}
use Rattle.cn_rib.specs.PrefixSet as set
use Rattle.cn_core.specs.Order.{device_event, send_over}
use Rattle.cn_core.specs.Owed.{owes}
use Rattle.cn_core.specs.State.{rib}
use Rattle.cn_core.specs.Stored.{Stored, session_under, stands_for}
use Rattle.cn_core.specs.Whole.{IsWhole}
use Rattle.cn_core.proofs.Firsts.{pending-sends}
use Rattle.cn_core.proofs.engine.Engine.device_event.Goals as goal

pub returns-in_err-session : goal.returns-in_err-session
returns-in_err-session c =
    let n = c.args.self.now in
    let s = stands_for n in
    let d = c.args.device in
    let whole =
    subst (λ (t : Stored). IsWhole (stands_for t)) c.self.view_is c.self.invariant.right.whole in
    let clean : set.least (rib s d).dirty ≡ None = sym c.least_dirty.ensures ∙ c.in_default.is in
    let none : find (owes s) s.sessions ≡ None =
    sym c.debtor.ensures
    ∙ ap (λ o. option_map (session_under n.pool) (option_copied o)) c.in_err-session.was in
    c.from_residual.ensures
    ∙ sym (ap (device_event s d) clean
    ∙ ap (option_map send_over) (pending-sends s whole d c.requires.first clean ∙ none))

pub returns : goal.returns
returns c =
    let n = c.args.self.now in
    let s = stands_for n in
    let d = c.args.device in
    let x = session_under n.pool c.in_ok-session.session.now in
    let whole =
    subst (λ (t : Stored). IsWhole (stands_for t)) c.self.view_is c.self.invariant.right.whole in
    let clean : set.least (rib s d).dirty ≡ None = sym c.least_dirty.ensures ∙ c.in_default.is in
    let found : find (owes s) s.sessions ≡ Some x =
    sym c.debtor.ensures
    ∙ ap (λ o. option_map (session_under n.pool) (option_copied o)) c.in_ok-session.was in
    sym (ap (device_event s d) clean
    ∙ ap (option_map send_over) (pending-sends s whole d c.requires.first clean ∙ found))
