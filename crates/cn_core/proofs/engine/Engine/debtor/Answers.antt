use Rattle.std.proofs.Common.{◌≡◌, ◌∙◌, Some, ap, get_or, subst, sym}
use Rattle.std.specs.Prelude.{option_copied, option_map}
use Rattle.cn_core.specs.OwedLists.{IsRight}
use Rattle.cn_core.specs.Stored.{Stored, session_under, stands_for}
use Rattle.cn_core.proofs.Firsts.{debt_of, debts, slot_found, slot_none, slot_within}
use Rattle.cn_core.proofs.StoredReads.{session_read}
use Rattle.cn_core.proofs.engine.Engine.debtor.Goals as goal

pub returns-in_err-at : goal.returns-in_err-at
returns-in_err-at c =
    let e = c.self.inside in
    let n = c.args.self.now in
    let s = stands_for n in
    let right =
    subst (λ (t : Stored).
    IsRight (stands_for t) e.index e.owed.items e.in_mail e.in_lists e.in_ribs)
    c.self.view_is c.self.invariant.right in
    ap (λ o. option_map (session_under n.pool) (option_copied o)) c.from_residual.ensures
    ∙ sym (slot_none (debt_of s) s.sessions e.in_lists
    (debts s e.index e.owed.items e.in_mail e.in_lists e.in_ribs right)
    (sym c.in_err-at.ensures))

pub returns : goal.returns
returns c =
    let e = c.self.inside in
    let n = c.args.self.now in
    let s = stands_for n in
    let at = c.in_ok-at.at in
    let x = c.index.result.now in
    let right =
    subst (λ (t : Stored).
    IsRight (stands_for t) e.index e.owed.items e.in_mail e.in_lists e.in_ribs)
    c.self.view_is c.self.invariant.right in
    let all = debts s e.index e.owed.items e.in_mail e.in_lists e.in_ribs right in
    let read : x ≡ get_or n.sessions at x =
    c.index.ensures ∙ ap (λ (t : Stored). get_or t.sessions at x) c.self.view_is in
    let first = sym c.in_ok-at.ensures in
    let here = session_under n.pool x in
    ap Some (session_read n at x
    (slot_within (debt_of s) s.sessions e.in_lists all at here first) read)
    ∙ sym (slot_found (debt_of s) s.sessions e.in_lists all at here first)
