use Rattle.std.proofs.Common.{◌≡◌, Some, get_or, sym, ap, ◌∙◌, length}
use Rattle.std.specs.Prelude.{◌&&◌, nat_lt, is_some}
use Rattle.std.specs.List.{find}
use Rattle.cn_core.specs.Owed.{owes}
use Rattle.cn_core.specs.State.{empty_session, is_session, session}
use Rattle.cn_core.specs.Stored.{Stored, session_under, stands_for}
use Rattle.cn_core.proofs.Changed.{can_send_found}
use Rattle.cn_core.proofs.Places.{found_at, not_found}
use Rattle.cn_core.proofs.StoredReads.{session_read}
use Rattle.cn_core.proofs.engine.Engine.can_send.Goals as goal

pub returns-then-owes : goal.returns-then-owes
returns-then-owes c =
    let n = c.args.self.now in
    let s = stands_for n in
    let a = c.args.from in
    let b = c.args.to in
    let at = c.in-Some.at in
    let here = c.index-session.result.now in
    let x = session_under n.pool here in
    let stored : here ≡ get_or n.sessions at here =
    c.index-session.ensures ∙ ap (λ (t : Stored). get_or t.sessions at here) c.self.view_is in
    let read = session_read n at here c.in-Some.ensures.inside stored in
    let found : find (is_session a b) s.sessions ≡ Some x =
    found_at a b s.sessions at x c.in-Some.ensures ∙ ap Some (sym read) in
    ap (λ l. nat_lt l 64) c.len.ensures.length
    ∙ ap (λ t. t && nat_lt (length x.mail) 64)
    (sym c.if-owes.true ∙ c.owes.ensures x ∙ ap (owes s) (sym read))
    ∙ can_send_found s a b x found

pub returns-else-owes : goal.returns-else-owes
returns-else-owes c =
    let s = stands_for c.args.self.now in
    let a = c.args.from in
    let b = c.args.to in
    let x = get_or s.sessions c.in-Some.at (empty_session a b) in
    c.if-owes.false
    ∙ ap (λ t. t && nat_lt (length x.mail) 64)
    (sym c.if-owes.false ∙ c.owes.ensures (empty_session a b))
    ∙ can_send_found s a b x
    (found_at a b s.sessions c.in-Some.at (empty_session a b) c.in-Some.ensures)

pub returns-in-None : goal.returns-in-None
returns-in-None c =
    let s = stands_for c.args.self.now in
    let a = c.args.from in
    let b = c.args.to in
    ap (λ o. is_some o && (owes s (session s a b) && nat_lt (length (session s a b).mail) 64))
    (sym (not_found a b s.sessions c.in-None.ensures))
