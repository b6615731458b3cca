use Rattle.std.proofs.Common.{◌≡◌, ◌∙◌, Some, get_or, sym, ap}
use Rattle.cn_core.specs.Stored.{Stored, session_under, stands_for}
use Rattle.cn_core.proofs.Places.{found_at, not_found}
use Rattle.cn_core.proofs.StoredReads.{session_read}
use Rattle.cn_core.proofs.engine.Engine.session.Goals as goal

pub returns-in-Some : goal.returns-in-Some
returns-in-Some c =
    let n = c.args.self.now in
    let at = c.in-Some.at in
    let x = c.index.result.now in
    let read : x ≡ get_or n.sessions at x =
    c.index.ensures ∙ ap (λ (t : Stored). get_or t.sessions at x) c.self.view_is in
    ap Some (session_read n at x c.in-Some.ensures.inside read)
    ∙ sym (found_at c.args.from c.args.to (stands_for n).sessions at (session_under n.pool x)
    c.in-Some.ensures)

pub returns-in-None : goal.returns-in-None
returns-in-None c =
    sym (not_found c.args.from c.args.to (stands_for c.args.self.now).sessions c.in-None.ensures)
