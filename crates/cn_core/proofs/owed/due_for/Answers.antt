use Rattle.std.proofs.Common.{sym, ap, ◌∙◌}
use Rattle.std.specs.Prelude.{option_map}
use Rattle.cn_rib.specs.Interned.{attributes_under}
use Rattle.cn_core.specs.Owed.{offered_attributes, unless_sent}
use Rattle.cn_core.specs.OwedLists.{due_of}
use Rattle.cn_core.specs.Stored.{choice_under, held_under, session_under}
use Rattle.cn_core.proofs.Owes.{get-owed}
use Rattle.cn_core.proofs.Under.{get-held, get-routes}
use Rattle.cn_core.proofs.owed.due_for.Goals as goal

pub returns : goal.returns
returns c =
    let net = c.args.net.now in
    let pool = c.args.pool.now in
    let x = c.args.session.now in
    let best = c.args.best.now in
    let p = c.args.prefix.now in
    let sent = ap (option_map (attributes_under pool)) c.at.ensures ∙ sym (get-routes pool x p) in
    let held = ap (option_map (choice_under pool)) c.get.ensures ∙ sym (get-held pool best p) in
    c.due_with.ensures
    ∙ (λ i. due_of (unless_sent (sent i) (offered_attributes net x.from x.to p (held i))))
    ∙ ap due_of (sym (get-owed net x.from x.to (session_under pool x).adj_rib_out
    (held_under pool best) p))
