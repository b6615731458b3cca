use Rattle.std.proofs.Common.{◌<◌, length, map, sym, ap, ◌∙◌, subst, arith}
use Rattle.std.specs.Prelude.{option_copied, option_map}
use Rattle.std.proofs.lemmas.List.{get_or-map, length-map}
use Rattle.cn_rib.specs.Interned.{attributes_under}
use Rattle.cn_core.specs.Owed.{offered_attributes, unless_sent}
use Rattle.cn_core.specs.OwedLists.{due_of}
use Rattle.cn_core.specs.Stored.{choice_under, session_under}
use Rattle.cn_core.proofs.Lists.{dues_next}
use Rattle.cn_core.proofs.Under.{get-routes}
use Rattle.cn_core.proofs.owed.dues.Goals as goal

pub loop-at-preserved : goal.loop-at-preserved
loop-at-preserved c =
    let net = c.args.net.now in
    let pool = c.args.pool.now in
    let p = c.args.prefix.now in
    let held = option_map (choice_under pool) (option_copied c.args.held) in
    let xs = c.args.sessions.now in
    let x = c.index-sessions-at.result in
    let within : c.loop-at.at < length xs =
    omega (arith, c.loop-at-test.true, c.requires.inside) in
    let read =
    ap (session_under pool) c.index-sessions-at.is
    ∙ sym (get_or-map (session_under pool) xs c.loop-at.at x (session_under pool x) within) in
    let due =
    c.due_with.ensures
    ∙ ap (λ o. due_of (unless_sent o (offered_attributes net x.from x.to p held)))
    (ap (option_map (attributes_under pool)) c.at-sent.ensures ∙ sym (get-routes pool x p)) in
    dues_next net held p (map (session_under pool) xs) c.args.start c.loop-at.at
    c.loop-at.dues.items c.push.new.self.items (session_under pool x) c.due_with.result
    c.loop-at.invariant c.loop-at.auto.at
    (subst (λ n. c.loop-at.at < n) (sym (length-map xs (session_under pool))) within) read due
    c.in_ok-push.ensures.items
