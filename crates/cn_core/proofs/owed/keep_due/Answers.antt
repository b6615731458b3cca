use Rattle.std.proofs.Common.{◌<◌, length, map, refl, sym, ap, ◌∙◌, subst, arith}
use Rattle.std.proofs.lemmas.List.{get_or-map, length-map}
use Rattle.cn_core.specs.Stored.{held_under, session_under}
use Rattle.cn_core.proofs.Lists.{right_next}
use Rattle.cn_core.proofs.owed.keep_due.Goals as goal

pub loop-at-preserved : goal.loop-at-preserved
loop-at-preserved c =
    let pool = c.args.pool.now in
    let xs = c.args.sessions.now in
    let x = c.index-sessions-at.result in
    let within : c.loop-at.at < length xs =
    omega (arith, c.loop-at-test.true, c.requires.inside) in
    let inside : c.loop-at.at < length c.loop-at.lists.items =
    omega (arith, within, c.requires.many, c.loop-at.invariant.elsewhere.many) in
    let read =
    ap (session_under pool) c.index-sessions-at.is
    ∙ sym (get_or-map (session_under pool) xs c.loop-at.at x (session_under pool x) within) in
    right_next c.args.net.now (held_under pool c.args.best.now) c.args.prefix.now
    (map (session_under pool) xs) c.args.start c.loop-at.at c.args.end c.args.lists.now.items
    c.loop-at.lists.items c.loop-at.invariant
    _ (session_under pool x) c.index_mut.result.now c.keep.new.self c.due_for-due.result
    c.loop-at.auto.at c.loop-at-test.true inside
    (subst (λ n. c.loop-at.at < n) (sym (length-map xs (session_under pool))) within) read
    c.index_mut.ensures.value c.due_for-due.ensures c.keep.ensures refl
