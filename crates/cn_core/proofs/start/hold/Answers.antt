use Rattle.std.proofs.Common.{ap, sym, ◌∙◌, subst}
use Rattle.std.specs.Prelude.{option_copied}
use Rattle.std.proofs.lemmas.Result.{on_ok_weaker}
use Rattle.cn_core.specs.Start.{with_choice}
use Rattle.cn_core.specs.Stored.{IsHeldUnder, held_under}
use Rattle.cn_core.proofs.FirstHeld.{held-joined, is_held-joined}
use Rattle.cn_core.proofs.start.hold.Goals as goal

pub returns-clause-routes : goal.returns-clause-routes
returns-clause-routes c =
    let pool = c.args.pool.now in
    let routes = c.args.routes.now in
    let p = c.args.prefix in
    let choice = c.in-Some.choice.now in
    on_ok_weaker c.insert.result
    (λ is.
    ap (held_under c.intern_copy.new.self) is
    ∙ held-joined pool c.intern_copy.new.self routes p choice c.in_ok-path.path
    c.in_ok-path.ensures.ok c.requires
    ∙ ap (λ o. with_choice (held_under pool routes) p (option_copied o)) (sym c.in-Some.is))
    c.insert.ensures.ok

pub returns-clause-under : goal.returns-clause-under
returns-clause-under c =
    let choice = c.in-Some.choice.now in
    on_ok_weaker c.insert.result
    (λ is. subst (IsHeldUnder c.intern_copy.new.self) (sym is)
    (is_held-joined c.args.pool.now c.intern_copy.new.self c.args.routes.now c.args.prefix choice
    c.in_ok-path.path c.in_ok-path.ensures.ok c.requires))
    c.insert.ensures.ok
