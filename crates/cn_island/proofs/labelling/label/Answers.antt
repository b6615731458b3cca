use Rattle.std.proofs.Common.{◌≡◌, ◌∙◌, Some, is_some, set, ap, sym, subst}
use Rattle.cn_net.specs.Islands.{label_of}
use Rattle.cn_island.specs.Found.{IsFound, IsSpread}
use Rattle.cn_island.proofs.Spreading.{found_one, labelled, spread_none, spread_one, unlabelled}
use Rattle.cn_island.proofs.labelling.label.Goals as goal

pub returns-in_ok-push-clause-found : goal.returns-in_ok-push-clause-found
returns-in_ok-push-clause-found c =
    subst (IsFound (set c.args.labels.now c.args.d.0 (Some c.args.island)))
    (sym c.in_ok-push.ensures.items)
    (found_one c.args.labels.now c.args.found.now.items c.args.d c.args.island c.requires.device
    (unlabelled c.args.labels.now c.args.d c.is_none.result c.is_none.ensures c.if-is_none.true)
    c.requires.found)

pub returns-in_ok-push-clause-spread : goal.returns-in_ok-push-clause-spread
returns-in_ok-push-clause-spread c =
    subst (IsSpread (λ x. x ≡ c.args.d) c.args.island c.args.labels.now
    (set c.args.labels.now c.args.d.0 (Some c.args.island)) c.args.found.now.items)
    (sym c.in_ok-push.ensures.items)
    (spread_one c.args.labels.now c.args.found.now.items c.args.d c.args.island c.requires.device
    (unlabelled c.args.labels.now c.args.d c.is_none.result c.is_none.ensures
    c.if-is_none.true))

pub returns-else-is_none-clause-spread : goal.returns-else-is_none-clause-spread
returns-else-is_none-clause-spread c =
    spread_none (λ x. x ≡ c.args.d) c.args.island c.args.labels.now c.args.found.now.items
    (λ x s. ap (λ w. is_some (label_of c.args.labels.now w)) s
    ∙ labelled c.args.labels.now c.args.d c.is_none.result c.is_none.ensures c.if-is_none.false)
