use Rattle.std.proofs.Common.{List, sym, ap, ◌∙◌}
use Rattle.std.specs.Prelude.{option_copied, option_map}
use Rattle.cn_base.specs.declared.ids.Asn.{Asn}
use Rattle.cn_net.specs.Exchange.{offer}
use Rattle.cn_core.specs.Stored.{choice_under, held_under}
use Rattle.cn_core.proofs.Offers.{shares-held, shares-none}
use Rattle.cn_core.proofs.Under.{get-held}
use Rattle.cn_core.proofs.message.shares.Goals as goal

pub returns-in-Some : goal.returns-in-Some
returns-in-Some c =
    let net = c.args.net.now in
    let pool = c.args.pool.now in
    let x = c.args.session.now in
    let attrs = c.args.attrs.now in
    let p = c.args.prefix.now in
    let best = c.in-Some.best.now in
    let path =
    ap (λ (xs : List Asn). offer net x.from x.to
    (record { prefix = p; path = xs; origin = best.origin }))
    c.path.ensures in
    shares-held net x.from x.to (held_under pool c.args.best.now) attrs.path attrs.origin p
    (choice_under pool best) c.is_offer.result
    (get-held pool c.args.best.now p
    ∙ ap (option_map (choice_under pool)) (sym c.get.ensures ∙ ap option_copied c.in-Some.is))
    (λ t. sym path ∙ c.is_offer.ensures.0 t, λ same. c.is_offer.ensures.1 (path ∙ same))

pub returns-in-None : goal.returns-in-None
returns-in-None c =
    let pool = c.args.pool.now in
    let x = c.args.session.now in
    let attrs = c.args.attrs.now in
    let p = c.args.prefix.now in
    shares-none c.args.net.now x.from x.to (held_under pool c.args.best.now) attrs.path
    attrs.origin p
    (get-held pool c.args.best.now p
    ∙ ap (option_map (choice_under pool)) (sym c.get.ensures ∙ ap option_copied c.in-None.is))
