use Rattle.std.proofs.Common.{List, Option, Some, None, sym, ap, ◌∙◌}
use Rattle.std.specs.Prelude.{option_copied, option_map}
use Rattle.cn_base.specs.declared.ids.Asn.{Asn}
use Rattle.cn_base.specs.declared.ids.RouterId.{RouterId}
use Rattle.cn_wire.specs.declared.update.Attrs.{Attrs}
use Rattle.cn_net.specs.Exchange.{offer}
use Rattle.cn_net.specs.Network.{router_of}
use Rattle.cn_core.specs.Stored.{choice_under, held_under}
use Rattle.cn_core.proofs.Offers.{attrs-held, attrs-none}
use Rattle.cn_core.proofs.Under.{get-held}
use Rattle.cn_core.proofs.message.attributes.Goals as goal

abbrev attributed : Attrs → Option Attrs
attributed x = Some x

pub returns-in_default : goal.returns-in_default
returns-in_default c =
    let pool = c.args.pool.now in
    let x = c.args.session.now in
    let p = c.args.prefix.now in
    attrs-none c.args.net.now x.from x.to (held_under pool c.args.best.now) p
    (router_of c.args.net.now x.from).0
    (get-held pool c.args.best.now p
    ∙ ap (option_map (choice_under pool)) (sym c.get.ensures ∙ ap option_copied c.in_default.is))

pub returns-in-Some-2 : goal.returns-in-Some-2
returns-in-Some-2 c =
    let net = c.args.net.now in
    let pool = c.args.pool.now in
    let x = c.args.session.now in
    let p = c.args.prefix.now in
    let best = c.in-Some.best.now in
    let told = c.in-Some-2.offer in
    ap (λ (r : RouterId). attributed (record {
      origin = told.origin;
      path = told.path;
      next_hop = r.0;
    })) c.router-next_hop.ensures
    ∙ attrs-held net x.from x.to (held_under pool c.args.best.now) p (router_of net x.from).0
    (choice_under pool best) (Some told)
    (get-held pool c.args.best.now p
    ∙ ap (option_map (choice_under pool)) (sym c.get.ensures ∙ ap option_copied c.in-Some.is))
    (sym c.in-Some-2.is ∙ c.in_ok-offer.ensures
    ∙ ap (λ (xs : List Asn). offer net x.from x.to
    (record { prefix = p; path = xs; origin = best.origin }))
    c.path-path.ensures)

pub returns-in-None : goal.returns-in-None
returns-in-None c =
    let net = c.args.net.now in
    let pool = c.args.pool.now in
    let x = c.args.session.now in
    let p = c.args.prefix.now in
    let best = c.in-Some.best.now in
    attrs-held net x.from x.to (held_under pool c.args.best.now) p (router_of net x.from).0
    (choice_under pool best) None
    (get-held pool c.args.best.now p
    ∙ ap (option_map (choice_under pool)) (sym c.get.ensures ∙ ap option_copied c.in-Some.is))
    (sym c.in-None.is ∙ c.in_ok-offer.ensures
    ∙ ap (λ (xs : List Asn). offer net x.from x.to
    (record { prefix = p; path = xs; origin = best.origin }))
    c.path-path.ensures)
