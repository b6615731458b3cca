use Rattle.std.proofs.Common.{◌∙◌, ◌≤◌, ◌==◌, length, take, drop, ap, arith}
use Rattle.std.specs.Cmp.Lexicographic.{pointwise}
use Rattle.cn_base.specs.declared.ids.Asn.{Asn}
use Rattle.cn_base.specs.declared.route.Route.{Route}
use Rattle.cn_net.specs.Exchange.{copies, offered_path, route_with}
use Rattle.cn_net.proofs.Offers.{behind_tells, front_tells}
use Rattle.cn_net.proofs.device.Body.is_offered_path.Goals as goal

pub returns-then-copies_in_front : goal.returns-then-copies_in_front
unfolding offered_path
returns-then-copies_in_front c = λ origin.
    let r = route_with c.args.prefix.now c.args.path.now origin in
    let times = c.from-times.result in
    let sent = c.items-sent.ensures.same in
    let le : times ≤ length c.args.sent.now = omega (arith, ap length sent) in
    behind_tells (copies c.args.self.now c.args.peer r) times c.args.self.now.asn c.args.sent.now
    r.path
    c.split_at.result.0.now c.split_at.result.1.now c.are_copies-copies_in_front.result
    (c.from-times.ensures ∙ c.copies.ensures.value origin) le
    (c.split_at.ensures.front ∙ ap (take times) sent)
    (c.split_at.ensures.back ∙ ap (drop times) sent)
    c.are_copies-copies_in_front.ensures c.eq-path_behind.result c.if-copies_in_front.true
    (c.eq-path_behind.ensures
    ∙ ap (pointwise (λ (x y : Asn). x.0 == y.0) c.split_at.result.1.now) c.items.ensures.same)

pub returns-else-copies_in_front : goal.returns-else-copies_in_front
unfolding offered_path
returns-else-copies_in_front c = λ origin.
    let r = route_with c.args.prefix.now c.args.path.now origin in
    let times = c.from-times.result in
    let sent = c.items-sent.ensures.same in
    let le : times ≤ length c.args.sent.now = omega (arith, ap length sent) in
    front_tells (copies c.args.self.now c.args.peer r) times c.args.self.now.asn c.args.sent.now
    r.path
    c.split_at.result.0.now c.split_at.result.1.now c.are_copies-copies_in_front.result
    (c.from-times.ensures ∙ c.copies.ensures.value origin) le
    (c.split_at.ensures.front ∙ ap (take times) sent)
    (c.split_at.ensures.back ∙ ap (drop times) sent)
    c.are_copies-copies_in_front.ensures c.if-copies_in_front.false
