use Rattle.std.proofs.Common.{ap, sym, ◌∙◌, refl}
use Rattle.cn_rib.proofs.IdRoutes.{same_routes}
use Rattle.cn_wire.specs.Reading.{update_of}
use Rattle.cn_core.specs.Stored.{session_under}
use Rattle.cn_core.proofs.Receiving.{received_is}
use Rattle.cn_core.proofs.session.receive.Goals as goal

pub returns-clause-session : goal.returns-clause-session
returns-clause-session c =
    let x = c.args.session.now in
    let out =
    (same_routes c.args.pool.now c.take_in.new.pool x.adj_rib_out c.requires.sent
    c.in_ok-take_in.ensures.kept).1 in
    (λ i. record {
      from = x.from;
      to = x.to;
      adj_rib_out = out i;
      mail = c.pop.new.self;
      adj_rib_in = c.in_ok-take_in.ensures.ok i;
    })
    ∙ received_is (session_under c.args.pool.now x) x.mail c.pop.new.self c.pop.result
    c.in-Some.octets.now c.in-Ok.update refl c.in-Some.ensures c.pop.ensures.items
    c.pop.ensures.some
    (sym c.in-Ok.ensures.exact ∙ ap update_of c.items.ensures)
