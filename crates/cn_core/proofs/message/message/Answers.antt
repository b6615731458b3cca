use Rattle.std.proofs.Common.{None, sym, ap, ◌∙◌}
use Rattle.std.specs.FinMap as fin
use Rattle.cn_wire.specs.Sizes.{longest_prefix_within}
use Rattle.cn_wire.specs.Writing.{fits}
use Rattle.cn_net.specs.Network.{router_of}
use Rattle.cn_core.specs.Stored.{held_under, session_under}
use Rattle.cn_core.proofs.Composed.{fits-withdrawing, packed-withdrawing}
use Rattle.cn_core.proofs.message.message.Goals as goal

pub returns-clause-exact : goal.returns-clause-exact
returns-clause-exact c =
    let x = session_under c.args.pool.now c.args.session.now in
    let withdrawn =
    c.make.ensures ∙ c.in_ok-fitting.ensures ∙ ap (longest_prefix_within 4073) c.rows.ensures in
    (λ i. record {
      withdrawn = withdrawn i;
      attrs = None;
      announced = (c.make-2.ensures ∙ c.new.ensures.items) i;
    })
    ∙ packed-withdrawing c.args.net.now x.from x.to x.adj_rib_out
    (held_under c.args.pool.now c.args.best.now) c.args.lists.now c.requires
    (router_of c.args.net.now x.from).0
    (sym c.is_empty.ensures ∙ c.if-is_empty.false)

pub returns-clause-fits : goal.returns-clause-fits
returns-clause-fits c =
    let withdrawn =
    c.make.ensures ∙ c.in_ok-fitting.ensures ∙ ap (longest_prefix_within 4073) c.rows.ensures in
    (λ i. fits (record {
      withdrawn = withdrawn i;
      attrs = None;
      announced = (c.make-2.ensures ∙ c.new.ensures.items) i;
    }))
    ∙ fits-withdrawing (fin.keys c.args.lists.now.withdrawals)
