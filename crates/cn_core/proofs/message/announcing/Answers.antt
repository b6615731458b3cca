use Rattle.std.proofs.Common.{◌-◌, ◌≤◌, filter, Some, None, sym, ◌∙◌, subst}
use Rattle.std.specs.FinMap as fin
use Rattle.std.proofs.lemmas.Option.{none-some}
use Rattle.cn_wire.specs.Sizes.{longest_prefix_within}
use Rattle.cn_wire.specs.Writing.{fits}
use Rattle.cn_net.specs.Network.{router_of}
use Rattle.cn_core.specs.OwedLists.{shares}
use Rattle.cn_core.specs.Stored.{held_under, session_under}
use Rattle.cn_core.proofs.Composed.{announced-offered, fits-announcing, packed-announcing, packed-empty}
use Rattle.cn_core.proofs.message.announcing.Goals.{in-Some+in_ok-attrs-in-Some, in-None}
use Rattle.cn_core.proofs.message.announcing.Goals as goal

pub returns-in_default-clause-exact : goal.returns-in_default-clause-exact
returns-in_default-clause-exact c =
    let x = session_under c.args.pool.now c.args.session.now in
    let best = held_under c.args.pool.now c.args.best.now in
    let net = c.args.net.now in
    let next_hop = (router_of net x.from).0 in
    elim c.match-first.branch [
      | in-Some+in_ok-attrs-in-Some w ↦
          absurd (announced-offered net x.from x.to x.adj_rib_out best c.args.lists.now
          c.requires.listed next_hop w.in-Some.prefix (sym c.first.ensures ∙ w.in-Some.is)
          (sym w.in_ok-attrs-in-Some.ensures ∙ sym w.attrs-is ∙ c.in_default.is))
      | in-None w ↦
          (λ i. record {
            withdrawn = (c.make-withdrawn.ensures ∙ c.new.ensures.items) i;
            attrs = None;
            announced = (c.make.ensures ∙ c.new-in_default.ensures.items) i;
          })
          ∙ packed-empty net x.from x.to x.adj_rib_out best c.args.lists.now
          c.requires.listed next_hop c.requires.none (sym c.first.ensures ∙ w.in-None.is)
    ]

pub returns-clause-exact : goal.returns-clause-exact
returns-clause-exact c =
    let x = session_under c.args.pool.now c.args.session.now in
    let best = held_under c.args.pool.now c.args.best.now in
    let net = c.args.net.now in
    let next_hop = (router_of net x.from).0 in
    let attrs = c.in-Some-attrs.attrs in
    let those =
    shares net x.from x.to best attrs.path attrs.origin in
    let announced =
    c.make-2.ensures ∙ c.in_ok-announced.ensures
    ∙ (λ i. longest_prefix_within (4073 - c.attrs_size-room.ensures.size i)
    (filter those (c.rows-rows.ensures i))) in
    (λ i. record {
      withdrawn = (c.make-withdrawn.ensures ∙ c.new.ensures.items) i;
      attrs = Some attrs;
      announced = announced i;
    })
    ∙ elim c.match-first.branch [
      | in-Some+in_ok-attrs-in-Some w ↦
          packed-announcing net x.from x.to x.adj_rib_out best c.args.lists.now
          c.requires.listed next_hop w.in-Some.prefix attrs c.requires.none
          (sym c.first.ensures ∙ w.in-Some.is)
          (sym w.in_ok-attrs-in-Some.ensures ∙ sym w.attrs-is ∙ c.in-Some-attrs.is)
      | in-None w ↦ absurd (none-some attrs (sym w.attrs-is ∙ c.in-Some-attrs.is))
    ]

pub returns-clause-fits : goal.returns-clause-fits
returns-clause-fits c =
    let x = session_under c.args.pool.now c.args.session.now in
    let best = held_under c.args.pool.now c.args.best.now in
    let attrs = c.in-Some-attrs.attrs in
    let those =
    filter (shares c.args.net.now x.from x.to best attrs.path attrs.origin)
    (fin.keys c.args.lists.now.announcements) in
    let announced =
    c.make-2.ensures ∙ c.in_ok-announced.ensures
    ∙ (λ i. longest_prefix_within (4073 - c.attrs_size-room.ensures.size i)
    (filter (shares c.args.net.now x.from x.to best attrs.path attrs.origin)
    (c.rows-rows.ensures i))) in
    (λ i. fits (record {
      withdrawn = (c.make-withdrawn.ensures ∙ c.new.ensures.items) i;
      attrs = Some attrs;
      announced = announced i;
    }))
    ∙ fits-announcing attrs those
    (subst (λ n. n ≤ 1037) c.attrs_size-room.ensures.size c.attrs_size-room.ensures.small)
