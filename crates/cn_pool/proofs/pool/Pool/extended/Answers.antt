use Rattle.std.proofs.Common.{sym}
use Rattle.cn_pool.specs.declared.pool.Step.{Step}
use Rattle.cn_pool.proofs.Pools.{known_joins, known_with, longer_joined}
use Rattle.cn_pool.proofs.pool.Pool.extended.Goals as goal

pub returns-in-Some-clause-ok : goal.returns-in-Some-clause-ok
returns-in-Some-clause-ok c =
    let step : Step = record { path = c.args.id; asn = c.args.asn; times = c.args.times } in
    let found = sym c.in-Some.ensures.value in
    let known = c.self.invariant.0.right step c.in-Some.known.now found in
    let keeps = known_joins c.self.inside.paths.keys _ _ known in
    rw c.self.view_is at keeps

pub invariant_of-self : goal.invariant_of-self
invariant_of-self c =
    let step : Step = record { path = c.args.id; asn = c.args.asn; times = c.args.times } in
    let made = rw c.in-Some-2.is at c.in_ok-longer.ensures in
    let at = rw c.self.view_is at c.index.ensures in
    let longer = longer_joined c.args.self.now c.intern.new.self _ step c.in-Ok.longer
    c.index.result.now c.in-Some-2.longer at made.0 made.1 c.self-2.view_is
    c.in-Ok.ensures.ok in (
      known_with _ _ _ step c.in-Ok.longer c.insert.result c.self-2.invariant.0 longer
          c.insert.ensures.updates c.insert.ensures.err,
      c.self-2.invariant.1,
    )
