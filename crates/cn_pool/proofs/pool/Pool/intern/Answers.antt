use Rattle.std.proofs.Common.{arith, sym, subst}
use Rattle.cn_pool.specs.Pool.{IsPool}
use Rattle.cn_pool.proofs.Pools.{interned, joined_pool, stays}
use Rattle.cn_pool.proofs.pool.Pool.intern.Goals as goal
use Rattle.cn_pool.proofs.pool.Pool.intern.Goals.{in-Ok, in-Err}

pub invariant_of-self : goal.invariant_of-self
invariant_of-self c = elim c.match-insert_full.branch [
  | in-Ok w ↦ (
    joined_pool c.self.inside.paths.keys c.args.path c.self.inside.longer _ c.self.invariant.0
        (omega (arith, c.if-len-gt-MOST.false, c.len.ensures.len)) w.in-Ok.ensures.keys,
    c.self.invariant.1,
  )
  | in-Err w ↦ (
    subst (λ ps. IsPool ps c.self.inside.longer) (sym w.in-Err.ensures.err) c.self.invariant.0,
    c.self.invariant.1,
  )
]

pub returns-clause-ok : goal.returns-clause-ok
returns-clause-ok c = elim c.match-insert_full.branch [
  | in-Ok w ↦
      rw w.result-is
      (interned _ _ _ _ _ c.self.view_is w.in-Ok.ensures.keys w.in-Ok.ensures.stored)
  | in-Err w ↦ rw w.result-is tt
]

pub returns-clause-distinct : goal.returns-clause-distinct
returns-clause-distinct c = (invariant_of-self c).0.distinct

pub returns-in-Some-clause-ok : goal.returns-in-Some-clause-ok
returns-in-Some-clause-ok c = stays c.args.self.now c.args.path c.in-Some.id c.in-Some.ensures
