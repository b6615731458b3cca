use Rattle.cn_pool.proofs.Pools.{stays}
use Rattle.cn_pool.proofs.pool.Pool.intern_copy.Goals as goal

pub returns-in-Some-clause-ok : goal.returns-in-Some-clause-ok
returns-in-Some-clause-ok c = stays c.args.self.now c.args.path.now c.in-Some.id c.in-Some.ensures

pub returns-in-Some-clause-distinct : goal.returns-in-Some-clause-distinct
returns-in-Some-clause-distinct c = c.len.ensures.distinct

pub returns-in_err-copy-clause-distinct : goal.returns-in_err-copy-clause-distinct
returns-in_err-copy-clause-distinct c = c.len.ensures.distinct
