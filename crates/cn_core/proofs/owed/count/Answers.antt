use Rattle.cn_core.proofs.Counting.{counted-elsewhere}
use Rattle.cn_core.proofs.owed.count.Goals as goal

pub returns-clause-elsewhere : goal.returns-clause-elsewhere
returns-clause-elsewhere c =
    counted-elsewhere c.args.start c.args.end c.loop-at.at c.args.lists.now c.args.tally.now
    c.loop-at.tally c.loop-at.invariant
