use Rattle.cn_core.proofs.Counted.{dirty_counted}
use Rattle.cn_core.proofs.start.counted_ribs.Goals as goal

pub returns : goal.returns
returns c =
    dirty_counted c.args.ribs.now c.loop-at.at c.loop-at.tally c.loop-at.invariant
    c.loop-at-test.false
