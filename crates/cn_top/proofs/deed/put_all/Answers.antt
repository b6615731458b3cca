use Rattle.cn_top.proofs.Puts.{puts_more}
use Rattle.cn_top.proofs.deed.put_all.Goals as goal

pub loop-text-preserved : goal.loop-text-preserved
loop-text-preserved g c =
    puts_more c.args.texts.now c.loop-text.text-index c.text-item.result c.items.result.now
    (g.O.Out.printed c.args.out.now) (g.O.Out.printed c.loop-text.out)
    (g.O.Out.printed c.put.new.self) c.loop-text-test.true c.text-item.is c.items.ensures
    c.loop-text.invariant c.in-Ok.ensures
