use Rattle.std.proofs.Common.{arith, length-append, length-drop}
use Rattle.cn_wire.specs.Reading.{numbers_in}
use Rattle.cn_wire.proofs.Loops.{one_more}
use Rattle.cn_wire.proofs.attributes.numbers_of.Goals as goal

pub loop-preserved : goal.loop-preserved
loop-preserved c = rw (c.in_ok-push.ensures.items, c.read_u32.ensures, c.split_at.ensures.back) (
  simp length-drop (omega arith),
  simp length-append (omega arith),
  one_more c.loop.numbers.items c.args.count c.loop.counter c.loop.rest.now
      (numbers_in c.args.count c.args.bytes.now) c.loop-test.true c.loop.invariant.2,
)
