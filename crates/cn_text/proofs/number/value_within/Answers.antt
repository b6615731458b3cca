use Rattle.std.proofs.Common.{arith}
use Rattle.cn_text.proofs.Values.{too_great}
use Rattle.cn_text.proofs.number.value_within.Goals as goal

pub returns-then-next-from-clause-value : goal.returns-then-next-from-clause-value
returns-then-next-from-clause-value c =
    too_great c.loop-digit.value c.args.max c.args.digits.now c.loop-digit.digit-index
    c.loop-digit-test.true c.loop-digit.invariant.same (omega arith)
