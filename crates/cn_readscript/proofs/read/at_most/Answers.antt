use Rattle.cn_readscript.proofs.Commands.{few_enough, too_many}
use Rattle.cn_readscript.proofs.read.at_most.Goals as goal

pub returns-then-values-most : goal.returns-then-values-most
returns-then-values-most c = few_enough c.args.most c.args.values.now c.if-values-most.true

pub returns-else-values-most : goal.returns-else-values-most
returns-else-values-most c = too_many c.args.most c.args.values.now c.if-values-most.false
