use Rattle.std.proofs.Common.{length, ap, ◌∙◌, arith}
use Rattle.std.proofs.lemmas.List.{length-replicate}
use Rattle.cn_core.proofs.Counted.{counted_all}
use Rattle.cn_core.proofs.start.counted_lists.Goals as goal

pub returns : goal.returns
returns c =
    counted_all c.args.lists.now c.count.new.tally
    (c.count.ensures.many ∙ ap length c.in_ok-tally.ensures
    ∙ length-replicate (length c.args.lists.now) 0)
    (λ k y lt. c.count.ensures.these k y (omega arith) lt)
