use Rattle.cn_core.specs.OwedLists.{only_due}
use Rattle.cn_core.proofs.Lists.{IsMadeSoFar}
use Rattle.cn_core.proofs.owed.keep_dues.Given as goal

abbrev pub invariant-loop-at : goal.invariant-loop-at
invariant-loop-at l =
    IsMadeSoFar (λ y d. only_due y l.prefix d) l.dues l.start l.at l.end l.fn.lists.items
    l.lists.items
