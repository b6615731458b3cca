use Rattle.cn_core.specs.OwedLists.{with_due}
use Rattle.cn_core.proofs.Lists.{IsMadeSoFar}
use Rattle.cn_core.proofs.owed.add_dues.Given as goal

abbrev pub invariant-loop-at : goal.invariant-loop-at
invariant-loop-at l =
    IsMadeSoFar (λ y d. with_due y l.prefix d) l.dues l.start l.at l.end l.fn.lists.items
    l.lists.items
