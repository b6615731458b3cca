use Rattle.std.proofs.lemmas.List.Filters.{dedup_is}
use Rattle.cn_net.proofs.Members.{all_within, ascending, holds_the_same}
use Rattle.cn_net.proofs.sets.DeviceSet.make.Goals as goal

pub invariant_of-result : goal.invariant_of-result
invariant_of-result c = rw (dedup_is _ _ _ c.dedup.ensures.filtered)
    (ascending _ c.sort_unstable.ensures.sorted)

pub returns-clause-holds : goal.returns-clause-holds
returns-clause-holds c = λ d. rw (dedup_is _ _ _ c.dedup.ensures.filtered)
    (holds_the_same _ _ d c.sort_unstable.ensures.permutation)

pub returns-clause-within : goal.returns-clause-within
returns-clause-within c = rw (dedup_is _ _ _ c.dedup.ensures.filtered)
    (all_within c.args.net.now _ _ c.sort_unstable.ensures.permutation c.requires)
