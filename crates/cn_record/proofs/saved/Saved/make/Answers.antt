use Rattle.std.proofs.Common.{rules}
use Rattle.std.proofs.lemmas.List.Sorted.{answers_always}
use Rattle.cn_record.specs.Repeats.{HasNoTie, IsFirstTie}
use Rattle.cn_record.proofs.Pairs.{pair_of}
use Rattle.cn_record.proofs.Sorting.{IsByPair, ascends, first_pair, stands_once}
use Rattle.cn_record.proofs.saved.Saved.make.Goals as goal
use Rattle.cn_record.proofs.saved.Saved.make.Goals.{After-first_repeat, In-None}

sorted : (c : After-first_repeat) → IsByPair c.sort_unstable_by_key.new.self.items
sorted c = c.sort_unstable_by_key.ensures.sorted pair_of
    (answers_always _ _ _ (λ f a r g called. search rules))

alone : (c : In-None) → HasNoTie c.sort_unstable_by_key.new.self.items
alone c = rw c.deref.ensures.value at c.in-None.ensures

pub invariant_of-result : goal.invariant_of-result
invariant_of-result c = ascends _ (sorted (goal.at.invariant_of-result c).After-first_repeat)
    (alone c)

pub returns-in-Some-clause-fault : goal.returns-in-Some-clause-fault
returns-in-Some-clause-fault c =
    let tie : IsFirstTie c.sort_unstable_by_key.new.self.items c.in-Some.place =
    rw c.deref.ensures.value at c.in-Some.ensures in
    first_pair _ _ c.in-Some.place _ _ c.sort_unstable_by_key.ensures.permutation
    (sorted
    (goal.at.returns-in-Some-clause-fault c).After-first_repeat) tie c.index.ensures
    c.index-in-Some.ensures

pub returns-in-None-clause-once : goal.returns-in-None-clause-once
returns-in-None-clause-once c =
    stands_once _ _ c.sort_unstable_by_key.ensures.permutation
    (sorted (goal.at.invariant_of-result c).After-first_repeat) (alone c)
