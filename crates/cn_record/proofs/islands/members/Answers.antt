use Rattle.std.proofs.Common.{arith, rules}
use Rattle.std.proofs.lemmas.List.Sorted.{answers_always}
use Rattle.cn_net.specs.Islands.{label_of}
use Rattle.cn_record.proofs.Gathering.{members_sorted}
use Rattle.cn_record.proofs.islands.members.Goals as goal

pub returns-clause-members : goal.returns-clause-members
returns-clause-members c =
    members_sorted c.args.net.now (label_of c.args.labels.now) c.loop-number.number _ _
    (omega arith) c.sort_unstable_by_key.ensures.permutation c.loop-number.invariant

pub returns-clause-ordered : goal.returns-clause-ordered
returns-clause-ordered c =
    c.sort_unstable_by_key.ensures.sorted (λ m. (m.island, m.device))
    (answers_always _ _ _ (λ f a r g called. search rules))
