use Rattle.cn_net.specs.Islands.{label_of}
use Rattle.cn_record.proofs.Gathering.{AreMembersBelow}
use Rattle.cn_record.proofs.islands.members.Given as goal

abbrev pub invariant-loop-number : goal.invariant-loop-number
invariant-loop-number l = AreMembersBelow l.net (label_of l.labels) l.number l.members.items
