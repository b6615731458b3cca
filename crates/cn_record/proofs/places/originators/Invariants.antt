use Rattle.cn_record.proofs.Originating.{HasOriginatorsBelow}
use Rattle.cn_record.proofs.places.originators.Given as goal

abbrev pub invariant-loop-number : goal.invariant-loop-number
invariant-loop-number l = HasOriginatorsBelow l.net l.number l.places.items
