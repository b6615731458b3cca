use Rattle.cn_net.specs.Islands.{label_of}
use Rattle.cn_record.proofs.Gathering.{ArePrefixesBelow}
use Rattle.cn_record.proofs.islands.island_prefixes.Given as goal

abbrev pub invariant-loop-number : goal.invariant-loop-number
invariant-loop-number l = ArePrefixesBelow l.net (label_of l.labels) l.number l.prefixes.items
