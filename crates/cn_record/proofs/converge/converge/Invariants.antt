use Rattle.std.proofs.Common.{false}
use Rattle.cn_net.specs.Islands.{label_of}
use Rattle.cn_record.specs.Rounds.{AreAll}
use Rattle.cn_record.proofs.Turns.{IsConverging}
use Rattle.cn_record.proofs.converge.converge.Given as goal

abbrev pub invariant-loop : goal.invariant-loop
invariant-loop l = record {
  converging : IsConverging l.net (label_of l.labels) l.island l.prefix l.table l.waiting.items
      l.holders.items l.counter;
  unmarked : AreAll false l.marks;
}
