use Rattle.cn_net.specs.Islands.{label_of}
use Rattle.cn_record.specs.Rounds.{AreMarked}
use Rattle.cn_record.proofs.Turns.{HaveDecided}
use Rattle.cn_record.proofs.converge.round.Given as goal

abbrev pub invariant-loop-device : goal.invariant-loop-device
invariant-loop-device l = record {
  decided : HaveDecided l.net
      (label_of l.labels) l.island l.prefix l.initial.table l.table l.waiting
      l.device-index l.next.items l.holders.items;
  marked : AreMarked l.marks l.next.items;
}
