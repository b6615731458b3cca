use Rattle.std.proofs.Common.{◌≡◌, map, take, true}
use Rattle.std.specs.Prelude.{Contains}
use Rattle.cn_net.specs.Islands.{label_of}
use Rattle.cn_record.specs.Places.{AddsDevices, IsInside}
use Rattle.cn_record.specs.Rounds.{AreMarked, is_woken}
use Rattle.cn_record.proofs.converge.wake.Given as goal

abbrev pub invariant-loop-neighbour : goal.invariant-loop-neighbour
invariant-loop-neighbour l = record {
  wakes : AddsDevices
      (λ b. Contains (map (λ n. n.device) (take l.neighbour-index l.neighbour-items)) b
      × (is_woken l.net (label_of l.labels) l.island l.before l.after b ≡ true))
      (IsInside l.net (label_of l.labels) l.island) l.initial.waiting.items l.waiting.items;
  marked : AreMarked l.marks l.waiting.items;
}
