use Rattle.std.proofs.Common.{◌≡◌, ℕ, ◌<◌, get_or, length}
use Rattle.cn_net.specs.Neighbours.{IsStart}
use Rattle.cn_net.proofs.neighbours.starts_of.Given as goal

abbrev pub invariant-loop-d : goal.invariant-loop-d
invariant-loop-d l = record {
  many : length l.starts.items ≡ l.d-counter;
  each : (k : ℕ) → k < l.d-counter → IsStart l.neighbours k (get_or l.starts.items k 0);
}
