use Rattle.std.proofs.Common.{◌≡◌, map, take}
use Rattle.cn_core.specs.Stored.{unsent}
use Rattle.cn_core.proofs.start.sessions.Given as goal

abbrev pub invariant-loop-place : goal.invariant-loop-place
invariant-loop-place l =
    l.sessions.items ≡ map (λ e. unsent e.from e.to) (take l.place l.index)
