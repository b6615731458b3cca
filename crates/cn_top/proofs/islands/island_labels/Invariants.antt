use Rattle.std.proofs.Common.{◌≡◌}
use Rattle.std.specs.List.{filter}
use Rattle.cn_top.specs.Texts.{is_of}
use Rattle.cn_top.proofs.KeptDevices.{ids}
use Rattle.cn_top.proofs.islands.island_labels.Given as goal

abbrev pub invariant-loop-number : goal.invariant-loop-number
invariant-loop-number l = l.found.items ≡ filter (λ d. is_of l.certified d d) (ids l.number)
