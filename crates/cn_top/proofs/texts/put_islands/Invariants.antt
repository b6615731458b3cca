use Rattle.std.proofs.Common.{◌≡◌, ◌++◌, take}
use Rattle.std.specs.List.{flat_map}
use Rattle.cn_top.specs.Texts.{island_line}
use Rattle.cn_top.proofs.texts.put_islands.Given as goal

abbrev pub invariant-loop-island : goal.invariant-loop-island
invariant-loop-island l =
    l.text.items
    ≡ l.fn.text.items ++ flat_map (island_line l.certified) (take l.island-index l.islands)
