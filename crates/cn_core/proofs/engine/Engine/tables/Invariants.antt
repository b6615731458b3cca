use Rattle.std.proofs.Common.{take}
use Rattle.cn_core.specs.Laws.{held_in}
use Rattle.cn_core.specs.Stored.{stands_for}
use Rattle.cn_core.specs.Tables.{AreTables}
use Rattle.cn_core.proofs.engine.Engine.tables.Given as goal

abbrev pub invariant-loop-device : goal.invariant-loop-device
invariant-loop-device l =
    AreTables (take l.device-index l.device-items) (held_in (stands_for l.self)) l.tables.items
