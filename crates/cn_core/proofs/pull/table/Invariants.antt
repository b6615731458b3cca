use Rattle.std.proofs.Common.{◌≡◌, map, take}
use Rattle.cn_core.specs.Rows.{table_row}
use Rattle.cn_core.proofs.Tabled.{row_under}
use Rattle.cn_core.proofs.pull.table.Given as goal

abbrev pub invariant-loop-row : goal.invariant-loop-row
invariant-loop-row l =
    l.rows.items ≡ map table_row (map (row_under l.pool) (take l.row-index l.row-items))
