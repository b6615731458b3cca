-- Rows as the rows of a table.
use Rattle.cn_base.specs.declared.route.Choice.{Choice}
use Rattle.cn_base.specs.declared.table.TableRow.{TableRow}
use Rattle.cn_rib.specs.declared.prefix_map.Row.{Row}

-- a row as a row of a table
abbrev pub table_row : Row Choice → TableRow
table_row r = record { prefix = r.prefix; choice = r.value }
