use Rattle.std.proofs.Common.{◌≡◌, ◌++◌, take}
use Rattle.std.specs.List.{flat_map}
use Rattle.cn_report.specs.Answers.{table_text}
use Rattle.cn_report.proofs.tables.put_tables.Given as goal

abbrev pub invariant-loop-held : goal.invariant-loop-held
invariant-loop-held l =
    l.text.items ≡ l.fn.text.items ++ flat_map (table_text l.net) (take l.held-index l.tables)
