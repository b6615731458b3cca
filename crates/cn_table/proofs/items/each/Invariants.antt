use Rattle.std.proofs.Common.{◌≡◌, drop}
use Rattle.toml.specs.View.{items_view}
use Rattle.cn_table.specs.Tables.{each}
use Rattle.cn_lists.proofs.Loops.{before, with_front}
use Rattle.cn_table.proofs.items.each.Given as goal

abbrev pub invariant-loop-place : goal.invariant-loop-place
invariant-loop-place g l =
    with_front before l.items.items
    (each (g.R.Reader.reads l.reader) l.path l.place (items_view (drop l.place l.values)))
    ≡ each (g.R.Reader.reads l.reader) l.path 0 (items_view l.values)
