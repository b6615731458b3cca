use Rattle.std.proofs.Common.{map, subst, sym, ap, ◌∙◌}
use Rattle.std.proofs.lemmas.List.{take_all}
use Rattle.cn_base.specs.Table.{AscendsByPrefix, choice_for}
use Rattle.cn_core.specs.Rows.{table_row}
use Rattle.cn_core.specs.Stored.{held_under}
use Rattle.cn_core.proofs.Tabled.{pairs_under, row_under, table_ascends, table_exact}
use Rattle.cn_core.proofs.pull.table.Goals as goal

pub make-requires : goal.make-requires
make-requires c =
    let pool = c.args.pool.now in
    let items = c.rows-row-items.result.now in
    let rows =
    c.loop-row.invariant
    ∙ ap (λ rs. map table_row (map (row_under pool) rs))
    (take_all c.loop-row.row-index items c.loop-row-test.false) in
    subst AscendsByPrefix (sym rows)
    (table_ascends (held_under pool c.args.best.now) (map (row_under pool) items)
    (pairs_under pool c.args.best.now items c.rows-row-items.ensures))

pub returns : goal.returns
returns c =
    let pool = c.args.pool.now in
    let items = c.rows-row-items.result.now in
    let rows =
    c.loop-row.invariant
    ∙ ap (λ rs. map table_row (map (row_under pool) rs))
    (take_all c.loop-row.row-index items c.loop-row-test.false) in
    let made = c.make.ensures ∙ rows in
    let held = held_under pool c.args.best.now in
    let is = pairs_under pool c.args.best.now items c.rows-row-items.ensures in (
      subst AscendsByPrefix (sym made) (table_ascends held (map (row_under pool) items) is),
      λ p. ap (λ t. choice_for t p) made ∙ table_exact held (map (row_under pool) items) is p,
    )
