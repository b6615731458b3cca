use Rattle.std.proofs.Common.{rules}
use Rattle.std.specs.Ordering.{is_lt}
use Rattle.std.proofs.lemmas.List.Sorted.{answers_always}
use Rattle.cn_base.specs.Table.{prefix_cmp}
use Rattle.cn_base.proofs.Lookups.{tested}
use Rattle.cn_base.proofs.table.Table.ascends.Goals as goal

pub returns : goal.returns
returns c =
    tested _ _ (c.is_sorted_by.ensures.cases (λ x y. is_lt (prefix_cmp x.prefix y.prefix))
    (answers_always _ _ _ (λ f a r g called. search rules)))
