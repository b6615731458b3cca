use Rattle.std.proofs.Common.{rules}
use Rattle.std.specs.Ordering.{is_lt}
use Rattle.std.proofs.lemmas.List.Sorted.{answers_always}
use Rattle.cn_lists.proofs.Halving.{IsStrictlySortedBy-tested}
use Rattle.cn_base.specs.Table.{prefix_cmp}
use Rattle.cn_base.proofs.Lookups.{prefix_cmp_total}
use Rattle.cn_pack.specs.declared.owed.Owed.{Owed}
use Rattle.cn_pack.proofs.owed.Owed.ascend.Goals as goal

pub returns : goal.returns
returns c =
    IsStrictlySortedBy-tested prefix_cmp_total (λ (x : Owed). x.prefix) _ _
    (c.is_sorted_by.ensures.cases (λ x y. is_lt (prefix_cmp x.prefix y.prefix))
    (answers_always _ _ _ (λ f a r g called. search rules)))
