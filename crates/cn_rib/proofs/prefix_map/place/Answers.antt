use Rattle.std.proofs.Common.{rules}
use Rattle.std.proofs.lemmas.List.Sorted.{answers_always}
use Rattle.cn_rib.proofs.prefix_map.place.Goals as goal

-- the closure gives a row's prefix
pub returns-clause-position : goal.returns-clause-position
returns-clause-position g c =
    c.binary_search_by_key.ensures.position (λ row. row.prefix)
    (answers_always _ _ _ (λ f a r s called. search rules))
