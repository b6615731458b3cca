use Rattle.std.proofs.Common.{rules}
use Rattle.std.proofs.lemmas.List.Sorted.{answers_always}
use Rattle.cn_record.proofs.Lookups.{island_found, island_missing}
use Rattle.cn_record.proofs.islands.island_of.Goals as goal

pub returns-in-Ok : goal.returns-in-Ok
returns-in-Ok c =
    island_found c.args.prefixes.now c.args.prefix.now c.in-Ok.place c.index-prefixes-place.result
    c.in-Ok.ensures.bound
    (c.in-Ok.ensures.position (λ x. x.prefix)
    (answers_always _ _ _ (λ f a r g called. search rules)))

pub returns-in-Err : goal.returns-in-Err
returns-in-Err c = island_missing c.args.prefixes.now c.args.prefix.now c.in-Err.field-0 c.requires
    (c.in-Err.ensures.position (λ x. x.prefix)
    (answers_always _ _ _ (λ f a r g called. search rules)))
