use Rattle.std.proofs.Common.{◌≡◌, arith, map, rules, subst}
use Rattle.std.specs.List.Sorted.{IsPermutation}
use Rattle.std.proofs.lemmas.List.{take_all}
use Rattle.std.proofs.lemmas.List.Sorted.{answers_always}
use Rattle.cn_record.specs.Places.{place_of}
use Rattle.cn_record.proofs.Originating.{rows_sorted}
use Rattle.cn_record.proofs.places.row_devices.Goals as goal

pub returns-clause-all : goal.returns-clause-all
returns-clause-all c =
    let all : c.loop-row.places.items ≡ map place_of c.args.rows.now =
    rw (take_all c.loop-row.row-index c.args.rows.now (omega arith)) at c.loop-row.invariant in
    rows_sorted c.args.rows.now c.sort_unstable_by_key.new.self.items
    (subst (λ xs. IsPermutation xs c.sort_unstable_by_key.new.self.items) all
    c.sort_unstable_by_key.ensures.permutation)

pub returns-clause-ordered : goal.returns-clause-ordered
returns-clause-ordered c =
    c.sort_unstable_by_key.ensures.sorted (λ x. x.prefix)
    (answers_always _ _ _ (λ f a r g called. search rules))
