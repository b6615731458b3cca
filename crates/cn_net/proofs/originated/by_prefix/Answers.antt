use Rattle.std.proofs.Common.{List, rules, subst, sym}
use Rattle.std.specs.List.Sorted.{IsPermutation}
use Rattle.std.proofs.lemmas.List.Sorted.{answers_always}
use Rattle.cn_net.specs.Kept.{IsByPrefix}
use Rattle.cn_net.specs.declared.device.Own.{Own}
use Rattle.cn_net.proofs.ByPrefix.{IsByPrefix-from_sort}
use Rattle.cn_net.proofs.originated.by_prefix.Goals as goal

pub returns : goal.returns
returns c =
    let own = c.args.own.now in
    let list : List Own = c.sort_unstable_by_key.new.self.items in
    let moved : IsPermutation own list =
    subst (λ xs. IsPermutation xs list) c.in_ok-list.ensures.items
    c.sort_unstable_by_key.ensures.permutation in
    subst (IsByPrefix own) (sym c.make.ensures)
    (IsByPrefix-from_sort own list c.requires.once moved
    (c.sort_unstable_by_key.ensures.sorted (λ o. o.prefix)
    (answers_always _ _ _ (λ f a r g h. search rules))))
