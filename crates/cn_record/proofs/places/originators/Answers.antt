use Rattle.std.proofs.Common.{arith, rules}
use Rattle.std.proofs.lemmas.List.Sorted.{answers_always}
use Rattle.cn_record.proofs.Originating.{originators_more, originators_sorted}
use Rattle.cn_record.proofs.places.originators.Goals as goal

pub loop-number-preserved : goal.loop-number-preserved
loop-number-preserved c =
    originators_more c.args.net.now c.loop-number.number c.loop-number.places.items
    c.add_device.new.places.items c.loop-number.invariant c.in_ok-add_device.ensures

pub returns-clause-all : goal.returns-clause-all
returns-clause-all c =
    originators_sorted c.args.net.now c.loop-number.number c.loop-number.places.items
    c.sort_unstable_by_key.new.self.items (omega arith)
    c.sort_unstable_by_key.ensures.permutation c.loop-number.invariant

pub returns-clause-ordered : goal.returns-clause-ordered
returns-clause-ordered c =
    c.sort_unstable_by_key.ensures.sorted (λ x. x.prefix)
    (answers_always _ _ _ (λ f a r g called. search rules))
