use Rattle.std.proofs.Common.{map}
use Rattle.cn_table.proofs.KeyLoop.{listed_is, passed, stopped, all_passed, fault_fails}
use Rattle.cn_table.proofs.keys.only.Goals as goal

pub returns-then-not-is_listed : goal.returns-then-not-is_listed
returns-then-not-is_listed c =
    fault_fails _ _ _ c.unlisted_key.ensures
    (stopped c.args.front.now (map (λ k. k.now) c.args.listed.now) c.loop-key.key-iterator
    c.next.new.self (c.in-Some.key.now, c.in-Some._value.now) _ c.in-Some.ensures.steps
    (listed_is c.as_str.result.now _ c.args.listed.now _ _ c.is_listed.ensures
    c.as_str.ensures.value c.if-not-is_listed.true) c.loop-key.invariant)

pub loop-key-preserved : goal.loop-key-preserved
loop-key-preserved c =
    passed (map (λ k. k.now) c.args.listed.now) c.loop-key.key-iterator c.next.new.self
    (c.in-Some.key.now, c.in-Some._value.now) _ c.in-Some.ensures.steps
    (listed_is c.as_str.result.now _ c.args.listed.now _ _ c.is_listed.ensures
    c.as_str.ensures.value c.if-not-is_listed.false) c.loop-key.invariant

pub returns : goal.returns
returns c =
    all_passed c.args.front.now (map (λ k. k.now) c.args.listed.now) c.loop-key.key-iterator _
    c.in-None.ensures.steps.0 c.loop-key.invariant
