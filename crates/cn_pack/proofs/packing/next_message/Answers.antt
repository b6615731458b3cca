use Rattle.std.proofs.Common.{◌∙◌, sym}
use Rattle.cn_pack.proofs.Fullest.{message_for, rule_of, exact_of, held_of, says_of, withdrawn_is}
use Rattle.cn_pack.proofs.packing.next_message.Goals as goal

pub returns-clause-rule : goal.returns-clause-rule
returns-clause-rule c =
    rule_of c.args.owed.now c.args.next_hop c.announcing.result
    (message_for c.args.owed.now c.index-owed-0.result c.args.next_hop c.announcing.result
    c.requires.some (sym c.withdraws.ensures ∙ c.if-withdraws.false) c.announcing.ensures.gives
    c.announcing.ensures.small)

pub returns-clause-exact : goal.returns-clause-exact
returns-clause-exact c =
    exact_of c.args.owed.now c.args.next_hop c.announcing.result
    (message_for c.args.owed.now c.index-owed-0.result c.args.next_hop c.announcing.result
    c.requires.some (sym c.withdraws.ensures ∙ c.if-withdraws.false) c.announcing.ensures.gives
    c.announcing.ensures.small)

pub returns-clause-fits : goal.returns-clause-fits
returns-clause-fits c =
    held_of c.args.owed.now c.args.next_hop c.announcing.result
    (message_for c.args.owed.now c.index-owed-0.result c.args.next_hop c.announcing.result
    c.requires.some (sym c.withdraws.ensures ∙ c.if-withdraws.false) c.announcing.ensures.gives
    c.announcing.ensures.small)

pub returns-clause-never_empty : goal.returns-clause-never_empty
returns-clause-never_empty c =
    says_of c.args.owed.now c.args.next_hop c.announcing.result
    (message_for c.args.owed.now c.index-owed-0.result c.args.next_hop c.announcing.result
    c.requires.some (sym c.withdraws.ensures ∙ c.if-withdraws.false) c.announcing.ensures.gives
    c.announcing.ensures.small)

pub returns-then-withdraws-clause-rule : goal.returns-then-withdraws-clause-rule
returns-then-withdraws-clause-rule c =
    rw (
      c.make.ensures,
      c.make-then-withdraws.ensures,
      c.new.ensures.items,
      c.in_ok-withdrawn_of.ensures,
    ) (withdrawn_is c.args.owed.now c.args.next_hop
    (sym c.withdraws.ensures ∙ c.if-withdraws.true)).rule

pub returns-then-withdraws-clause-exact : goal.returns-then-withdraws-clause-exact
returns-then-withdraws-clause-exact c =
    rw (
      c.make.ensures,
      c.make-then-withdraws.ensures,
      c.new.ensures.items,
      c.in_ok-withdrawn_of.ensures,
    ) (withdrawn_is c.args.owed.now c.args.next_hop
    (sym c.withdraws.ensures ∙ c.if-withdraws.true)).exact

pub returns-then-withdraws-clause-fits : goal.returns-then-withdraws-clause-fits
returns-then-withdraws-clause-fits c =
    rw (
      c.make.ensures,
      c.make-then-withdraws.ensures,
      c.new.ensures.items,
      c.in_ok-withdrawn_of.ensures,
    ) (withdrawn_is c.args.owed.now c.args.next_hop
    (sym c.withdraws.ensures ∙ c.if-withdraws.true)).held

pub returns-then-withdraws-clause-never_empty : goal.returns-then-withdraws-clause-never_empty
returns-then-withdraws-clause-never_empty c =
    rw (
      c.make.ensures,
      c.make-then-withdraws.ensures,
      c.new.ensures.items,
      c.in_ok-withdrawn_of.ensures,
    ) (withdrawn_is c.args.owed.now c.args.next_hop
    (sym c.withdraws.ensures ∙ c.if-withdraws.true)).says
