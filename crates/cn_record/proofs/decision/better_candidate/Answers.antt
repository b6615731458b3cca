use Rattle.std.proofs.Common.{◌∙◌, ◌<◌, length, arith, ap, sym}
use Rattle.cn_net.specs.Network.{asn_of}
use Rattle.cn_record.specs.Rounds.{begins_with}
use Rattle.cn_record.proofs.Deciding.{better-held_none, better-loop, better-not_offered, better-offered, better-no_offer_outranks}
use Rattle.cn_record.proofs.Hearing.{holds_first}
use Rattle.cn_record.proofs.decision.better_candidate.Goals as goal
use Rattle.cn_record.proofs.decision.better_candidate.Goals.{In-Some}

within : (c : In-Some) → c.args.from.0 < length c.args.table.now
within c = omega (arith, c.requires.from, c.requires.size)

pub returns-in-None : goal.returns-in-None
returns-in-None c =
    better-held_none c.args.net.now c.args.prefix.now c.args.table.now c.args.device c.args.from
    c.args.best _ (omega (arith, c.requires.from, c.requires.size)) c.index-table-from.is
    c.in-None.is

pub returns-then-no_offer_outranks : goal.returns-then-no_offer_outranks
returns-then-no_offer_outranks c =
    better-no_offer_outranks c.args.net.now c.args.prefix.now c.args.table.now c.args.device
    c.args.from
    c.args.best _ c.in-Some.held (within (goal.at.returns-then-no_offer_outranks c).In-Some)
    c.index-table-from.is c.in-Some.is
    (sym c.no_offer_outranks.ensures ∙ c.if-no_offer_outranks.true)

pub returns-then-begins_with : goal.returns-then-begins_with
returns-then-begins_with c =
    let begins = sym (c.begins_with.ensures ∙ ap (begins_with c.in-Some.held.path) c.asn.ensures)
    ∙ c.if-begins_with.true in
    better-loop c.args.net.now c.args.prefix.now c.args.table.now c.args.device c.args.from
    c.args.best _ c.in-Some.held (within (goal.at.returns-then-begins_with c).In-Some)
    c.index-table-from.is c.in-Some.is
    (holds_first c.in-Some.held.path (asn_of c.args.net.now c.args.device) begins)

pub returns-in-Some-2 : goal.returns-in-Some-2
returns-in-Some-2 c =
    c.better_accepted.ensures
    ∙ better-offered c.args.net.now c.args.prefix.now c.args.table.now c.args.device c.args.from
    c.args.best _ c.in-Some.held (within (goal.at.returns-in-Some-2 c).In-Some)
    c.index-table-from.is c.in-Some.is _ (sym c.in-Some-2.is ∙ c.in_ok-route.ensures)

pub returns-in-None-2 : goal.returns-in-None-2
returns-in-None-2 c =
    better-not_offered c.args.net.now c.args.prefix.now c.args.table.now c.args.device c.args.from
    c.args.best _ c.in-Some.held (within (goal.at.returns-in-None-2 c).In-Some)
    c.index-table-from.is c.in-Some.is (sym c.in-None-2.is ∙ c.in_ok-route.ensures)
