use Rattle.std.proofs.Common.{List, Option, Some, sym, ap, ◌∙◌, true≢false}
use Rattle.std.specs.Prelude.{is_some, option_copied, option_map}
use Rattle.std.specs.Borrow.{Bor}
use Rattle.cn_base.specs.declared.ids.Asn.{Asn}
use Rattle.cn_net.specs.Exchange.{offer}
use Rattle.cn_rib.specs.Interned.{attributes_under}
use Rattle.cn_core.specs.declared.best.Best.{Best}
use Rattle.cn_core.specs.Machine.{route_with}
use Rattle.cn_core.specs.Owed.{offered_attributes, unless_sent}
use Rattle.cn_core.specs.OwedLists.{due_of}
use Rattle.cn_core.specs.Stored.{choice_under}
use Rattle.cn_core.proofs.Offers.{due-other, due-same, due-unsent, offered_unless}
use Rattle.cn_core.proofs.Owes.{nothing_offered}
use Rattle.cn_core.proofs.owed.due_with.Goals as goal

pub returns-in_default : goal.returns-in_default
returns-in_default c =
    let sent = option_map (attributes_under c.args.pool.now) c.args.sent in
    c.due_unoffered.ensures
    ∙ ap (λ o. due_of (unless_sent sent o))
    (sym (nothing_offered c.args.net.now c.args.from c.args.to c.args.prefix.now))
    ∙ ap (λ (h : Option (Bor Best)). due_of (unless_sent sent
    (offered_attributes c.args.net.now c.args.from c.args.to c.args.prefix.now
    (option_map (choice_under c.args.pool.now) (option_copied h)))))
    (sym c.in_default.is)

pub returns-then-not-has_offer : goal.returns-then-not-has_offer
returns-then-not-has_offer c =
    let pool = c.args.pool.now in
    let best = c.in-Some.best.now in
    let sent = option_map (attributes_under pool) c.args.sent in
    let has =
    ap (λ (xs : List Asn). is_some (offer c.args.net.now c.args.from c.args.to
    (record { prefix = c.args.prefix.now; path = xs; origin = best.origin })))
    (sym c.path-path.ensures) in
    c.due_unoffered-then-not-has_offer.ensures
    ∙ ap (λ o. due_of (unless_sent sent o))
    (sym (offered_unless c.args.net.now c.args.from c.args.to c.args.prefix.now
    (choice_under pool best)
    (has ∙ sym (c.has_offer.ensures best.origin) ∙ c.if-not-has_offer.true)))
    ∙ ap (λ (h : Option (Bor Best)). due_of (unless_sent sent
    (offered_attributes c.args.net.now c.args.from c.args.to c.args.prefix.now
    (option_map (choice_under pool) (option_copied h)))))
    (sym c.in-Some.is)

pub returns-in_default-sent : goal.returns-in_default-sent
returns-in_default-sent c =
    let pool = c.args.pool.now in
    let best = c.in-Some.best.now in
    let has =
    ap (λ (xs : List Asn). is_some (offer c.args.net.now c.args.from c.args.to
    (record { prefix = c.args.prefix.now; path = xs; origin = best.origin })))
    (sym c.path-path.ensures) in
    due-unsent c.args.net.now c.args.from c.args.to c.args.prefix.now (choice_under pool best)
    (has ∙ sym (c.has_offer.ensures best.origin) ∙ c.if-not-has_offer.false)
    ∙ (λ i. due_of (unless_sent
    (option_map (attributes_under pool) (sym c.in_default-sent.is i))
    (offered_attributes c.args.net.now c.args.from c.args.to c.args.prefix.now
    (option_map (choice_under pool) (option_copied (sym c.in-Some.is i))))))

pub returns-then-is_offer : goal.returns-then-is_offer
returns-then-is_offer c =
    let net = c.args.net.now in
    let pool = c.args.pool.now in
    let p = c.args.prefix.now in
    let best = c.in-Some.best.now in
    let sent = c.in-Some-sent.sent in
    let offered =
    ap (λ (xs : List Asn). offer net c.args.from c.args.to
    (record { prefix = p; path = xs; origin = best.origin }))
    (sym c.path-path.ensures) in
    let said =
    ap (λ (xs : List Asn). Some (route_with p (record { path = xs; origin = sent.origin })))
    c.path-sent_path.ensures in
    due-same net c.args.from c.args.to p (choice_under pool best) (attributes_under pool sent)
    (offered ∙ c.is_offer.ensures.0 c.if-is_offer.true ∙ said)
    ∙ (λ i. due_of (unless_sent
    (option_map (attributes_under pool) (sym c.in-Some-sent.is i))
    (offered_attributes net c.args.from c.args.to p
    (option_map (choice_under pool) (option_copied (sym c.in-Some.is i))))))

pub returns : goal.returns
returns c =
    let net = c.args.net.now in
    let pool = c.args.pool.now in
    let p = c.args.prefix.now in
    let best = c.in-Some.best.now in
    let sent = c.in-Some-sent.sent in
    let offered =
    ap (λ (xs : List Asn). offer net c.args.from c.args.to
    (record { prefix = p; path = xs; origin = best.origin }))
    c.path-path.ensures in
    let said =
    ap (λ (xs : List Asn). Some (route_with p (record { path = xs; origin = sent.origin })))
    (sym c.path-sent_path.ensures) in
    due-other net c.args.from c.args.to p (choice_under pool best) (attributes_under pool sent)
    (ap is_some (sym offered) ∙ sym (c.has_offer.ensures best.origin) ∙ c.if-not-has_offer.false)
    (λ same.
    true≢false (sym (c.is_offer.ensures.1 (offered ∙ same ∙ said)) ∙ c.if-is_offer.false))
    ∙ (λ i. due_of (unless_sent
    (option_map (attributes_under pool) (sym c.in-Some-sent.is i))
    (offered_attributes net c.args.from c.args.to p
    (option_map (choice_under pool) (option_copied (sym c.in-Some.is i))))))
