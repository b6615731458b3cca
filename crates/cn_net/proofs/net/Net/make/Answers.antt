use Rattle.std.proofs.Common.{◌≡◌, ◌∙◌, All, ap, arith, length, map, None, subst, sym}
use Rattle.std.proofs.lemmas.Result.{err_from_is_err_and}
use Rattle.cn_net.specs.Drafted.{draft_of}
use Rattle.cn_net.specs.Faults.{device_fault, first_in, link_fault, parts_fault, peers_fault, prefixes_fault}
use Rattle.cn_net.specs.Kept.{AreNamesOf, AreOwn, names_of}
use Rattle.cn_net.specs.Neighbours.{AreNeighbours, AreStarts}
use Rattle.cn_net.specs.Numbered.{device_made, link_made, texts, written_names}
use Rattle.cn_net.specs.Valid.{IsValid, OriginatesOnce}
use Rattle.cn_net.proofs.Faultless.{AreJoined, links_joined}
use Rattle.cn_net.proofs.First.{told_as}
use Rattle.cn_net.proofs.Making.{IsFaultless, devices_of, devices_told, ends_apart, links_of, links_told, no_fault, none_told, parts_of, parts_told, peers_of, peers_told, prefixes_of, prefixes_told, reads_back, valid_made}
use Rattle.cn_net.proofs.Remade.{devices_made, links_made, names_made, network_made}
use Rattle.cn_net.proofs.net.Net.make.Goals as goal
use Rattle.cn_net.proofs.net.Net.make.Goals.{After-deref-2, After-items, After-items-drafts, After-make-2, In_ok-names}

-- ---- what is known once a step found no fault

parts_none : (c : After-items-drafts) → parts_of c.args.draft.now ≡ None
parts_none c =
    (λ j. parts_fault (sym c.len.ensures j) (sym c.len-2.ensures j)) ∙ c.in_ok-few_parts.ensures

devices_none : (c : In_ok-names) → devices_of c.args.draft.now ≡ None
devices_none c =
    ap (first_in device_fault) (sym c.items-drafts.ensures) ∙ c.in_ok-names.ensures.first

named : (c : In_ok-names)
    → texts c.in_ok-names.names.keys ≡ written_names c.args.draft.now.devices
named c = c.in_ok-names.ensures.ok ∙ ap written_names c.items-drafts.ensures

prefixes_none : (c : After-items) → prefixes_of c.args.draft.now ≡ None
prefixes_none c = ap prefixes_fault (sym c.items-drafts.ensures) ∙ c.in_ok-few_prefixes.ensures

peers_none : (c : After-items) → peers_of c.args.draft.now ≡ None
peers_none c =
    let names = sym (named (goal.at.joined_links-requires-clause-named c).In_ok-names) in
    (λ j. first_in (peers_fault (names j)) (sym c.items-drafts.ensures j))
    ∙ c.in_ok-devices.ensures.first

made : (c : After-items) → c.deref.result.now ≡ devices_made c.args.draft.now
made c =
    let names = named (goal.at.joined_links-requires-clause-named c).In_ok-names in
    c.deref.ensures.value
    ∙ c.in_ok-devices.ensures.made
    ∙ (λ j. map (device_made (names j)) (c.items-drafts.ensures j))

bear_names : (c : After-items) → AreNamesOf c.deref.result.now c.in_ok-names.names.keys
bear_names c =
    let drafts = c.args.draft.now.devices in
    named (goal.at.joined_links-requires-clause-named c).In_ok-names
    ∙ sym (names_made (written_names drafts) drafts)
    ∙ ap names_of (sym (made c))

links_none : (c : After-deref-2) → links_of c.args.draft.now ≡ None
links_none c =
    let devices = sym (made (goal.at.neighbours_of-requires-clause-apart c).After-items) in
    (λ j. first_in (link_fault (devices j)) (sym c.items.ensures j)) ∙ c.in_ok-links.ensures.first

joined : (c : After-deref-2) → c.deref-2.result.now ≡ links_made c.args.draft.now
joined c =
    let devices = made (goal.at.neighbours_of-requires-clause-apart c).After-items in
    c.deref-2.ensures.value
    ∙ c.in_ok-links.ensures.made
    ∙ (λ j. map (link_made (names_of (devices j))) (c.items.ensures j))

are_joined : (c : After-deref-2) → AreJoined (devices_made c.args.draft.now) c.deref-2.result.now
are_joined c =
    let draft = c.args.draft.now in
    let devices = devices_made draft in
    subst (AreJoined devices) (sym (joined c)) (links_joined devices draft.links (links_none c))

-- ---- the network, where no step found one

faultless : (c : After-deref-2) → IsFaultless c.args.draft.now
faultless c =
    let at = goal.at.neighbours_of-requires-clause-apart c in
    record {
      parts = parts_none at.After-items-drafts;
      devices = devices_none at.In_ok-names;
      prefixes = prefixes_none at.After-items;
      peers = peers_none at.After-items;
      links = links_none c;
    }

devices_are : (c : After-make-2) → c.make.result ≡ c.deref.result.now
devices_are c = c.make.ensures ∙ sym c.deref.ensures.value

links_are : (c : After-make-2) → c.make-2.result ≡ c.deref-2.result.now
links_are c = c.make-2.ensures ∙ sym c.deref-2.ensures.value

net_is : (c : After-make-2)
    → record { devices = c.make.result; links = c.make-2.result } ≡ network_made c.args.draft.now
net_is c =
    let at = goal.at.returns-clause-ok c in
    let devices = devices_are c ∙ made at.After-items in
    let links = links_are c ∙ joined at.After-deref-2 in
    λ j. record { devices = devices j; links = links j }

-- ---- the answers

pub returns-in_err-few_parts-clause-first : goal.returns-in_err-few_parts-clause-first
returns-in_err-few_parts-clause-first c =
    let e = c.in_err-few_parts.field-0.0 in
    let p = err_from_is_err_and c.from_residual.result c.from_residual.ensures.1 in
    rw (p.1, p.2)
    (parts_told c.args.draft.now e
    (told_as _ _ e (λ j. parts_fault (c.len.ensures j) (c.len-2.ensures j))
    c.in_err-few_parts.ensures))

pub returns-in_err-few_parts-clause-fault : goal.returns-in_err-few_parts-clause-fault
returns-in_err-few_parts-clause-fault c =
    none_told c.args.draft.now c.from_residual.result (returns-in_err-few_parts-clause-first c)

pub returns-in_err-names-clause-first : goal.returns-in_err-names-clause-first
returns-in_err-names-clause-first c =
    let at = goal.at.returns-in_err-names-clause-first c in
    let e = c.in_err-names.field-0.0 in
    let answer = c.from_residual-in_err-names in
    let p = err_from_is_err_and answer.result answer.ensures.1 in
    rw (p.1, p.2)
    (devices_told c.args.draft.now e (parts_none at.After-items-drafts)
    (told_as _ _ e (ap (first_in device_fault) c.items-drafts.ensures)
    c.in_err-names.ensures.first))

pub returns-in_err-names-clause-fault : goal.returns-in_err-names-clause-fault
returns-in_err-names-clause-fault c =
    none_told c.args.draft.now c.from_residual-in_err-names.result
    (returns-in_err-names-clause-first c)

pub returns-in_err-few_prefixes-clause-first : goal.returns-in_err-few_prefixes-clause-first
returns-in_err-few_prefixes-clause-first c =
    let at = goal.at.returns-in_err-few_prefixes-clause-first c in
    let e = c.in_err-few_prefixes.field-0.0 in
    let answer = c.from_residual-in_err-few_prefixes in
    let p = err_from_is_err_and answer.result answer.ensures.1 in
    rw (p.1, p.2)
    (prefixes_told c.args.draft.now e (parts_none at.After-items-drafts)
    (devices_none at.In_ok-names)
    (told_as _ _ e (ap prefixes_fault c.items-drafts.ensures) c.in_err-few_prefixes.ensures))

pub returns-in_err-few_prefixes-clause-fault : goal.returns-in_err-few_prefixes-clause-fault
returns-in_err-few_prefixes-clause-fault c =
    none_told c.args.draft.now c.from_residual-in_err-few_prefixes.result
    (returns-in_err-few_prefixes-clause-first c)

pub returns-in_err-devices-clause-first : goal.returns-in_err-devices-clause-first
returns-in_err-devices-clause-first c =
    let at = goal.at.returns-in_err-devices-clause-first c in
    let e = c.in_err-devices.field-0.0 in
    let answer = c.from_residual-in_err-devices in
    let p = err_from_is_err_and answer.result answer.ensures.1 in
    let names = named at.In_ok-names in
    rw (p.1, p.2)
    (peers_told c.args.draft.now e (parts_none at.After-items-drafts) (devices_none at.In_ok-names)
    (ap prefixes_fault (sym c.items-drafts.ensures) ∙ c.in_ok-few_prefixes.ensures)
    (told_as _ _ e (λ j. first_in (peers_fault (names j)) (c.items-drafts.ensures j))
    c.in_err-devices.ensures.first))

pub returns-in_err-devices-clause-fault : goal.returns-in_err-devices-clause-fault
returns-in_err-devices-clause-fault c =
    none_told c.args.draft.now c.from_residual-in_err-devices.result
    (returns-in_err-devices-clause-first c)

pub joined_links-requires-clause-named : goal.joined_links-requires-clause-named
joined_links-requires-clause-named c = bear_names c

pub returns-in_err-links-clause-first : goal.returns-in_err-links-clause-first
returns-in_err-links-clause-first c =
    let at = goal.at.returns-in_err-links-clause-first c in
    let e = c.in_err-links.field-0.0 in
    let answer = c.from_residual-in_err-links in
    let p = err_from_is_err_and answer.result answer.ensures.1 in
    let devices = made at.After-items in
    rw (p.1, p.2)
    (links_told c.args.draft.now e (parts_none at.After-items-drafts) (devices_none at.In_ok-names)
    (prefixes_none at.After-items) (peers_none at.After-items)
    (told_as _ _ e (λ j. first_in (link_fault (devices j)) (c.items.ensures j))
    c.in_err-links.ensures.first))

pub returns-in_err-links-clause-fault : goal.returns-in_err-links-clause-fault
returns-in_err-links-clause-fault c =
    none_told c.args.draft.now c.from_residual-in_err-links.result
    (returns-in_err-links-clause-first c)

pub neighbours_of-requires-clause-apart : goal.neighbours_of-requires-clause-apart
neighbours_of-requires-clause-apart c =
    ends_apart (devices_made c.args.draft.now) c.deref-2.result.now (are_joined c)

pub neighbours_of-requires-clause-one_link : goal.neighbours_of-requires-clause-one_link
neighbours_of-requires-clause-one_link c = (are_joined c).one_link

pub own_by_prefix-requires : goal.own_by_prefix-requires
own_by_prefix-requires c =
    let at = goal.at.own_by_prefix-requires c in
    let draft = c.args.draft.now in
    let devices : c.deref-4.result.now ≡ devices_made draft =
    c.deref-4.ensures.value ∙ sym c.deref.ensures.value ∙ made at.After-items in
    record {
      once =
          subst (λ ds. All (λ d. OriginatesOnce d.body) ds) (sym devices)
          (valid_made draft (faultless at.After-deref-2)).own;
    }

pub invariant_of-result : goal.invariant_of-result
invariant_of-result c =
    let at = goal.at.invariant_of-result c in
    let here = at.After-make-2 in
    let neighbours = c.in_ok-neighbours in
    let starts = c.in_ok-starts.starts.items in
    let many : c.len-3.result ≡ length c.make.result =
    omega (arith, ap length c.make.ensures, c.len-3.ensures, c.in_ok-devices.devices.ok) in
    record {
      valid =
          subst IsValid (sym (net_is here))
          (valid_made c.args.draft.now (faultless at.After-deref-2));
      named = bear_names at.After-items ∙ ap names_of (sym (devices_are here));
      joined =
          subst (λ ls. AreNeighbours ls neighbours.neighbours.items) (sym (links_are here))
          neighbours.ensures;
      begun =
          subst (λ list. AreStarts (length c.make.result) list starts) c.deref-3.ensures.value
          (subst (λ k. AreStarts k c.deref-3.result.now starts) many c.in_ok-starts.ensures);
      originated =
          subst (λ ds. AreOwn ds c.in_ok-own.own.items)
          (c.deref-4.ensures.value ∙ sym c.make.ensures) c.in_ok-own.ensures;
    }

pub returns-clause-ok : goal.returns-clause-ok
returns-clause-ok c =
    let at = goal.at.returns-clause-ok c in
    ap draft_of (net_is c) ∙ reads_back c.args.draft.now (faultless at.After-deref-2)

pub returns-clause-first : goal.returns-clause-first
returns-clause-first c =
    let at = goal.at.returns-clause-first c in
    no_fault c.args.draft.now (faultless at.After-deref-2)
