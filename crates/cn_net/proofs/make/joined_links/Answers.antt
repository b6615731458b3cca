use Rattle.std.proofs.Common.{◌≡◌, ◌<◌, ◌∷◌, ◌++◌, [], Bool, false, None, length, if◌then◌else◌, map, take, arith, ap, ◌∙◌, sym}
use Rattle.std.specs.List.{list_any}
use Rattle.std.proofs.lemmas.List.{map-append}
use Rattle.std.proofs.lemmas.Result.{err_from_is_err_and}
use Rattle.cn_net.specs.Ends.{ends_between, same_pair}
use Rattle.cn_net.specs.Faults.{first_in, join_fault, link_fault}
use Rattle.cn_net.specs.Kept.{names_of}
use Rattle.cn_net.specs.Numbered.{link_made, number_in, texts}
use Rattle.cn_net.specs.declared.device.Link.{Link}
use Rattle.cn_net.proofs.Finding.{joined_fresh, joins_stand, link_looked}
use Rattle.cn_net.proofs.First.{first_here, first_later, told}
use Rattle.cn_net.proofs.Steps.{link_is, pushed_more}
use Rattle.cn_net.proofs.make.joined_links.Goals as goal
use Rattle.cn_net.proofs.make.joined_links.Goals.{After-joins_new}

-- the link that is tried
abbrev link_tried : After-joins_new → Link
link_tried c = record {
  a = c.in_ok-number_of.field-0;
  b = c.in_ok-number_of-2.field-0;
  up = c.draft-item.result.up;
}

-- one before it has its ends
abbrev stands_before : After-joins_new → Bool
stands_before c = list_any (same_pair (ends_between (link_tried c))) c.loop-draft.before.keys

link_numbered : (c : After-joins_new)
    → link_tried c ≡ link_made (names_of c.args.devices.now) c.draft-item.result
link_numbered c =
    let draft = c.draft-item.result in
    let named = c.requires.named in
    link_is (names_of c.args.devices.now) draft c.in_ok-number_of.field-0
    c.in_ok-number_of-2.field-0
    (c.in_ok-number_of.ensures.ok ∙ ap (λ ns. number_in ns draft.a) named)
    (c.in_ok-number_of-2.ensures.ok ∙ ap (λ ns. number_in ns draft.b) named)

-- its ends are known, so its fault is what `joins_new` tells
looked_at : (c : After-joins_new)
    → link_fault c.args.devices.now (take c.loop-draft.draft-index c.args.links.now)
    c.draft-item.result
    ≡ join_fault c.args.devices.now (stands_before c) (link_tried c)
looked_at c =
    let devices = c.args.devices.now in
    let before = take c.loop-draft.draft-index c.args.links.now in
    let so = c.loop-draft.invariant in
    let l = link_tried c in
    let stands = joins_stand l c.loop-draft.joined.items (map (link_made (names_of devices)) before)
    c.loop-draft.before.keys so.ends so.made in
    link_looked devices before c.draft-item.result (texts c.args.names.now.keys) l (stands_before c)
    c.requires.named c.in_ok-number_of.ensures.first c.in_ok-number_of-2.ensures.first
    (link_numbered c) stands

pub returns-in_err-joins_new-clause-first : goal.returns-in_err-joins_new-clause-first
returns-in_err-joins_new-clause-first c =
    let devices = c.args.devices.now in
    let links = c.args.links.now in
    let i = c.loop-draft.draft-index in
    let draft = c.draft-item.result in
    let here = (goal.at.returns-in_err-joins_new-clause-first c).After-joins_new in
    let within : i < length links = omega arith in
    let result = c.from_residual-in_err-joins_new.result in
    let p = err_from_is_err_and result c.from_residual-in_err-joins_new.ensures.1 in
    rw (p.1, p.2)
    (told (join_fault devices (stands_before here) (link_tried here))
    (first_in (link_fault devices) links) c.in_err-joins_new.field-0.0
    (λ f e.
    first_here (link_fault devices) links i draft f within c.draft-item.is
    c.loop-draft.invariant.first (looked_at here ∙ e))
    c.in_err-joins_new.ensures)

pub loop-draft-preserved : goal.loop-draft-preserved
loop-draft-preserved c =
    let devices = c.args.devices.now in
    let links = c.args.links.now in
    let i = c.loop-draft.draft-index in
    let draft = c.draft-item.result in
    let here = (goal.at.loop-draft-preserved c).After-joins_new in
    let within : i < length links = omega arith in
    let so = c.loop-draft.invariant in
    let old = c.loop-draft.joined.items in
    let before = c.loop-draft.before.keys in
    let l = link_tried here in
    let new : join_fault devices (stands_before here) l ≡ None = c.in_ok-joins_new.ensures in
    let fresh : stands_before here ≡ false = joined_fresh devices (stands_before here) l new in
    let put : c.push.new.self.items ≡ old ++ l ∷ [] = c.in_ok-push.ensures.items in
    let keys : c.insert.new.self.keys ≡ before ++ ends_between l ∷ [] =
    c.in_ok-insert.ensures.keys
    ∙ (λ j.
    let ends = c.ends_of.ensures j in
    if list_any (same_pair ends) before then before else (before ++ ends ∷ []))
    ∙ ap (λ t. if t then before else (before ++ ends_between l ∷ [])) fresh in
    record {
      made = pushed_more (link_made (names_of devices)) links i draft within c.draft-item.is old
          c.push.new.self.items so.made (put ∙ ap (λ x. old ++ x ∷ []) (link_numbered here));
      ends =
          keys
          ∙ ap (λ ks. ks ++ ends_between l ∷ []) so.ends
          ∙ sym (map-append ends_between old (l ∷ []))
          ∙ ap (map ends_between) (sym put);
      first = first_later (link_fault devices) links i draft within c.draft-item.is so.first
          (looked_at here ∙ new);
    }
