use Rattle.std.proofs.Common.{map, sym, ap, ◌∙◌, subst}
use Rattle.std.specs.Prelude.{option_copied, option_map}
use Rattle.cn_rib.specs.PrefixMaps.{put_at}
use Rattle.cn_rib.proofs.Mapped.{put_at-mapped}
use Rattle.cn_core.specs.declared.session.Rib.{Rib}
use Rattle.cn_core.specs.OwedLists.{AreDues, AreKept, AreListedBut, AreListedFrom}
use Rattle.cn_core.specs.Stored.{choice_under, held_under, session_under}
use Rattle.cn_core.proofs.Lists.{but-added, but-some_added, listed-kept}
use Rattle.cn_core.proofs.owed.decide.Goals as goal

pub keep_due-requires-clause-but : goal.keep_due-requires-clause-but
keep_due-requires-clause-but c =
    let net = c.args.net.now in
    let pool = c.args.pool.now in
    let p = c.args.prefix.now in
    let xs = map (session_under pool) c.args.sessions.now in
    let held = option_map (choice_under pool) (option_copied c.as_ref-held.result) in
    let owe =
    subst (AreDues net held p xs c.args.start c.args.end) (sym c.deref.ensures.value)
    c.in_ok-dues.ensures.dues in
    but-some_added net (held_under pool c.args.rib.now.loc_rib) held p xs c.args.start c.args.end
    c.deref.result.now owe c.args.lists.now.items c.add_dues.new.lists.items c.requires.listed
    c.add_dues.ensures.some

pub keep_due-requires-in-Err-decide-clause-but : goal.keep_due-requires-in-Err-decide-clause-but
keep_due-requires-in-Err-decide-clause-but c =
    let net = c.args.net.now in
    let pool = c.args.pool.now in
    let p = c.args.prefix.now in
    let xs = map (session_under pool) c.args.sessions.now in
    let held = option_map (choice_under pool) (option_copied c.as_ref-held.result) in
    let owe =
    subst (AreDues net held p xs c.args.start c.args.end) (sym c.deref.ensures.value)
    c.in_ok-dues.ensures.dues in
    subst (λ (y : Rib). AreListedBut net (held_under pool y.loc_rib) p xs c.args.start c.args.end
    c.add_dues.new.lists.items) (sym c.in-Err-decide.ensures.err)
    (but-some_added net (held_under pool c.args.rib.now.loc_rib) held p xs c.args.start
    c.args.end c.deref.result.now owe c.args.lists.now.items c.add_dues.new.lists.items
    c.requires.listed c.add_dues.ensures.some)

pub returns-clause-listed : goal.returns-clause-listed
returns-clause-listed c =
    let net = c.args.net.now in
    let pool = c.args.pool.now in
    let p = c.args.prefix.now in
    let xs = map (session_under pool) c.args.sessions.now in
    let start = c.args.start in
    let end = c.args.end in
    let dues = c.deref.result.now in
    let best = c.args.rib.now.loc_rib in
    let held = option_map (choice_under pool) (option_copied c.as_ref-held.result) in
    let mid = c.add_dues.new.lists.items in
    let new = c.keep_dues.new.lists.items in
    let owe =
    subst (AreDues net held p xs start end) (sym c.deref.ensures.value)
    c.in_ok-dues.ensures.dues in
    let kept =
    subst (λ ds. AreKept ds p start end mid new)
    (c.deref-2.ensures.value ∙ sym c.deref.ensures.value) c.keep_dues.ensures.kept in
    let loc_rib =
    ap (λ (y : Rib). held_under pool y.loc_rib) c.in_default-decide.ensures.ok
    ∙ put_at-mapped (choice_under pool) best p c.args.choice
    ∙ ap (λ o. put_at (held_under pool best) p (option_map (choice_under pool) o))
    (sym c.as_ref-held.ensures.value) in
    subst (λ b. AreListedFrom net b xs start end new) (sym loc_rib)
    (listed-kept net (held_under pool best) held p xs start end dues owe mid new
    (but-added net (held_under pool best) held p xs start end dues owe c.args.lists.now.items mid
    c.requires.listed c.in_default.ensures.added) kept)
