use Rattle.std.proofs.Common.{sym, ◌∙◌, subst}
use Rattle.cn_rib.specs.Interned.{attributes_under}
use Rattle.cn_rib.proofs.Keyed.{keys_of_rows}
use Rattle.cn_rib.proofs.Mapped.{keys-mapped}
use Rattle.cn_core.specs.OwedLists.{IsListed, owed_over, with_all_due}
use Rattle.cn_core.specs.Stored.{choice_under, held_under, session_under}
use Rattle.cn_core.proofs.OwedLists.{listed_all}
use Rattle.cn_core.proofs.owed.listed.Goals as goal

pub returns : goal.returns
returns c =
    let pool = c.args.pool.now in
    let x = c.args.session.now in
    let best = c.args.best.now in
    let m = owed_over c.args.net.now (held_under pool best) (session_under pool x) in
    let sent =
    keys_of_rows (λ r. r.prefix) (λ r. r.value) c.rows.result.now x.adj_rib_out c.rows.ensures
    ∙ sym (keys-mapped (attributes_under pool) x.adj_rib_out) in
    let held =
    keys_of_rows (λ r. r.prefix) (λ r. r.value) c.rows-2.result.now best c.rows-2.ensures
    ∙ sym (keys-mapped (choice_under pool) best) in
    subst (IsListed m) (sym (c.in_ok-add_all-2.ensures
    ∙ (λ i. with_all_due m
    ((c.in_ok-add_all.ensures ∙ (λ j. with_all_due m (c.new-lists.ensures j) (sent j))) i)
    (held i))))
    (listed_all c.args.net.now x.from x.to (session_under pool x).adj_rib_out
    (held_under pool best))
