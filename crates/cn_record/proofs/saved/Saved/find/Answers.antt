use Rattle.std.proofs.Common.{◌∙◌, Some, ap, rules, sym}
use Rattle.std.proofs.lemmas.List.Sorted.{answers_always}
use Rattle.cn_record.specs.Rows.{row_for}
use Rattle.cn_record.proofs.Pairs.{found_at, found_nowhere, pair_of}
use Rattle.cn_record.proofs.saved.Saved.find.Goals as goal

-- the closure gives a row's device and prefix, and the slice is the rows
pub returns-in-Ok : goal.returns-in-Ok
returns-in-Ok c =
    let rows = c.self.inside.rows.items in
    let d = c.args.device in
    let p = c.args.prefix.now in
    let here =
    rw c.deref.ensures.value at
    (c.in-Ok.ensures.position pair_of
    (answers_always _ _ _ (λ f a r g called. search rules))) in
    let inside = rw c.deref.ensures.value at c.in-Ok.ensures.bound in
    let read = c.index.result.now in
    sym (ap (λ z. row_for z d p) (sym c.self.view_is)
    ∙ found_at rows d p c.self.invariant c.in-Ok.place read inside (here read)
    ∙ ap (λ r. Some r.choice) (sym c.index.ensures))

pub returns-in-Err : goal.returns-in-Err
returns-in-Err c =
    let rows = c.self.inside.rows.items in
    let d = c.args.device in
    let p = c.args.prefix.now in
    let parted = rw c.deref.ensures.value at
    (c.in-Err.ensures.position pair_of
    (answers_always _ _ _ (λ f a r g called. search rules))) in
    let inside = rw c.deref.ensures.value at c.in-Err.ensures.bound in
    sym (ap (λ z. row_for z d p) (sym c.self.view_is)
    ∙ found_nowhere rows d p c.self.invariant c.in-Err.field-0 inside parted)
