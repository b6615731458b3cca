use Rattle.std.proofs.Common.{◌∙◌, sym, subst, Result}
use Rattle.std.proofs.lemmas.Result.{err_from_is_err_and}
use Rattle.cn_text.specs.declared.answer.TextAnswer.{TextAnswer}
use Rattle.cn_table.specs.Reading.{Fails}
use Rattle.cn_table.proofs.ItemLoop.{goes_on, ends, is_done, same_item}
use Rattle.cn_table.proofs.items.each.Goals as goal

pub returns-in_err-item : goal.returns-in_err-item
returns-in_err-item g c =
    let p =
    err_from_is_err_and c.from_residual-in_err-item.result c.from_residual-in_err-item.ensures.1 in
    let e =
    same_item (g.R.Reader.reads c.args.reader.now) c.args.path.now c.deref.result.now
    c.args.values.now c.loop-place.place _ _ (c.deref.ensures.value ∙ c.in_ok-here.ensures)
    c.index-values-place.is in
    let h =
    subst (λ (r : Result _ TextAnswer). Fails c.in_err-item.field-0.0 r) e c.in_err-item.ensures in
    rw (p.1, p.2)
    (ends (g.R.Reader.reads c.args.reader.now) c.args.path.now c.loop-place.items.items
    c.args.values.now c.loop-place.place _ c.in_err-item.field-0.0 _ c.loop-place-test.true h
    c.loop-place.invariant)

pub loop-place-preserved : goal.loop-place-preserved
loop-place-preserved g c =
    let e =
    same_item (g.R.Reader.reads c.args.reader.now) c.args.path.now c.deref.result.now
    c.args.values.now c.loop-place.place _ _ (c.deref.ensures.value ∙ c.in_ok-here.ensures)
    c.index-values-place.is in
    rw c.in_ok-push.ensures.items
    (goes_on (g.R.Reader.reads c.args.reader.now) c.args.path.now c.loop-place.items.items
    c.args.values.now c.loop-place.place _ c.in_ok-item.item _ c.loop-place-test.true
    (sym e ∙ c.in_ok-item.ensures) c.loop-place.invariant)

pub returns : goal.returns
returns g c =
    rw c.make.ensures
    (is_done (g.R.Reader.reads c.args.reader.now) c.args.path.now c.loop-place.items.items
    c.args.values.now c.loop-place.place _ c.loop-place-test.false c.loop-place.invariant)
