use Rattle.std.proofs.Common.{◌∙◌, Some, ap, sym}
use Rattle.std.specs.Ordering.{is_eq}
use Rattle.cn_lists.proofs.Finding.{find-no_position, find-position}
use Rattle.cn_lists.proofs.segment.item_at.Goals as goal

pub returns-in-Some : goal.returns-in-Some
returns-in-Some g c = λ of gives up.
    let xs = c.args.items.now in
    let item = c.index-items-place.result in
    let at = sym (c.in-Some.ensures.place of gives up) in
    ap Some c.index-items-place.is
    ∙ sym
    (find-position (λ x. is_eq (g.K.Ord.cmp (of x) c.args.key.now)) xs c.in-Some.place item at)

pub returns-in-None : goal.returns-in-None
returns-in-None g c = λ of gives up.
    sym (find-no_position (λ x. is_eq (g.K.Ord.cmp (of x) c.args.key.now)) c.args.items.now
    (sym (c.in-None.ensures.place of gives up)))
