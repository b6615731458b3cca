use Rattle.std.proofs.Common.{◌∙◌, refl, sym}
use Rattle.std.specs.Ordering.{is_eq}
use Rattle.std.proofs.lemmas.Slice.{between_is}
use Rattle.cn_lists.proofs.Segments.{filter-segment}
use Rattle.cn_lists.proofs.segment.part_at.Goals as goal

-- the range is the segment, and the segment is what a filter keeps
pub returns : goal.returns
returns g c = λ of gives up.
    let xs = c.args.items.now in
    let order = λ (x : _). g.K.Ord.cmp (of x) c.args.key.now in
    let start = c.places_at-start.result.0 in
    let end = c.places_at-start.result.1 in
    let cut = c.places_at-start.ensures.segment of gives up in
    between_is xs start end
    ∙ sym (filter-segment order xs start end cut (λ x. is_eq (order x)) (λ x. refl))
