use Rattle.std.proofs.Common.{◌≡◌, ◌+◌, length, drop, sym, ap, ◌∙◌, subst, arith}
use Rattle.std.proofs.lemmas.List.{take_at}
use Rattle.cn_grow.proofs.Growth.{IsSearched, searched_grown, searched_more, searched_within}
use Rattle.cn_grow.proofs.growing.grow.Goals as goal

pub loop-next-preserved : goal.loop-next-preserved
loop-next-preserved c =
    let s = c.loop-next.invariant in
    let kept : length c.add_above.new.marks ≡ length c.loop-next.marks.items =
    c.add_above.auto.marks ∙ ap length c.deref_mut-in-loop-next.ensures.value in
    subst (λ z. IsSearched c.args.net.now c.args.must.now c.add_above.new.members.items z
    (c.loop-next.next + 1))
    (sym (take_at c.add_above.new.marks
    (drop (length c.add_above.new.marks) c.loop-next.marks.items) c.loop-next.marks.len
    (omega arith)))
    (searched_more c.args.net.now c.args.must.now c.loop-next.members.items
    c.add_above.new.members.items c.loop-next.marks.items c.add_above.new.marks c.loop-next.next
    c.index-d.result.now s (omega arith) c.index-d.ensures (kept ∙ s.size)
    c.in_ok-add_above.ensures.marked c.in_ok-add_above.ensures.added)

pub make-requires : goal.make-requires
make-requires c = searched_within c.args.net.now c.args.must.now c.loop-next.members.items
    c.loop-next.marks.items c.loop-next.next c.loop-next.invariant

pub returns-clause-grown : goal.returns-clause-grown
returns-clause-grown c = searched_grown c.args.net.now c.args.must.now c.loop-next.members.items
    c.make.result c.loop-next.marks.items c.loop-next.next c.loop-next.invariant (omega arith)
    c.make.ensures.holds
