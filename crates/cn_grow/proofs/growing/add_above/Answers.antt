use Rattle.std.proofs.Common.{◌+◌, sym, ap, subst, ◌∙◌, arith}
use Rattle.cn_grow.specs.Members.{IsExtended, IsMarked}
use Rattle.cn_grow.proofs.Growth.{IsSeenAbove, seen_passed, seen_taken}
use Rattle.cn_grow.proofs.growing.add_above.Goals as goal
use Rattle.cn_grow.proofs.growing.add_above.Goals.{then-lower-layer+in_ok-add, else-lower-layer}

pub loop-n-preserved : goal.loop-n-preserved
loop-n-preserved c =
    elim c.if-lower-layer.branch [
      | then-lower-layer+in_ok-add w ↦ (
        subst (λ z. IsMarked z c.if-lower-layer.members.items) (sym w.marks-is)
            (subst (λ z. IsMarked w.add.new.marks z.items)
            (sym w.members-is) w.in_ok-add.ensures.marked),
        seen_taken c.args.net.now c.args.d c.neighbours-n-items.result.now c.loop-n.n-index _
            c.args.members.now.items c.loop-n.members.items c.if-lower-layer.members.items
            c.loop-n-test.true (omega (
              arith,
              w.if-lower-layer.true,
              c.layer.ensures,
              c.layer-lower.ensures,
            )) (ap (λ z. z.items) w.members-is ∙ w.in_ok-add.ensures.added)
            c.loop-n.invariant.1,
      )
      | else-lower-layer w ↦ (
        subst (λ z. IsMarked z c.if-lower-layer.members.items) (sym w.marks-is)
            (subst (λ z. IsMarked c.loop-n.marks z.items) (sym w.members-is) c.loop-n.invariant.0),
        subst (λ z. IsExtended (IsSeenAbove c.args.net.now c.args.d c.neighbours-n-items.result.now
            (c.loop-n.n-index + 1)) c.args.members.now.items z.items) (sym w.members-is)
            (seen_passed c.args.net.now c.args.d c.neighbours-n-items.result.now c.loop-n.n-index
            (record { of = record { 0 = 0 }; device = record { 0 = 0 }; link = 0 })
            c.args.members.now.items c.loop-n.members.items c.loop-n-test.true
            (omega (arith, w.if-lower-layer.false, c.layer.ensures, c.layer-lower.ensures))
            c.loop-n.invariant.1),
      )
    ]
