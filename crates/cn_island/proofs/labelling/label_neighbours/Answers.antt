use Rattle.std.proofs.Common.{◌+◌, ◌∙◌, not, sym, ap, subst, arith}
use Rattle.cn_net.specs.Islands.{outside_of}
use Rattle.cn_island.specs.Found.{IsFound, IsSpread}
use Rattle.cn_island.proofs.Spreading.{IsSeen, neighbour_device, seen_passed, seen_taken}
use Rattle.cn_island.proofs.labelling.label_neighbours.Goals as goal
use Rattle.cn_island.proofs.labelling.label_neighbours.Goals.{then-not-holds+in_ok-label, else-not-holds}

pub label-requires-clause-device : goal.label-requires-clause-device
label-requires-clause-device c =
    omega (
      arith,
      neighbour_device c.args.net.now c.args.d c.neighbours-n-items.result.now
          c.loop-n.n-index (record { of = record { 0 = 0 }; device = record { 0 = 0 }; link = 0 })
          c.valid.ensures c.loop-n-test.true c.neighbours-n-items.ensures.linked,
      c.requires.size,
      c.loop-n.auto.labels,
    )

pub loop-n-preserved : goal.loop-n-preserved
loop-n-preserved c =
    let o = outside_of c.args.emulated.now in
    let ns = c.neighbours-n-items.result.now in
    elim c.if-not-holds.branch [
      | then-not-holds+in_ok-label w ↦ (
        subst (λ z. IsFound z c.if-not-holds.found.items) (sym w.labels-is)
            (subst (λ z. IsFound w.label.new.labels z.items)
            (sym w.found-is) w.in_ok-label.ensures.found),
        subst (λ z. IsSpread (IsSeen o ns (c.loop-n.n-index + 1)) c.args.island c.args.labels.now
            z c.args.found.now.items c.if-not-holds.found.items) (sym w.labels-is)
            (subst (λ z. IsSpread (IsSeen o ns (c.loop-n.n-index + 1))
            c.args.island c.args.labels.now w.label.new.labels c.args.found.now.items z.items)
            (sym w.found-is)
            (seen_taken o ns c.loop-n.n-index
            (record { of = record { 0 = 0 }; device = record { 0 = 0 }; link = 0 })
            c.args.island c.args.labels.now c.loop-n.labels w.label.new.labels
            c.args.found.now.items c.loop-n.found.items w.label.new.found.items
            c.loop-n-test.true (ap not (sym c.holds.ensures ∙ w.if-not-holds.true))
            w.in_ok-label.ensures.spread c.loop-n.invariant.1)),
      )
      | else-not-holds w ↦ (
        subst (λ z. IsFound z c.if-not-holds.found.items) (sym w.labels-is)
            (subst (λ z. IsFound c.loop-n.labels z.items) (sym w.found-is) c.loop-n.invariant.0),
        subst (λ z. IsSpread (IsSeen o ns (c.loop-n.n-index + 1)) c.args.island c.args.labels.now
            z c.args.found.now.items c.if-not-holds.found.items) (sym w.labels-is)
            (subst (λ z. IsSpread (IsSeen o ns (c.loop-n.n-index + 1))
            c.args.island c.args.labels.now c.loop-n.labels c.args.found.now.items z.items)
            (sym w.found-is)
            (seen_passed o ns c.loop-n.n-index
            (record { of = record { 0 = 0 }; device = record { 0 = 0 }; link = 0 })
            c.args.island c.args.labels.now c.loop-n.labels c.args.found.now.items
            c.loop-n.found.items c.loop-n-test.true
            (ap not (sym c.holds.ensures ∙ w.if-not-holds.false)) c.loop-n.invariant.1)),
      )
    ]
