use Rattle.std.proofs.Common.{arith}
use Rattle.cn_rib.proofs.Levels.{all_none, first_of_bits, first_slot_is, first_slot_none, first_within, none_below}
use Rattle.cn_rib.proofs.tally.Tally.first.Goals as goal

pub lowest-slot-requires-clause-few : goal.lowest-slot-requires-clause-few
lowest-slot-requires-clause-few c =
    let is = c.self.invariant in
    let top = first_of_bits _ c.self.inside.tops.items _ c.deref-bits-items.ensures.value
    c.if-bits-ne0.true c.loop-top.invariant in
    let down = rw c.deref.ensures.value at c.lowest-word.ensures in
    omega (arith, first_within _ _ (down c.self.inside.words.items is.tops_above top))

pub overflow_cast-result : goal.overflow_cast-result
overflow_cast-result c =
    let is = c.self.invariant in
    let top = first_of_bits _ c.self.inside.tops.items _ c.deref-bits-items.ensures.value
    c.if-bits-ne0.true c.loop-top.invariant in
    let down = rw c.deref.ensures.value at c.lowest-word.ensures in
    let further = rw c.deref-then-bits-ne0.ensures.value at c.lowest-slot.ensures in
    let word = down c.self.inside.words.items is.tops_above top in
    omega (arith, first_within _ _ (further c.self.inside.counts.items is.words_above word))

pub returns-then-bits-ne0 : goal.returns-then-bits-ne0
returns-then-bits-ne0 c =
    let is = c.self.invariant in
    let top = first_of_bits _ c.self.inside.tops.items _ c.deref-bits-items.ensures.value
    c.if-bits-ne0.true c.loop-top.invariant in
    let down = rw c.deref.ensures.value at c.lowest-word.ensures in
    let further = rw c.deref-then-bits-ne0.ensures.value at c.lowest-slot.ensures in
    let word = down c.self.inside.words.items is.tops_above top in
    rw (← c.self.view_is)
    (first_slot_is _ _ (further c.self.inside.counts.items is.words_above word))

pub returns : goal.returns
returns c =
    let is = c.self.invariant in
    let empty = rw c.deref-bits-items.ensures.value at c.loop-top-test.false in
    let tops_are = all_none c.self.inside.tops.items c.loop-top.top c.loop-top.invariant empty in
    let words_are = none_below _ _ is.tops_above tops_are in
    rw (← c.self.view_is) (first_slot_none _ (none_below _ _ is.words_above words_are))
