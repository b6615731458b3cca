use Rattle.std.proofs.Common.{◌∙◌, refl, arith}
use Rattle.std.proofs.lemmas.List.{get_or_default}
use Rattle.cn_rib.proofs.Levels.{lent_whole, levelled_added, levelled_cleared, levelled_emptied, levelled_kept}
use Rattle.cn_rib.proofs.tally.Tally.set.Goals as goal

pub invariant_of-self : goal.invariant_of-self
invariant_of-self c =
    let was = c.self.inside in
    let there = rw (← c.self.view_is) at c.requires in
    let bits = rw c.deref_mut.ensures.value at c.set.ensures.others in
    let items = rw c.deref_mut.ensures.value at c.set.ensures.elsewhere in
    let top_bits =
    rw c.deref_mut-then-count-ne0.ensures.value at c.set-then-count-ne0.ensures.others in
    let words_is = lent_whole was.words.len c.set.new.words was.words.items (omega arith) in
    let tops_is =
    lent_whole was.tops.len c.set-then-count-ne0.new.words was.tops.items (omega arith) in
    rw (words_is, tops_is)
    (levelled_added was.counts.items was.words.items was.tops.items
    c.set.new.words c.set-then-count-ne0.new.words c.args.slot c.args.count
    c.self.invariant there (omega arith) (omega arith) bits items top_bits
    (omega (arith, c.if-count-ne0.true)) c.set.ensures.there c.set-then-count-ne0.ensures.there)

pub invariant_of-self-then-index-eq0 : goal.invariant_of-self-then-index-eq0
invariant_of-self-then-index-eq0 c =
    let was = c.self.inside in
    let words' = c.clear.new.words in
    let tops' = c.clear-then-index-eq0.new.words in
    let there = rw (← c.self.view_is) at c.requires in
    let bits = rw c.deref_mut-then-count-eq0.ensures.value at c.clear.ensures.others in
    let items = rw c.deref_mut-then-count-eq0.ensures.value at c.clear.ensures.elsewhere in
    let top_bits =
    rw c.deref_mut-then-index-eq0.ensures.value at c.clear-then-index-eq0.ensures.others in
    let words_is = lent_whole was.words.len words' was.words.items (omega arith) in
    let tops_is = lent_whole was.tops.len tops' was.tops.items (omega arith) in
    let word_is =
    (rw words_is at c.index.ensures) ∙ get_or_default words' _ _ 0 (omega arith) in
    rw (words_is, tops_is)
    (levelled_emptied was.counts.items was.words.items was.tops.items words' tops' c.args.slot _
    c.self.invariant there (omega arith) (omega arith) bits items top_bits
    c.if-count-eq0.true c.clear.ensures.there (omega (arith, word_is))
    c.clear-then-index-eq0.ensures.there)

pub invariant_of-self-else-index-eq0 : goal.invariant_of-self-else-index-eq0
invariant_of-self-else-index-eq0 c =
    let was = c.self.inside in
    let words' = c.clear.new.words in
    let there = rw (← c.self.view_is) at c.requires in
    let some = get_or_default was.counts.items c.args.slot c.index-was.result.now 0 there in
    let bits = rw c.deref_mut-then-count-eq0.ensures.value at c.clear.ensures.others in
    let items = rw c.deref_mut-then-count-eq0.ensures.value at c.clear.ensures.elsewhere in
    let words_is = lent_whole was.words.len words' was.words.items (omega arith) in
    let word_is =
    (rw words_is at c.index.ensures) ∙ get_or_default words' _ _ 0 (omega arith) in
    rw words_is
    (levelled_cleared was.counts.items was.words.items was.tops.items words' was.tops.items
    c.args.slot _ c.self.invariant there (omega arith) refl bits items (λ k other. refl)
    c.if-count-eq0.true c.clear.ensures.there (omega (arith, word_is))
    (omega (arith, some, c.index-was.ensures)) refl)

pub invariant_of-self-else-count-eq0 : goal.invariant_of-self-else-count-eq0
invariant_of-self-else-count-eq0 c =
    let was = c.self.inside in
    let there = rw (← c.self.view_is) at c.requires in
    let some = get_or_default was.counts.items c.args.slot c.index-was.result.now 0 there in
    levelled_kept was.counts.items was.words.items was.tops.items c.args.slot _
    c.self.invariant there (omega (arith, some, c.index-was.ensures))
