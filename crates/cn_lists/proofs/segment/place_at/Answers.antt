use Rattle.std.proofs.Common.{◌∙◌, refl, sym}
use Rattle.std.specs.Ordering.{is_eq}
use Rattle.std.proofs.lemmas.Fn.{always_returns_same}
use Rattle.cn_lists.proofs.Halving.{position-answered}
use Rattle.cn_lists.proofs.segment.place_at.Goals as goal

-- the calls give the keys, and leave what is called as it is; so the search says where the key is
pub returns-clause-place : goal.returns-clause-place
returns-clause-place g c = λ of gives up.
    let xs = c.args.items.now in
    let k = c.args.key.now in
    let key_of = c.args.key_of in
    let laws = g.met.F in
    let found = c.binary_search_by_key.ensures in
    let at =
    found.position of
    (always_returns_same _ _ _ (λ a r f called. (
      gives a.0 r ((laws.FnMut.1.post_iff key_of a r).1 (f, called)),
      laws.Fn.1.step_stays key_of a r f called,
    ))) in
    c.ok.ensures.value
    ∙ sym (position-answered g.met.K.Ord.total of xs k (λ x. is_eq (g.K.Ord.cmp (of x) k))
    (λ x. refl) up c.binary_search_by_key.result found.bound at)
