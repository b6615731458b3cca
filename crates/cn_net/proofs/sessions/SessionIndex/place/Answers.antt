use Rattle.std.proofs.Common.{◌≡◌, ◌<◌, Less, Greater, length, get_or, slice_range, sym, subst, ap, ◌∙◌, rules}
use Rattle.std.specs.List.Sorted.{IsNonDecreasingBy, IsPartitionPoint}
use Rattle.std.specs.Ordering.{nat_cmp, ordering_index}
use Rattle.std.proofs.lemmas.List.Sorted.{answers_always}
use Rattle.cn_net.specs.Sessions.{Ascend}
use Rattle.cn_net.specs.declared.sessions.SessionEnds.{SessionEnds}
use Rattle.cn_net.proofs.Lookups.{AreFrom, no_place, place_holds, receivers_searchable}
use Rattle.cn_net.proofs.sessions.SessionIndex.place.Goals as goal

pub returns-in-Ok : goal.returns-in-Ok
returns-in-Ok c =
    let ends = c.args.self.now in
    let s = c.from-start.result.start in
    let e = c.from-start.result.end in
    let up = subst Ascend c.self.view_is c.self.invariant.ascending in
    let f = c.from-start.ensures in
    let so : AreFrom ends c.args.from s e =
    record { ordered = f.ordered; within = f.within; these = f.these } in
    let here : c.deref.result.now ≡ ends = c.deref.ensures.value ∙ c.self.view_is in
    let i = c.in-Ok.place in
    let tie = c.in-Ok.ensures.position (λ m. m.to)
    (answers_always _ _ _ (λ f a r g h. search rules)) in
    place_holds ends c.args.from c.args.to s e up so i
    (subst (λ es. i < length (slice_range es s e)) here c.in-Ok.ensures.bound)
    (λ x. ap (λ es. nat_cmp (get_or (slice_range es s e) i x).to.0 c.args.to.0) (sym here) ∙ tie x)

pub returns-in-Err : goal.returns-in-Err
returns-in-Err c =
    let ends = c.args.self.now in
    let s = c.from-start.result.start in
    let e = c.from-start.result.end in
    let up = subst Ascend c.self.view_is c.self.invariant.ascending in
    let f = c.from-start.ensures in
    let so : AreFrom ends c.args.from s e =
    record { ordered = f.ordered; within = f.within; these = f.these } in
    let here : c.deref.result.now ≡ ends = c.deref.ensures.value ∙ c.self.view_is in
    let i = c.in-Err.field-0 in
    let to = c.args.to in
    let parted =
    c.in-Err.ensures.position (λ m. m.to) (answers_always _ _ _ (λ f a r g h. search rules)) in
    let rises =
    subst (λ es. IsNonDecreasingBy (λ y. ordering_index (nat_cmp y.to.0 to.0)) (slice_range es s e))
    (sym here) (receivers_searchable ends c.args.from to s e up so) in
    no_place ends c.args.from to s e up so i
    (subst (λ es. IsPartitionPoint (λ (y : SessionEnds). nat_cmp y.to.0 to.0 ≡ Less)
    (λ y. nat_cmp y.to.0 to.0 ≡ Greater) (slice_range es s e) i) here (parted rises))
