use Rattle.std.proofs.Common.{◌≡◌, ◌<◌, ◌+◌, ◌∷◌, ◌++◌, [], false, ◌∙◌, length, get_or, ap, arith, rules, subst, sym}
use Rattle.std.proofs.lemmas.List.{get_or_default}
use Rattle.std.proofs.lemmas.List.Sorted.{answers_always}
use Rattle.cn_base.specs.declared.ids.DeviceId.{DeviceId}
use Rattle.cn_net.specs.Neighbours.{seen_from_a, seen_from_b}
use Rattle.cn_net.specs.declared.device.Link.{Link}
use Rattle.cn_net.proofs.Seen.{IsSeen, seen_more, seen_none, sorted_seen}
use Rattle.cn_net.proofs.neighbours.neighbours_of.Goals as goal

pub loop-place-init : goal.loop-place-init
loop-place-init c = subst (IsSeen c.args.links.now 0) (sym c.in_ok-seen.ensures.items)
    (seen_none c.args.links.now)

pub loop-place-preserved : goal.loop-place-preserved
loop-place-preserved c =
    let i = c.loop-place.place in
    let links = c.args.links.now in
    let list = c.loop-place.seen.items in
    let none : DeviceId = record { 0 = 0 } in
    let l : Link = get_or links i (record { a = none; b = none; up = false }) in
    let one : c.push.new.self.items ≡ list ++ seen_from_a i l ∷ [] = c.in_ok-push.ensures.items in
    let put : c.push-in-loop-place.new.self.items ≡ c.push.new.self.items ++ seen_from_b i l ∷ [] =
    c.in_ok-push-2.ensures.items in
    let within : i < length links = omega arith in
    let is : l ≡ get_or links i l =
    get_or_default links i (record { a = none; b = none; up = false }) l within in
    subst (IsSeen links (i + 1)) (sym (put ∙ ap (λ ns. ns ++ seen_from_b i l ∷ []) one))
    (seen_more links i l list within is
    (c.requires.apart i (record { a = none; b = none; up = false }) within)
    c.loop-place.invariant)

pub returns : goal.returns
returns c =
    let i = c.loop-place.place in
    let links = c.args.links.now in
    let list = c.loop-place.seen.items in
    let all : IsSeen links (length links) list = subst (λ k. IsSeen links k list)
    (omega arith) c.loop-place.invariant in
    sorted_seen links list c.sort_unstable_by_key.new.self.items c.requires.one_link all
    c.sort_unstable_by_key.ensures.permutation
    (c.sort_unstable_by_key.ensures.sorted (λ n. (n.of, n.device))
    (answers_always _ _ _ (λ f a r g h. search rules)))
