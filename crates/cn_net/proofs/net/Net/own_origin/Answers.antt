use Rattle.std.proofs.Common.{◌≡◌, ◌∙◌, List, Less, Some, ap, find, length, option_map, refl, subst, sym}
use Rattle.std.specs.List.{AllPairs, slice_get}
use Rattle.std.proofs.lemmas.Bool.{ltb-false, ltb-true}
use Rattle.std.proofs.lemmas.Option.{slice_get_past, slice_get_read}
use Rattle.cn_base.specs.Cidr.{Cidr, same_prefix}
use Rattle.cn_base.specs.Table.{prefix_cmp}
use Rattle.cn_net.specs.Kept.{AreOwn}
use Rattle.cn_net.specs.declared.device.Own.{Own}
use Rattle.cn_net.proofs.ByPrefix.{ascending-listed, own_of-listed, own_of-unlisted}
use Rattle.cn_net.proofs.net.Net.own_origin.Goals as goal
use Rattle.cn_net.proofs.net.Net.own_origin.Goals.{After-items, In-None}

listed : (c : After-items)
    → slice_get c.deref.result.now c.args.d.0 ≡ Some c.in-Some.list.now
listed c =
    let lists : List (List Own) = c.deref.result.now in
    slice_get_read lists (length lists) c.args.d.0 c.in-Some.list.now refl
    (ltb-true c.args.d.0 (length lists) (sym c.in-Some.ensures.lookup.0))
    c.in-Some.ensures.lookup.1

kept : (c : After-items) → AreOwn c.args.self.now.devices c.deref.result.now
kept c =
    subst (λ ls. AreOwn c.args.self.now.devices ls) (sym c.deref.ensures.value)
    (subst (λ n. AreOwn n.devices c.self.inside.own.items) c.self.view_is
    c.self.invariant.originated)

pub origin_in-requires : goal.origin_in-requires
origin_in-requires c = record {
  ascending =
      subst (AllPairs (λ (x y : Own). prefix_cmp x.prefix y.prefix ≡ Less)) (sym c.items.ensures)
      (ascending-listed c.args.self.now.devices c.deref.result.now c.args.d.0 c.in-Some.list.now
      (kept c) (listed c));
}

pub returns-in-Some : goal.returns-in-Some
returns-in-Some c =
    let at = goal.at.returns-in-Some c in
    let p : Cidr = c.args.prefix.now in
    c.origin_in.ensures
    ∙ ap (λ (ls : List Own). option_map (λ (o : Own). o.origin)
    (find (λ (o : Own). same_prefix o.prefix p) ls)) c.items.ensures
    ∙ own_of-listed p c.args.self.now.devices c.deref.result.now c.args.d.0 c.in-Some.list.now
    (kept at.After-items) (listed at.After-items)

pub returns-in-None : goal.returns-in-None
returns-in-None c =
    let lists : List (List Own) = c.deref.result.now in
    let devices = c.args.self.now.devices in
    let kept : AreOwn devices lists =
    subst (λ ls. AreOwn devices ls) (sym c.deref.ensures.value)
    (subst (λ n. AreOwn n.devices c.self.inside.own.items) c.self.view_is
    c.self.invariant.originated) in
    sym (own_of-unlisted c.args.prefix.now devices lists c.args.d.0 kept
    (slice_get_past lists c.args.d.0
    (ltb-false c.args.d.0 (length lists) (sym c.in-None.ensures.lookup.0))))
