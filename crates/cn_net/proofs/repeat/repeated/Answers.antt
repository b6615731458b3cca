use Rattle.std.proofs.Common.{◌≡◌, ◌<◌, ◌++◌, ◌∷◌, [], true, false, length, get_or, map, take, arith, ap, ◌∙◌, sym, if◌then◌else◌}
use Rattle.std.specs.List.{list_any}
use Rattle.std.proofs.lemmas.Grind.{common_steps}
use Rattle.std.proofs.lemmas.List.{get_or-map, length-map}
use Rattle.cn_base.specs.Cidr.{same_prefix}
use Rattle.cn_net.specs.Faults.{fault_if}
use Rattle.cn_net.proofs.First.{first_here, first_later, found, found_none}
use Rattle.cn_net.proofs.Steps.{put_more}
use Rattle.cn_net.proofs.repeat.repeated.Goals as goal

pub returns-then-not-branch : goal.returns-then-not-branch
returns-then-not-branch c =
    let own = c.args.own.now in
    let ps = map (λ o. o.prefix) own in
    let i = c.loop-one.one-index in
    let p = c.one-item.result.prefix in
    let inside : i < length own = omega arith in
    let within : i < length ps = rw length-map inside in
    let is : p ≡ get_or ps i p =
    ap (λ o. o.prefix) c.one-item.is
    ∙ sym (get_or-map (λ o. o.prefix) own i c.one-item.result p inside) in
    let stands : list_any (same_prefix p) c.loop-one.before.keys ≡ true =
    grind (arith, common_steps, c.in_ok-insert.ensures.added) in
    sym (first_here (λ before q. fault_if (list_any (same_prefix q) before) q) ps i p p within is
    c.loop-one.invariant.first
    (found (list_any (same_prefix p) (take i ps)) p
    (ap (list_any (same_prefix p)) (sym c.loop-one.invariant.keys) ∙ stands)))

pub loop-one-preserved : goal.loop-one-preserved
loop-one-preserved c =
    let own = c.args.own.now in
    let ps = map (λ o. o.prefix) own in
    let i = c.loop-one.one-index in
    let p = c.one-item.result.prefix in
    let before = c.loop-one.before.keys in
    let inside : i < length own = omega arith in
    let within : i < length ps = rw length-map inside in
    let is : p ≡ get_or ps i p =
    ap (λ o. o.prefix) c.one-item.is
    ∙ sym (get_or-map (λ o. o.prefix) own i c.one-item.result p inside) in
    let fresh : list_any (same_prefix p) before ≡ false =
    grind (arith, common_steps, c.in_ok-insert.ensures.added) in
    let put : c.insert.new.self.keys ≡ before ++ p ∷ [] =
    c.in_ok-insert.ensures.keys ∙ ap (λ t. if t then before else (before ++ p ∷ [])) fresh in
    record {
      keys = put_more ps i p within is before c.insert.new.self.keys c.loop-one.invariant.keys put;
      first =
          first_later (λ earlier q. fault_if (list_any (same_prefix q) earlier) q) ps i p within is
          c.loop-one.invariant.first
          (found_none (list_any (same_prefix p) (take i ps)) p
          (ap (list_any (same_prefix p)) (sym c.loop-one.invariant.keys) ∙ fresh));
    }
