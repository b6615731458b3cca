use Rattle.std.proofs.Common.{◌≡◌, ◌-◌, ◌++◌, length, map, sym, ap, ◌∙◌, append-nil, arith, subst}
use Rattle.std.specs.Prelude.{All}
use Rattle.std.proofs.lemmas.List.Elements.{All-nil}
use Rattle.cn_net.specs.Opening.{Opening}
use Rattle.cn_pool.proofs.Pools.{extends_itself}
use Rattle.cn_core.specs.declared.session.Rib.{Rib}
use Rattle.cn_core.specs.Start.{first_rib, first_ribs}
use Rattle.cn_core.specs.Stored.{IsHeldUnder, rib_under}
use Rattle.cn_core.proofs.FirstHeld.{ribs-next}
use Rattle.cn_core.proofs.Numbers.{all_ids, ids, ids_end}
use Rattle.cn_core.proofs.start.ribs.Goals as goal

pub loop-device-init : goal.loop-device-init
unfolding first_ribs
loop-device-init c =
    let r = c.args.recorded.now in
    let pool = c.args.pool.now in
    let end : c.count-device-end.result ≡ length r.opening.net.devices =
    c.count-device-end.ensures
    ∙ ap (λ n. length n.devices)
    (c.net.ensures ∙ ap (λ (o : Opening). o.net) c.certified.ensures) in
    let all : c.count-device-end.result - 0 ≡ length r.opening.net.devices = omega (arith, end) in
    record {
      made =
          ap (λ ys. map (rib_under pool) ys
          ++ map (first_rib r) (ids 0 (c.count-device-end.result - 0))) c.new-ribs.ensures.items
          ∙ ap (λ n. map (first_rib r) (ids 0 n)) all
          ∙ ap (map (first_rib r)) (all_ids r.opening.net);
      under =
          subst (All (λ (y : Rib). IsHeldUnder pool y.loc_rib)) (sym c.new-ribs.ensures.items)
          (All-nil (λ (y : Rib). IsHeldUnder pool y.loc_rib));
      kept = extends_itself pool;
    }

pub loop-device-preserved : goal.loop-device-preserved
loop-device-preserved c =
    ribs-next c.args.recorded.now c.args.pool.now c.loop-device.pool c.rib.new.pool
    c.loop-device.ribs.items c.push.new.self.items c.in_ok-rib.field-0 c.loop-device.device
    c.count-device-end.result c.loop-device.invariant c.loop-device-test.true
    c.in_ok-push.ensures.items c.in_ok-rib.ensures.rib c.in_ok-rib.ensures.under
    c.in_ok-rib.ensures.kept

pub returns-clause-ribs : goal.returns-clause-ribs
returns-clause-ribs c =
    let r = c.args.recorded.now in
    let made = map (rib_under c.loop-device.pool) c.loop-device.ribs.items in
    sym (ap (λ ds. made ++ map (first_rib r) ds)
    (ids_end c.loop-device.device c.count-device-end.result c.loop-device-test.false)
    ∙ append-nil made)
    ∙ c.loop-device.invariant.made

pub returns-clause-under : goal.returns-clause-under
returns-clause-under c = c.loop-device.invariant.under

pub returns-clause-kept : goal.returns-clause-kept
returns-clause-kept c = c.loop-device.invariant.kept
