use Rattle.std.proofs.Common.{◌≡◌, ◌∙◌, List, ap, arith, length, refl, subst, sym}
use Rattle.std.specs.Prelude.{All}
use Rattle.std.proofs.lemmas.Bool.{eqb-true}
use Rattle.std.proofs.lemmas.List.Elements.{All-nil}
use Rattle.cn_base.specs.declared.ids.DeviceId.{DeviceId}
use Rattle.cn_lists.proofs.Finding.{Contains-map}
use Rattle.cn_net.proofs.Apart.{distinct_ids}
use Rattle.cn_net.specs.Islands.{label_of}
use Rattle.cn_record.specs.Places.{IsInside, at_device}
use Rattle.cn_record.specs.Rounds.{RestsBut}
use Rattle.cn_record.specs.Tables.{round_of}
use Rattle.cn_record.specs.declared.places.PrefixDevice.{PrefixDevice}
use Rattle.cn_record.proofs.Turns.{IsConverging, converging_first, converging_last, converging_next, converging_still, inside_more}
use Rattle.cn_record.proofs.converge.converge.Goals as goal

pub loop-init : goal.loop-init
loop-init c =
    let net = c.args.net.now in
    let label = label_of c.args.labels.now in
    let i = c.args.island in
    let p = c.args.prefix.now in
    let waiting = c.add_inside.new.devices.items in
    let adds = c.in_ok-add_inside.ensures in
    let inside =
    inside_more net label i _ c.new-waiting.result.items waiting adds
    (subst (All (IsInside net label i)) (sym c.new-waiting.ensures.items)
    (All-nil (IsInside net label i))) in
    record {
      converging =
          subst (λ (h : List DeviceId). IsConverging net label i p c.args.table.now waiting h 0)
          (sym c.new-holders.ensures.items)
          (converging_first net label i p c.args.table.now waiting c.requires.size c.requires.empty
          inside (λ d is t.
          adds.added d (
            Contains-map (λ (x : PrefixDevice). x.device) c.args.originators.now (at_device d p) d
                (c.requires.originators d is t) refl,
            is,
          )));
      unmarked = c.requires.unmarked;
    }

pub returns-then-is_empty-clause-converged : goal.returns-then-is_empty-clause-converged
returns-then-is_empty-clause-converged c =
    let none : c.loop.waiting.len ≡ 0 =
    eqb-true c.loop.waiting.len 0 (sym c.is_empty.ensures ∙ c.if-is_empty.true) in
    let nobody : length c.loop.waiting.items ≡ 0 = omega arith in
    converging_still c.args.net.now (label_of c.args.labels.now) c.args.island c.args.prefix.now
    c.loop.table c.loop.waiting.items c.loop.holders.items c.loop.counter nobody
    c.loop.invariant.converging

pub round-requires-clause-rests : goal.round-requires-clause-rests
round-requires-clause-rests c =
    subst
    (RestsBut c.args.net.now (label_of c.args.labels.now) c.args.island c.args.prefix.now
    c.loop.table)
    (sym c.deref.ensures.value) c.loop.invariant.converging.rests

pub loop-preserved : goal.loop-preserved
loop-preserved c =
    let net = c.args.net.now in
    let p = c.args.prefix.now in
    let told = c.in_ok-waiting.ensures in
    record {
      converging =
          converging_next net (label_of c.args.labels.now) c.args.island p c.loop.table
          c.round.new.table c.loop.waiting.items c.in_ok-waiting.waiting.items
          c.loop.holders.items c.round.new.holders.items c.loop.counter
          (distinct_ids net c.valid.ensures)
          (told.after ∙ ap (round_of net p c.loop.table) c.deref.ensures.value) told.inside
          told.rests told.holders told.held_inside c.loop.invariant.converging;
      unmarked = told.unmarked;
    }

pub returns-clause-converged : goal.returns-clause-converged
returns-clause-converged c =
    let net = c.args.net.now in
    converging_last net (label_of c.args.labels.now) c.args.island c.args.prefix.now c.loop.table
    c.loop.waiting.items c.loop.holders.items c.loop.counter (distinct_ids net c.valid.ensures)
    (omega arith) c.loop.invariant.converging
