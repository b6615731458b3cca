use Rattle.std.proofs.Common.{◌≡◌, ◌+◌, ◌++◌, ◌<◌, ◌∷◌, ◌∙◌, [], List, Option, Vec, Global, ap, arith, get_or, length, set, subst, sym}
use Rattle.std.proofs.lemmas.List.{get_or-set_same}
use Rattle.cn_base.specs.declared.ids.DeviceId.{DeviceId}
use Rattle.cn_base.specs.declared.route.Choice.{Choice}
use Rattle.cn_net.specs.Islands.{label_of}
use Rattle.cn_record.specs.Rounds.{AreAll, AreMarked, Wakes}
use Rattle.cn_record.proofs.Inside.{unmarked_all}
use Rattle.cn_record.proofs.Turns.{HaveDecided, decided_as_before, decided_otherwise}
use Rattle.cn_record.proofs.converge.round.Goals as goal
use Rattle.cn_record.proofs.converge.round.Goals.{in-Some+in_ok-push+in_ok-wake+in-Some-1, in-Some+in_ok-push+in_ok-wake+in-None-1, in_default}

pub loop-device-preserved : goal.loop-device-preserved
loop-device-preserved c =
    let net = c.args.net.now in
    let label = label_of c.args.labels.now in
    let i = c.args.island in
    let p = c.args.prefix.now in
    let first = c.args.table.now in
    let now = c.loop-device.table in
    let waiting = c.args.waiting.now in
    let k = c.loop-device.device-index in
    let e : DeviceId = record { 0 = 0 } in
    let d = get_or waiting k e in
    let within = c.loop-device-test.true in
    let is = c.requires.inside k e within in
    let inside : d.0 < length now =
    omega (arith, is.0, c.requires.size, c.loop-device.auto.table) in
    let choice = c.put.new.entry in
    let decides = c.put.ensures.after ∙ c.in_ok-choice.ensures in
    let x = c.index-table-device.result in
    let next = c.loop-device.next.items in
    let holders = c.loop-device.holders.items in
    let so = c.loop-device.invariant.decided in
    let changed =
    λ (before after : Option Choice) (more held : List DeviceId) (b : before ≡ x)
    (a : after ≡ choice) (wakes : Wakes net label i d before after next more)
    (h : held ≡ holders ++ d ∷ []).
    decided_otherwise net label i p first now waiting k e within choice x decides inside
    c.index-table-device.is next holders so more held is
    (subst (λ o. Wakes net label i d x o next more) a
    (subst (λ o. Wakes net label i d o after next more) b wakes)) h in
    elim c.match-put.branch [
      | in-Some+in_ok-push+in_ok-wake+in-Some-1 w ↦
          let before = w.in-Some.change.before in
          let read = w.index-table-device-in-Some.result in
          let after = get_or (set now d.0 choice) d.0 read in
          record {
            decided =
                changed before after c.match-put.next.items c.match-put.holders.items
                (w.in-Some.ensures.change.0 ∙ sym c.index-table-device.is)
                (get_or-set_same now d.0 choice read inside)
                (subst
                (λ (v : Vec DeviceId Global). Wakes net label i d before after next v.items)
                (sym w.next-is) w.in_ok-wake.ensures.woken)
                (ap (λ (v : Vec DeviceId Global). v.items) w.holders-is
                ∙ w.in_ok-push.ensures.items);
            marked =
                subst (λ (v : Vec DeviceId Global). AreMarked c.match-put.marks v.items)
                (sym w.next-is)
                (subst (λ ms. AreMarked ms w.wake.new.waiting.items) (sym w.marks-is)
                w.in_ok-wake.ensures.marked);
          }
      | in-Some+in_ok-push+in_ok-wake+in-None-1 w ↦
          let before = w.in-Some.change.before in
          let read = w.index-table-device-in-Some.result in
          let after = get_or (set now d.0 choice) d.0 read in
          record {
            decided =
                changed before after c.match-put.next.items c.match-put.holders.items
                (w.in-Some.ensures.change.0 ∙ sym c.index-table-device.is)
                (get_or-set_same now d.0 choice read inside)
                (subst
                (λ (v : Vec DeviceId Global). Wakes net label i d before after next v.items)
                (sym w.next-is) w.in_ok-wake.ensures.woken)
                (ap (λ (v : Vec DeviceId Global). v.items) w.holders-is
                ∙ w.in_ok-push.ensures.items);
            marked =
                subst (λ (v : Vec DeviceId Global). AreMarked c.match-put.marks v.items)
                (sym w.next-is)
                (subst (λ ms. AreMarked ms w.wake.new.waiting.items) (sym w.marks-is)
                w.in_ok-wake.ensures.marked);
          }
      | in_default w ↦
          let same : x ≡ choice =
          c.index-table-device.is ∙ w.in_default.ensures.change ∙ sym w.in_default.ensures.after in
          let decided =
          decided_as_before net label i p first now waiting k e within choice x decides inside
          c.index-table-device.is next holders so same in
          record {
            decided =
                subst
                (λ (v : Vec DeviceId Global).
                HaveDecided net label i p first (set now d.0 choice) waiting (k + 1) v.items
                c.match-put.holders.items)
                (sym w.next-is)
                (subst
                (λ (v : Vec DeviceId Global).
                HaveDecided net label i p first (set now d.0 choice) waiting (k + 1) next v.items)
                (sym w.holders-is) decided);
            marked =
                subst (λ (v : Vec DeviceId Global). AreMarked c.match-put.marks v.items)
                (sym w.next-is)
                (subst (λ ms. AreMarked ms next) (sym w.marks-is) c.loop-device.invariant.marked);
          }
    ]

pub returns-clause-unmarked : goal.returns-clause-unmarked
returns-clause-unmarked c =
    let next = c.loop-device.next.items in
    subst (AreAll _) (sym c.unmark.ensures)
    (rw c.deref.ensures.value
    (unmarked_all c.loop-device.marks next c.loop-device.invariant.marked))
