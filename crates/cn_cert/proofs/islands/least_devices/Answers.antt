use Rattle.std.proofs.Common.{◌≡◌, ◌+◌, length, sym, subst, ap, ◌∙◌, arith}
use Rattle.std.specs.BTreeMap.{get}
use Rattle.cn_net.specs.Islands.{label_of}
use Rattle.cn_base.specs.declared.ids.DeviceId.{DeviceId}
use Rattle.cn_cert.specs.Steps.{IsLeastAmong, id_cmp}
use Rattle.cn_cert.proofs.Named.{IsEarly, least_all, least_kept, least_passed, least_put}
use Rattle.cn_cert.proofs.islands.least_devices.Goals as goal
use Rattle.cn_cert.proofs.islands.least_devices.Goals.{in-Some+then-not-contains_key+in_ok-insert, in-Some+else-not-contains_key, in_default}

pub loop-number-preserved : goal.loop-number-preserved
loop-number-preserved c =
    let label = label_of c.args.labels.now in
    let n = c.loop-number.number in
    let f = get id_cmp c.loop-number.least in
    elim c.match-of.branch [
      | in-Some+then-not-contains_key+in_ok-insert w ↦
          least_put label n f c.loop-number.invariant w.in-Some.island (get id_cmp c.match-of.least)
          (sym w.in-Some.ensures) (sym w.contains_key.ensures ∙ w.if-not-contains_key.true)
          (λ i. ap (λ m. get id_cmp m i) w.least-is ∙ w.in_ok-insert.ensures.updates.0 i)
      | in-Some+else-not-contains_key w ↦
          subst (λ m. (i : DeviceId) → IsLeastAmong (IsEarly label (n + 1) i) (get id_cmp m i))
          (sym w.least-is)
          (least_kept label n f c.loop-number.invariant w.in-Some.island (sym w.in-Some.ensures)
          (sym w.contains_key.ensures ∙ w.if-not-contains_key.false))
      | in_default w ↦
          subst (λ m. (i : DeviceId) → IsLeastAmong (IsEarly label (n + 1) i) (get id_cmp m i))
          (sym w.least-is)
          (least_passed label n f c.loop-number.invariant (sym w.in_default.ensures))
    ]

pub returns : goal.returns
returns c =
    let e : c.loop-number.number ≡ length c.args.net.now.devices = omega arith in
    least_all c.args.net.now (label_of c.args.labels.now) c.loop-number.number
    (get id_cmp c.loop-number.least)
    e c.loop-number.invariant
