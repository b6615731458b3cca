use Rattle.std.proofs.Common.{◌∙◌, get_or, subst, sym, take}
use Rattle.std.proofs.lemmas.Bool.{false≢true}
use Rattle.std.proofs.lemmas.List.{take_more}
use Rattle.cn_base.specs.declared.ids.DeviceId.{DeviceId}
use Rattle.cn_record.specs.Steps.{TellsApart}
use Rattle.cn_record.proofs.Covering.{least_agrees, least_now, least_stays}
use Rattle.cn_record.proofs.soundness.least_apart.Goals as goal
use Rattle.cn_record.proofs.soundness.least_apart.Goals.{then-is_below+then-not-agrees, else-is_below, else-is_below-via-then-is_below+else-not-agrees, else-is_below-via-else-is_below}

pub loop-device-preserved : goal.loop-device-preserved
loop-device-preserved c =
    let rows = c.args.saved.now in
    let p = c.args.prefix.now in
    let table = c.args.table.now in
    let devices = c.args.devices.now in
    let k = c.loop-device.device-index in
    let e : DeviceId = record { 0 = 0 } in
    let y = get_or devices k e in
    let ds = take k devices in
    let more = take_more devices k e c.loop-device-test.true in
    let so = c.loop-device.invariant in
    let least = c.loop-device.least in
    subst (λ ds. TellsApart rows p table ds c.if-is_below.least) (sym more)
    (elim c.if-is_below.branch [
      | then-is_below+then-not-agrees w ↦
          subst (TellsApart rows p table _) (sym w.least-is)
          (least_now rows p table ds y least so (sym c.is_below.ensures ∙ w.if-is_below.true)
          (λ h. false≢true (sym w.if-not-agrees.true ∙ w.agrees.ensures.1 h)))
      | else-is_below w ↦
          subst (TellsApart rows p table _) (sym w.least-is)
          (elim w.else-is_below.branch [
            | else-is_below-via-then-is_below+else-not-agrees w' ↦
                least_agrees rows p table ds y least so
                (w'.agrees.ensures.0 w'.if-not-agrees.false)
            | else-is_below-via-else-is_below w' ↦
                least_stays rows p table ds y least so
                (sym c.is_below.ensures ∙ w'.if-is_below.false)
          ])
    ])
