use Rattle.std.proofs.Common.{◌≡◌, ◌+◌, ◌++◌, ◌∷◌, ◌∙◌, [], Some, Vec, Global, ap, arith, map, subst, sym, take}
use Rattle.std.specs.Prelude.{Contains}
use Rattle.std.specs.Option.{option_eq}
use Rattle.std.proofs.lemmas.Bool.{false≢true}
use Rattle.std.proofs.lemmas.List.{map_more, take_all}
use Rattle.cn_base.specs.declared.ids.DeviceId.{DeviceId}
use Rattle.cn_net.specs.Islands.{label_of}
use Rattle.cn_net.specs.Network.{IsDevice, same_device}
use Rattle.cn_record.specs.Places.{AddsDevices, IsInside}
use Rattle.cn_record.specs.declared.places.PrefixDevice.{PrefixDevice}
use Rattle.cn_record.proofs.Inside.{adds_more, adds_passed, adds_pushed, label_inside, labelled}
use Rattle.cn_record.proofs.places.add_inside.Goals as goal
use Rattle.cn_record.proofs.places.add_inside.Goals.{then-place-count+then-eq+in_ok-push, else-place-count, else-place-count-via-then-place-count+else-eq, else-place-count-via-else-place-count}

pub loop-place-preserved : goal.loop-place-preserved
loop-place-preserved c =
    let net = c.args.net.now in
    let label = label_of c.args.labels.now in
    let i = c.args.island in
    let inside = IsInside net label i in
    let device = λ (x : PrefixDevice). x.device in
    let places = c.args.places.now in
    let k = c.loop-place.place-index in
    let y = c.place-item.result in
    let ds = map device (take k places) in
    let all = map device (take (k + 1) places) in
    let more : all ≡ ds ++ y.device ∷ [] =
    map_more device places k y c.loop-place-test.true
    ∙ ap (λ (x : PrefixDevice). ds ++ x.device ∷ []) (sym c.place-item.is) in
    let old = c.args.devices.now.items in
    let new = c.loop-place.devices.items in
    let so = c.loop-place.invariant in
    elim c.if-place-count.branch [
      | then-place-count+then-eq+in_ok-push w ↦
          let is : IsDevice net y.device = omega arith in
          let l =
          sym w.of.ensures ∙ labelled w.of.result i (sym w.eq.ensures ∙ w.if-eq.true) in
          let adds =
          adds_more inside inside ds all y.device old new (new ++ y.device ∷ []) more so (is, l)
          (adds_pushed y.device new) in
          subst (AddsDevices (λ d. Contains all d × inside d) inside old)
          (sym w.in_ok-push.ensures.items
          ∙ ap (λ (v : Vec DeviceId Global). v.items) (sym w.devices-is)) adds
      | else-place-count w ↦
          subst (AddsDevices (λ d. Contains all d × inside d) inside old)
          (ap (λ (v : Vec DeviceId Global). v.items) (sym w.devices-is))
          (adds_passed inside inside ds all y.device old new more so
          (elim w.else-place-count.branch [
            | else-place-count-via-then-place-count+else-eq w' ↦ λ h.
                false≢true
                (sym w'.if-eq.false ∙ w'.eq.ensures
                ∙ ap (λ o. option_eq same_device o (Some i)) w'.of.ensures
                ∙ label_inside label i y.device h.1)
            | else-place-count-via-else-place-count w' ↦ λ h.
                let is = h.0 in omega arith
          ]))
    ]

pub returns : goal.returns
returns c =
    rw (take_all c.loop-place.place-index c.args.places.now (omega arith)) at c.loop-place.invariant
