use Rattle.std.proofs.Common.{◌<◌, ◌∙◌, arith, ap, get_or, length}
use Rattle.cn_net.specs.Changed.{with_body}
use Rattle.cn_net.specs.declared.device.Device.{Device}
use Rattle.cn_net.proofs.Counting.{counted}
use Rattle.cn_change.proofs.Counted.{AreOfFirst-more, length-with_body, prefixes_of}
use Rattle.cn_change.proofs.counting.prefix_count_with.Goals as goal

pub loop-place-preserved : goal.loop-place-preserved
loop-place-preserved c =
    let net = c.args.net.now in
    let x : Device = c.device-item.result in
    let items = c.devices-device-items.ensures in
    let within : c.loop-place.place < length net.devices =
    omega (arith, ap length items) in
    AreOfFirst-more net c.args.d c.args.body.now c.requires c.loop-place.place x
    c.own_at.result.now c.loop-place.prefixes.keys c.add_own.new.prefixes.keys within
    (c.device-item.is ∙ ap (λ ds. get_or ds c.loop-place.place x) items)
    c.own_at.ensures c.loop-place.invariant c.in_ok-add_own.ensures

pub returns : goal.returns
returns c =
    let net = c.args.net.now in
    let after = with_body net c.args.d c.args.body.now in
    let many = length-with_body net c.args.d c.args.body.now c.requires in
    omega (
      arith,
      c.len.ensures.len,
      counted prefixes_of c.loop-place.prefixes.keys after.devices c.loop-place.place
          c.len.ensures.unique
          (omega (arith, many, ap length c.devices-device-items.ensures))
          c.loop-place.invariant,
    )
