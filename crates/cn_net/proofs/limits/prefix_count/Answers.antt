use Rattle.std.proofs.Common.{List, map, arith, ap}
use Rattle.std.specs.List.{flat_map}
use Rattle.std.specs.Set.{distinct_count}
use Rattle.cn_base.specs.Cidr.{Cidr, same_prefix}
use Rattle.cn_net.specs.declared.device.Device.{Device}
use Rattle.cn_net.proofs.Counting.{counted}
use Rattle.cn_net.proofs.limits.prefix_count.Goals as goal

pub returns : goal.returns
returns c =
    let own : Device → List Cidr = λ d. map (λ o. o.prefix) d.body.own in
    let devices = c.devices-device-items.result.now in
    omega (
      arith,
      c.len.ensures.len,
      ap (λ ds. distinct_count same_prefix (flat_map own ds)) c.devices-device-items.ensures,
      counted own c.loop-device.prefixes.keys devices c.loop-device.device-index
          c.len.ensures.unique
          c.loop-device-test.false c.loop-device.invariant,
    )
