use Rattle.std.proofs.Common.{◌∙◌, arith}
use Rattle.cn_net.proofs.Places.{AreNamesOf-insert}
use Rattle.cn_net.proofs.copies.copied_names.Goals as goal

pub loop-device-preserved : goal.loop-device-preserved
loop-device-preserved c =
    AreNamesOf-insert c.args.devices.now c.requires.distinct c.loop-device.device-index
    c.device-item.result c.loop-device.names.keys c.insert.new.self.keys c.in_ok-from_str.field-0
    (omega arith) c.device-item.is (c.in_ok-from_str.ensures.ok ∙ c.text.ensures)
    c.in_ok-insert.ensures.keys c.loop-device.invariant
