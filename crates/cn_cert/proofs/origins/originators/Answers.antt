use Rattle.std.proofs.Common.{◌≡◌, arith, length}
use Rattle.cn_net.specs.Certificate.{Originates}
use Rattle.cn_base.specs.Table.{prefix_cmp}
use Rattle.cn_cert.proofs.Finding.{sorted_members}
use Rattle.cn_cert.proofs.Prefixes.{devices_more, devices_all}
use Rattle.cn_cert.proofs.origins.originators.Goals as goal

pub loop-number-preserved : goal.loop-number-preserved
loop-number-preserved c =
    devices_more c.args.net.now c.loop-number.number c.loop-number.members.items
    c.add_device.new.members.items c.loop-number.invariant c.in_ok-add_device.ensures

pub returns : goal.returns
returns c =
    let e : c.loop-number.number ≡ length c.args.net.now.devices = omega arith in
    let found = c.loop-number.members.items in
    sorted_members {R = prefix_cmp} (λ p d. Originates c.args.net.now d p) found
    c.sort_unstable.new.self.items
    (devices_all c.args.net.now c.loop-number.number found e c.loop-number.invariant)
    c.sort_unstable.ensures.permutation c.sort_unstable.ensures.sorted
