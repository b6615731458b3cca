use Rattle.std.proofs.Common.{List, map, arith}
use Rattle.std.specs.List.{flat_map}
use Rattle.std.specs.Set.{distinct_count}
use Rattle.cn_base.specs.Cidr.{Cidr, same_prefix}
use Rattle.cn_net.specs.declared.draft.DeviceDraft.{DeviceDraft}
use Rattle.cn_net.specs.declared.fault.What.TheVariants.{Prefixes}
use Rattle.cn_net.proofs.Counting.{counted}
use Rattle.cn_net.proofs.Finding.{few_enough, too_many}
use Rattle.cn_net.proofs.repeat.few_prefixes.Goals as goal

abbrev own_prefixes : DeviceDraft → List Cidr
own_prefixes d = map (λ o. o.prefix) d.body.own

pub returns-then-len-gt-MOST_PREFIXES : goal.returns-then-len-gt-MOST_PREFIXES
returns-then-len-gt-MOST_PREFIXES c =
    let devices = c.args.devices.now in
    let many = counted own_prefixes c.loop-device.prefixes.keys devices c.loop-device.device-index
    c.len.ensures.unique (omega arith) c.loop-device.invariant in
    too_many Prefixes 16384 c.len-then-len-gt-MOST_PREFIXES.result
    (distinct_count same_prefix (flat_map own_prefixes devices)) (omega arith) (omega arith)

pub returns : goal.returns
returns c =
    let devices = c.args.devices.now in
    let many = counted own_prefixes c.loop-device.prefixes.keys devices c.loop-device.device-index
    c.len.ensures.unique (omega arith) c.loop-device.invariant in
    few_enough Prefixes 16384 c.len.result
    (distinct_count same_prefix (flat_map own_prefixes devices)) (omega arith) (omega arith)
