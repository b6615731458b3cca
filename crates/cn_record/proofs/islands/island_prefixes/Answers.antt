use Rattle.std.proofs.Common.{arith}
use Rattle.std.proofs.lemmas.List.Filters.{dedup_is}
use Rattle.cn_net.specs.Islands.{label_of}
use Rattle.cn_record.proofs.Gathering.{prefixes_more, prefixes_sorted}
use Rattle.cn_record.proofs.islands.island_prefixes.Goals as goal

pub loop-number-preserved : goal.loop-number-preserved
loop-number-preserved c =
    prefixes_more c.args.net.now
    (label_of c.args.labels.now) c.loop-number.number _ _ c.loop-number.invariant
    c.in_ok-add_device.ensures

pub returns : goal.returns
returns c = rw (dedup_is _ _ _ c.dedup.ensures.filtered)
    (prefixes_sorted c.args.net.now (label_of c.args.labels.now) c.loop-number.number _ _ c.requires
    (omega arith) c.sort_unstable.ensures.permutation c.sort_unstable.ensures.sorted
    c.loop-number.invariant)
