use Rattle.cn_rib.proofs.PrefixMaps.{remove_all-rest}
use Rattle.cn_rib.proofs.prefix_map.take_all_out.Goals as goal

pub returns-clause-value : goal.returns-clause-value
returns-clause-value g c =
    let front = c.take_front_out-front in
    remove_all-rest _ _ _ c.args.prefixes.now front.result c.loop-prefix.prefix-index
    front.ensures.value c.loop-prefix.invariant.value c.loop-prefix-test.false
