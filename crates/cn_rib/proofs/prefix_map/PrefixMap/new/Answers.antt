use Rattle.cn_base.specs.Table.{prefix_cmp}
use Rattle.cn_rib.proofs.Rows.{from_no_rows}
use Rattle.cn_rib.proofs.prefix_map.PrefixMap.new.Goals as goal

pub returns : goal.returns
returns g c = rw c.new.ensures.items (from_no_rows prefix_cmp)
