use Rattle.cn_rib.proofs.Prefixes.{prefix_cmp_total, prefix_cmp-IsAntisymmetric}
use Rattle.cn_rib.proofs.Rows.{rows_entries}
use Rattle.cn_rib.proofs.prefix_map.PrefixMap.rows.Goals as goal

pub returns : goal.returns
returns g c =
    rw c.deref.ensures.value
    (rows_entries prefix_cmp_total prefix_cmp-IsAntisymmetric (λ r. r.prefix) (λ r. r.value)
    c.self.inside.rows.items _ c.self.invariant c.self.view_is)
