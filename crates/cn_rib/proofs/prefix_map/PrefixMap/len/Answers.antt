use Rattle.std.proofs.Common.{◌≡◌, ◌∙◌, length, arith}
use Rattle.cn_rib.proofs.Prefixes.{prefix_cmp_total, prefix_cmp-IsAntisymmetric}
use Rattle.cn_rib.proofs.Rows.{rows_len}
use Rattle.cn_rib.proofs.prefix_map.PrefixMap.len.Goals as goal

pub returns : goal.returns
returns g c =
    let counted : c.len.result ≡ length c.self.inside.rows.items = omega arith in
    counted
    ∙ rows_len prefix_cmp_total prefix_cmp-IsAntisymmetric (λ r. r.prefix) (λ r. r.value)
    c.self.inside.rows.items _ c.self.invariant c.self.view_is
