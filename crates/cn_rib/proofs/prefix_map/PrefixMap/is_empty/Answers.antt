use Rattle.std.proofs.Common.{◌≡◌, ◌∙◌, ap, length, arith}
use Rattle.std.specs.Prelude.{◌==◌}
use Rattle.std.specs.Vec.{vec_len}
use Rattle.cn_rib.proofs.Prefixes.{prefix_cmp_total, prefix_cmp-IsAntisymmetric}
use Rattle.cn_rib.proofs.Rows.{rows_len}
use Rattle.cn_rib.proofs.prefix_map.PrefixMap.is_empty.Goals as goal

pub returns : goal.returns
returns g c =
    let counted : vec_len c.self.inside.rows ≡ length c.self.inside.rows.items = omega arith in
    c.is_empty.ensures
    ∙ ap (λ n. n == 0)
    (counted
    ∙ rows_len prefix_cmp_total prefix_cmp-IsAntisymmetric (λ r. r.prefix) (λ r. r.value)
    c.self.inside.rows.items _ c.self.invariant c.self.view_is)
