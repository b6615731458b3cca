use Rattle.std.proofs.Common.{◌∙◌, Some, ap}
use Rattle.cn_rib.proofs.Prefixes.{prefix_cmp_total, prefix_cmp-IsAntisymmetric}
use Rattle.cn_rib.proofs.Rows.{gap_found, get_at, get_in_gap}
use Rattle.cn_rib.proofs.prefix_map.PrefixMap.get.Goals as goal

pub returns-in-Ok : goal.returns-in-Ok
returns-in-Ok g c =
    let here = rw c.deref.ensures.value at c.in-Ok.ensures.position in
    let inside = rw c.deref.ensures.value at c.in-Ok.ensures.bound in
    let row = c.index.result.now in
    ap (λ r. Some r.value) c.index.ensures
    ∙ get_at prefix_cmp_total prefix_cmp-IsAntisymmetric (λ r. r.prefix) (λ r. r.value)
    c.self.inside.rows.items _ c.self.invariant c.self.view_is c.args.prefix.now c.in-Ok.at row
    inside (here row)

pub returns-in-Err : goal.returns-in-Err
returns-in-Err g c =
    let parted = rw c.deref.ensures.value at c.in-Err.ensures.position in
    get_in_gap prefix_cmp_total prefix_cmp-IsAntisymmetric (λ r. r.prefix) (λ r. r.value)
    c.self.inside.rows.items _ c.self.invariant c.self.view_is c.args.prefix.now c.in-Err.field-0
    (gap_found prefix_cmp_total prefix_cmp-IsAntisymmetric (λ r. r.prefix) (λ r. r.value)
    c.self.inside.rows.items c.args.prefix.now c.in-Err.field-0 c.self.invariant parted)
