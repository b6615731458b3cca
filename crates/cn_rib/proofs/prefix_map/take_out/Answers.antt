use Rattle.std.proofs.Common.{refl}
use Rattle.cn_rib.proofs.Prefixes.{prefix_cmp_total, prefix_cmp-IsAntisymmetric}
use Rattle.cn_rib.proofs.Rows.{gap_found, remove_is, remove_none, sorted_removed}
use Rattle.cn_rib.proofs.prefix_map.take_out.Goals as goal

pub returns-in-Ok-clause-sorted : goal.returns-in-Ok-clause-sorted
returns-in-Ok-clause-sorted g c =
    rw c.remove.ensures.items
    (sorted_removed prefix_cmp_total prefix_cmp-IsAntisymmetric (λ r. r.prefix) (λ r. r.value)
    c.args.rows.now.items c.in-Ok.at c.requires)

pub returns-in-Ok-clause-value : goal.returns-in-Ok-clause-value
returns-in-Ok-clause-value g c =
    let here = rw c.deref.ensures.value at c.in-Ok.ensures.position in
    let inside = rw c.deref.ensures.value at c.in-Ok.ensures.bound in
    rw c.remove.ensures.items
    (remove_is prefix_cmp_total prefix_cmp-IsAntisymmetric (λ r. r.prefix) (λ r. r.value)
    c.args.rows.now.items _ c.requires refl c.args.prefix.now c.in-Ok.at
    c.remove.result inside (here c.remove.result))

pub returns-in_default-clause-value : goal.returns-in_default-clause-value
returns-in_default-clause-value g c =
    let parted = rw c.deref.ensures.value at c.in_default.ensures.position in
    remove_none prefix_cmp_total prefix_cmp-IsAntisymmetric (λ r. r.prefix) (λ r. r.value)
    c.args.rows.now.items _ c.requires refl c.args.prefix.now
    c.in_default.field-0
    (gap_found prefix_cmp_total prefix_cmp-IsAntisymmetric (λ r. r.prefix) (λ r. r.value)
    c.args.rows.now.items c.args.prefix.now c.in_default.field-0 c.requires parted)
