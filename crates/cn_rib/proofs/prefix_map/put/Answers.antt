use Rattle.cn_rib.proofs.Prefixes.{prefix_cmp_total, prefix_cmp-IsAntisymmetric}
use Rattle.cn_rib.proofs.Rows.{gap_found, put_at, put_in_gap}
use Rattle.cn_rib.proofs.prefix_map.put.Goals as goal

pub returns-in-Ok-clause-ok : goal.returns-in-Ok-clause-ok
returns-in-Ok-clause-ok g c =
    let here = rw c.deref.ensures.value at c.in-Ok.ensures.position in
    let inside = rw c.deref.ensures.value at c.in-Ok.ensures.bound in
    let row = c.index_mut.result.now in
    put_at prefix_cmp_total prefix_cmp-IsAntisymmetric (λ r. r.prefix) (λ r. r.value)
    c.args.rows.now.items _ c.in-Ok.at row c.requires inside (here row)

pub returns-in_ok-insert-in-Err-clause-ok : goal.returns-in_ok-insert-in-Err-clause-ok
returns-in_ok-insert-in-Err-clause-ok g c =
    let parted = rw c.deref.ensures.value at c.in-Err.ensures.position in
    let inside = rw c.deref.ensures.value at c.in-Err.ensures.bound in
    rw c.in_ok-insert-in-Err.ensures.items
    (put_in_gap prefix_cmp_total prefix_cmp-IsAntisymmetric (λ r. r.prefix) (λ r. r.value)
    c.args.rows.now.items (record { prefix = c.args.prefix; value = c.args.value }) c.in-Err.at
    inside (gap_found prefix_cmp_total prefix_cmp-IsAntisymmetric (λ r. r.prefix) (λ r. r.value)
    c.args.rows.now.items c.args.prefix c.in-Err.at c.requires parted))
