use Rattle.std.proofs.Common.{◌∙◌, ap, arith, map}
use Rattle.std.specs.FinMap.{from_sorted}
use Rattle.cn_rib.specs.PrefixMaps.{remove_all}
use Rattle.cn_rib.proofs.Prefixes.{prefix_cmp_total, prefix_cmp-IsAntisymmetric}
use Rattle.cn_rib.proofs.Rows.{front_removed, sorted_dropped, turned_and_cut}
use Rattle.cn_rib.proofs.prefix_map.take_front_out.Goals as goal

pub returns-clause-sorted : goal.returns-clause-sorted
returns-clause-sorted g c =
    let old = c.args.rows.now.items in
    let front = c.shared_front-front.result in
    let left =
    turned_and_cut front _ old _ _ c.rotate_left.ensures.items c.truncate.ensures.items
    (omega arith) in
    rw left
    (sorted_dropped prefix_cmp_total prefix_cmp-IsAntisymmetric (λ r. r.prefix) (λ r. r.value)
    front old c.requires)

pub returns-clause-value : goal.returns-clause-value
returns-clause-value g c =
    let old = c.args.rows.now.items in
    let front = c.shared_front-front.result in
    let left =
    turned_and_cut front _ old _ _ c.rotate_left.ensures.items c.truncate.ensures.items
    (omega arith) in
    let same = rw c.deref.ensures.value at c.shared_front-front.ensures.same in
    rw left
    (front_removed prefix_cmp_total prefix_cmp-IsAntisymmetric (λ r. r.prefix) (λ r. r.value)
    front old c.requires
    ∙ ap (remove_all (from_sorted (map (λ r. (r.prefix, r.value)) old))) same)
