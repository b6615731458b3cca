use Rattle.std.proofs.Common.{◌+◌, ◌≤◌, ◌∙◌, ap, arith, drop, length, map, refl, sym}
use Rattle.std.specs.FinMap.{from_sorted}
use Rattle.std.proofs.lemmas.List.{drop_all}
use Rattle.cn_rib.specs.PrefixSet as set
use Rattle.cn_rib.proofs.Keyed.{insert_all-drop, keys_of_rows}
use Rattle.cn_rib.proofs.Prefixes.{prefix_cmp_total, prefix_cmp-IsAntisymmetric}
use Rattle.cn_rib.proofs.Rows.{insert_is, sorted_insert}
use Rattle.cn_rib.proofs.prefix_map.PrefixMap+unit.insert_all.Goals as goal

pub loop-row-preserved : goal.loop-row-preserved
loop-row-preserved g c =
    let rows = c.loop-row.self-inside.rows.items in
    let more = c.rows-more.result.now in
    let kept = c.loop-row.invariant in
    let row = c.row-item.result in
    record {
      sorted =
          sorted_insert prefix_cmp_total prefix_cmp-IsAntisymmetric (λ r. r.prefix) (λ r. r.value)
          rows _ kept.sorted refl _ row.prefix tt c.in_ok-put.ensures.ok;
      made =
          ap (λ m. set.insert_all m (map (λ r. r.prefix) (drop (c.loop-row.row-index + 1) more)))
          (insert_is prefix_cmp_total prefix_cmp-IsAntisymmetric (λ r. r.prefix) (λ r. r.value) rows
          _ kept.sorted refl _ row.prefix tt c.in_ok-put.ensures.ok)
          ∙ insert_all-drop (λ r. r.prefix) _ more c.loop-row.row-index row c.loop-row-test.true
          c.row-item.is
          ∙ kept.made;
      room = omega (arith, c.in_ok-put.ensures.length, c.in_ok-put.ensures.capacity);
    }

pub returns-clause-ok : goal.returns-clause-ok
returns-clause-ok g c =
    let more = c.rows-more.result.now in
    let past : length more ≤ c.loop-row.row-index = omega arith in
    sym (ap (λ xs. set.insert_all
    (from_sorted (map (λ r. (r.prefix, r.value)) c.loop-row.self-inside.rows.items))
    (map (λ r. r.prefix) xs)) (drop_all c.loop-row.row-index more past))
    ∙ c.loop-row.invariant.made
    ∙ ap (λ rows.
    set.insert_all (from_sorted (map (λ r. (r.prefix, r.value)) rows)) (map (λ r. r.prefix) more))
    c.in_ok-reserve.ensures.items
    ∙ ap (λ m. set.insert_all m (map (λ r. r.prefix) more)) c.self.view_is
    ∙ ap (set.insert_all c.args.self.now)
    (keys_of_rows (λ r. r.prefix) (λ r. r.value) more c.args.other.now c.rows-more.ensures)
