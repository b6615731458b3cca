use Rattle.std.proofs.Common.{◌∙◌, List, Some, ap, arith, map, refl, sym, take}
use Rattle.std.specs.FinMap as fin
use Rattle.std.specs.FinMap.{from_sorted}
use Rattle.std.proofs.lemmas.List.Sums.{fold_more}
use Rattle.cn_base.specs.Cidr.{Cidr}
use Rattle.cn_rib.specs.PrefixMaps.{put_each}
use Rattle.cn_rib.proofs.Prefixes.{prefix_cmp_total, prefix_cmp-IsAntisymmetric}
use Rattle.cn_rib.proofs.Rows.{insert_is, sorted_insert}
use Rattle.cn_rib.proofs.prefix_map.put_each_in.Goals as goal

pub loop-prefix-preserved : goal.loop-prefix-preserved
loop-prefix-preserved g c =
    let kept = c.loop-prefix.invariant in
    let rows = c.loop-prefix.rows.items in
    let prefix = c.prefix-item.result in
    let value = c.args.value in
    let made = rw c.unwrap.ensures at c.put.ensures.ok in
    let from_start = λ (ps : List Cidr).
    put_each (from_sorted (map (λ r. (r.prefix, r.value)) c.args.rows.now.items)) ps (Some value) in
    record {
      sorted =
          sorted_insert prefix_cmp_total prefix_cmp-IsAntisymmetric (λ r. r.prefix) (λ r. r.value)
          rows _ kept.sorted refl _ prefix value made;
      value =
          insert_is prefix_cmp_total prefix_cmp-IsAntisymmetric (λ r. r.prefix) (λ r. r.value)
          rows _ kept.sorted refl _ prefix value made
          ∙ ap (λ s. fin.insert s prefix value) kept.value
          ∙ ap (λ p. fin.insert (from_start (take c.loop-prefix.prefix-index c.args.prefixes.now)) p
          value) c.prefix-item.is
          ∙ sym (fold_more (λ n p. fin.insert n p value) _ c.args.prefixes.now
          c.loop-prefix.prefix-index prefix c.loop-prefix-test.true);
      grown = omega (arith, c.put.ensures.length, kept.grown);
      room = omega (
        arith,
        c.put.ensures.length,
        c.put.ensures.capacity,
        kept.room,
        c.loop-prefix-test.true,
      );
      capacity = omega (arith, c.put.ensures.capacity, kept.capacity);
    }
