use Rattle.std.proofs.Common.{◌∙◌, ap, arith, refl, sym}
use Rattle.std.proofs.lemmas.List.Sums.{fold_more}
use Rattle.cn_rib.specs.PrefixSet as set
use Rattle.cn_rib.proofs.Prefixes.{prefix_cmp_total, prefix_cmp-IsAntisymmetric}
use Rattle.cn_rib.proofs.Rows.{insert_is, sorted_insert}
use Rattle.cn_rib.proofs.prefix_map.note_all.Goals as goal

pub loop-prefix-preserved : goal.loop-prefix-preserved
loop-prefix-preserved c =
    let kept = c.loop-prefix.invariant in
    let rows = c.loop-prefix.rows.items in
    let prefix = c.prefix-item.result in
    let made = rw c.unwrap.ensures at c.put.ensures.ok in
    record {
      sorted =
          sorted_insert prefix_cmp_total prefix_cmp-IsAntisymmetric (λ r. r.prefix) (λ r. r.value)
          rows _ kept.sorted refl _ prefix tt made;
      value =
          insert_is prefix_cmp_total prefix_cmp-IsAntisymmetric (λ r. r.prefix) (λ r. r.value)
          rows _ kept.sorted refl _ prefix tt made
          ∙ ap (λ s. set.insert s prefix) kept.value
          ∙ ap (set.insert _) c.prefix-item.is
          ∙ sym (fold_more set.insert _ c.args.prefixes.now c.loop-prefix.prefix-index prefix
          c.loop-prefix-test.true);
      grown = omega (arith, c.put.ensures.length, kept.grown);
      room = omega (
        arith,
        c.put.ensures.length,
        c.put.ensures.capacity,
        kept.room,
        c.loop-prefix-test.true,
      );
      capacity = omega (arith, c.put.ensures.capacity, kept.capacity);
    }
