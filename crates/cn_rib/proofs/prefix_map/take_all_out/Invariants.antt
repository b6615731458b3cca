use Rattle.std.proofs.Common.{◌≡◌, ◌≤◌, T, map, take, vec_capacity, vec_len}
use Rattle.std.specs.FinMap.{from_sorted, is_sorted}
use Rattle.cn_base.specs.Table.{prefix_cmp}
use Rattle.cn_rib.specs.PrefixMaps.{remove_all}
use Rattle.cn_rib.proofs.prefix_map.take_all_out.Given as goal

abbrev pub invariant-loop-prefix : goal.invariant-loop-prefix
invariant-loop-prefix g l = record {
  sorted : T (is_sorted prefix_cmp (map (λ r. (r.prefix, r.value)) l.rows.items));
  value : from_sorted {R = prefix_cmp} (map (λ r. (r.prefix, r.value)) l.rows.items)
      ≡ remove_all (from_sorted (map (λ r. (r.prefix, r.value)) l.initial.rows.items))
      (take l.prefix-index l.prefix-items);
  grown : vec_len l.rows ≤ vec_len l.initial.rows;
  capacity : vec_capacity l.initial.rows ≤ vec_capacity l.rows;
}
