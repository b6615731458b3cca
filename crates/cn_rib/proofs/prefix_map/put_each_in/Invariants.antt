use Rattle.std.proofs.Common.{◌≡◌, ◌+◌, ◌-◌, ◌≤◌, Some, T, length, map, take, vec_capacity, vec_len}
use Rattle.std.specs.FinMap.{from_sorted, is_sorted}
use Rattle.cn_base.specs.Table.{prefix_cmp}
use Rattle.cn_rib.specs.PrefixMaps.{put_each}
use Rattle.cn_rib.proofs.prefix_map.put_each_in.Given as goal

abbrev pub invariant-loop-prefix : goal.invariant-loop-prefix
invariant-loop-prefix g l = record {
  sorted : T (is_sorted prefix_cmp (map (λ r. (r.prefix, r.value)) l.rows.items));
  value : from_sorted {R = prefix_cmp} (map (λ r. (r.prefix, r.value)) l.rows.items)
      ≡ put_each (from_sorted (map (λ r. (r.prefix, r.value)) l.initial.rows.items))
      (take l.prefix-index l.prefixes) (Some l.value);
  grown : vec_len l.rows ≤ vec_len l.initial.rows + l.prefix-index;
  room : vec_len l.rows + (length l.prefixes - l.prefix-index) ≤ vec_capacity l.rows;
  capacity : vec_capacity l.initial.rows ≤ vec_capacity l.rows;
}
