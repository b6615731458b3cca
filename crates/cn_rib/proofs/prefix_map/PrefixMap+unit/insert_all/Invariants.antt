use Rattle.std.proofs.Common.{◌≡◌, ◌+◌, ◌-◌, ◌≤◌, T, drop, length, map, vec_capacity, vec_len}
use Rattle.std.specs.FinMap.{from_sorted, is_sorted}
use Rattle.cn_base.specs.Table.{prefix_cmp}
use Rattle.cn_rib.specs.PrefixSet as set
use Rattle.cn_rib.proofs.prefix_map.PrefixMap+unit.insert_all.Given as goal

abbrev pub invariant-loop-row : goal.invariant-loop-row
invariant-loop-row g l = record {
  sorted : T (is_sorted prefix_cmp (map (λ r. (r.prefix, r.value)) l.self-inside.rows.items));
  made : set.insert_all (from_sorted (map (λ r. (r.prefix, r.value)) l.self-inside.rows.items))
      (map (λ r. r.prefix) (drop l.row-index l.more))
      ≡ set.insert_all
      (from_sorted (map (λ r. (r.prefix, r.value)) l.initial.self-inside.rows.items))
      (map (λ r. r.prefix) l.more);
  room : vec_len l.self-inside.rows + (length l.more - l.row-index)
      ≤ vec_capacity l.self-inside.rows;
}
