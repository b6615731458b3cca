use Rattle.std.proofs.Common.{rules, take}
use Rattle.std.specs.Ordering.{is_le, is_lt, ordering_index}
use Rattle.std.proofs.lemmas.List.Sorted.{IsNonDecreasingBy-take, IsPartitionPoint-from_clause, searchable_from_sorted}
use Rattle.cn_lists.proofs.Segments.{IsPartitionedBy-is_le, IsPartitionedBy-is_lt, IsSegment-from_points}
use Rattle.cn_lists.proofs.segment.places_at.Goals as goal

pub returns-clause-segment : goal.returns-clause-segment
returns-clause-segment g c = λ of gives up.
    let xs = c.args.items.now in
    let order = λ (x : _). g.K.Ord.cmp (of x) c.args.key.now in
    let start = c.partition_point-start.result in
    let end = c.partition_point-end.result in
    let rises = searchable_from_sorted g.met.K.Ord.total of xs c.args.key.now up in
    let ends =
    IsPartitionPoint-from_clause (λ x. is_le (order x)) xs end
    c.partition_point-end.ensures.partitioned
    (IsPartitionedBy-is_le order xs rises) (λ a r q k. search rules) in
    let starts =
    IsPartitionPoint-from_clause (λ x. is_lt (order x)) (take end xs) start
    c.partition_point-start.ensures.partitioned
    (IsPartitionedBy-is_lt order (take end xs)
    (IsNonDecreasingBy-take (λ x. ordering_index (order x)) end xs rises)) (λ a r q k. search rules)
    in
    IsSegment-from_points order xs start end c.partition_point-end.ensures.bound
    c.partition_point-start.ensures.bound ends starts
