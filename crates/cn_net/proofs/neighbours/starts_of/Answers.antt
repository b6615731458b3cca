use Rattle.std.proofs.Common.{◌≡◌, ◌∷◌, ◌++◌, [], ap, arith, get_or, length, ltb, rules, subst, sym}
use Rattle.std.proofs.lemmas.List.{length_push}
use Rattle.std.proofs.lemmas.List.Sorted.{IsPartitionPoint-from_clause, IsPartitionedBy-ltb}
use Rattle.cn_net.specs.Neighbours.{IsStart}
use Rattle.cn_net.proofs.Starts.{IsStart-from_point, IsStart-push, ends_rise}
use Rattle.cn_net.proofs.neighbours.starts_of.Goals as goal

pub loop-d-preserved : goal.loop-d-preserved
loop-d-preserved c =
    let list = c.args.neighbours.now in
    let d = c.loop-d.d-counter in
    let starts = c.loop-d.starts.items in
    let start = c.partition_point.result in
    let put : c.push.new.self.items ≡ starts ++ start ∷ [] = c.in_ok-push.ensures.items in
    let point =
    IsPartitionPoint-from_clause (λ n. ltb n.of.0 d)
    list start c.partition_point.ensures.partitioned
    (IsPartitionedBy-ltb (λ n. n.of.0) list d (ends_rise list c.requires.ascending))
    (λ a r q k. search rules) in
    let here = IsStart-from_point list d start c.partition_point.ensures.bound point in
    record {
      many = omega (arith, ap length put, length_push starts start);
      each = λ k lt.
          subst (λ xs. IsStart list k (get_or xs k 0)) (sym put)
          (IsStart-push list starts d start c.loop-d.invariant.many c.loop-d.invariant.each here k
          lt);
    }

pub returns : goal.returns
returns c = record {
  many = omega arith;
  each = λ d le. c.loop-d.invariant.each d (omega arith);
}
