use Rattle.std.proofs.Common.{ltb, subst, sym, rules, arith}
use Rattle.std.proofs.lemmas.List.Sorted.{IsPartitionPoint-from_clause, IsPartitionedBy-ltb}
use Rattle.cn_net.specs.Sessions.{SessionsBegin}
use Rattle.cn_net.specs.declared.sessions.SessionEnds.{SessionEnds}
use Rattle.cn_net.proofs.Indexing.{starts_more}
use Rattle.cn_net.proofs.SessionOrder.{senders_rise}
use Rattle.cn_net.proofs.sessions.starts_of.Goals as goal

pub loop-device-preserved : goal.loop-device-preserved
loop-device-preserved c =
    let ends = c.args.ends.now in
    let d = c.loop-device.device-counter in
    let s = c.partition_point-start.result in
    let starts = c.loop-device.starts.items in
    let parted =
    IsPartitionPoint-from_clause (λ (e : SessionEnds). ltb e.from.0 d) ends s
    c.partition_point-start.ensures.partitioned
    (IsPartitionedBy-ltb (λ (e : SessionEnds). e.from.0) ends d
    (senders_rise ends c.requires.ascending))
    (λ a r q k. search rules) in
    let put = c.in_ok-push.ensures.items in
    record {
      begin = subst (SessionsBegin ends) (sym put)
          (starts_more ends starts d s c.loop-device.invariant.many c.loop-device.invariant.begin
          c.partition_point-start.ensures.bound parted);
      many = omega (arith, c.in_ok-push.ensures.len, c.loop-device.invariant.many);
    }
