use Rattle.std.proofs.Common.{◌≡◌, ◌<◌, [], length, map, slice_index_or}
use Rattle.std.specs.List.{filter, range_with_len}
use Rattle.cn_base.specs.declared.ids.DeviceId.{DeviceId}
use Rattle.cn_net.specs.Sessions.{leads_to}
use Rattle.cn_net.proofs.sessions.into_of.Given as goal

abbrev pub invariant-loop-place : goal.invariant-loop-place
invariant-loop-place l = record {
  many : length l.into.items ≡ l.count;
  places : (d : DeviceId) → d.0 < l.count
      → slice_index_or (map (λ v. v.items) l.into.items) d.0 []
      ≡ filter (leads_to l.ends d) (range_with_len 0 l.place);
}
