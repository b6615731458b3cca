use Rattle.std.proofs.Common.{◌≡◌}
use Rattle.std.specs.List.{flat_map}
use Rattle.cn_net.specs.Sessions.{sessions_from}
use Rattle.cn_net.proofs.Indexing.{ids}
use Rattle.cn_net.proofs.sessions.ends_of.Given as goal

abbrev pub invariant-loop-from : goal.invariant-loop-from
invariant-loop-from l = l.ends.items ≡ flat_map (sessions_from l.net l.emulated) (ids l.from)
