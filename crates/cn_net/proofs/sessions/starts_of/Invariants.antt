use Rattle.std.proofs.Common.{◌≡◌, length}
use Rattle.cn_net.specs.Sessions.{SessionsBegin}
use Rattle.cn_net.proofs.sessions.starts_of.Given as goal

abbrev pub invariant-loop-device : goal.invariant-loop-device
invariant-loop-device l = record {
  begin : SessionsBegin l.ends l.starts.items;
  many : length l.starts.items ≡ l.device-counter;
}
