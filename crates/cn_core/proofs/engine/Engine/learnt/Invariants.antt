use Rattle.std.proofs.Common.{◌≡◌, ◌<◌, None, drop, length, map}
use Rattle.std.specs.Prelude.{IfSome}
use Rattle.std.specs.List.{filter, fold}
use Rattle.cn_net.specs.Network.{device_ids}
use Rattle.cn_net.proofs.Senders.{sender_at}
use Rattle.cn_core.specs.Learnt.{has_session, learnt_choice}
use Rattle.cn_core.specs.Stored.{stands_for}
use Rattle.cn_core.proofs.Decided.{with_came}
use Rattle.cn_core.proofs.engine.Engine.learnt.Given as goal

abbrev pub invariant-loop-place : goal.invariant-loop-place
invariant-loop-place l =
    let s = stands_for l.self in
    (fold (λ best a. with_came s l.device l.prefix a best) (learnt_choice l.self.pool l.best)
    (map (sender_at l.self-inside.index) (drop l.place-index l.place-items))
    ≡ fold (λ best a. with_came s l.device l.prefix a best) None
    (filter (has_session s l.device) (device_ids s.now.net)))
    × IfSome l.best (λ r. r.item.path.0 < length l.self.pool)
