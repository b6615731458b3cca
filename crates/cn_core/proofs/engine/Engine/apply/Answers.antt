use Rattle.std.proofs.Common.{◌<◌, subst}
use Rattle.std.specs.Prelude.{IsTrue}
use Rattle.std.proofs.lemmas.List.{length-map}
use Rattle.cn_core.specs.Machine.{can}
use Rattle.cn_core.specs.Stored.{rib_under, stands_for}
use Rattle.cn_core.proofs.Kept.{dirty_in_range}
use Rattle.cn_core.proofs.engine.Engine.apply.Goals as goal

pub decide-requires : goal.decide-requires
decide-requires c =
    let s = stands_for c.args.self.now in
    subst (λ n. c.in-Decide.device.0 < n)
    (length-map c.args.self.now.ribs (rib_under c.args.self.now.pool))
    (dirty_in_range s c.in-Decide.device c.in-Decide.prefix
    (subst (λ e. IsTrue (can s e)) c.in-Decide.is c.requires))
