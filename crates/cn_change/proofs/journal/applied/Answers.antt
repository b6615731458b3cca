use Rattle.std.proofs.Common.{sym, ◌∙◌}
use Rattle.cn_change.proofs.Accepted.{accepted_possible}
use Rattle.cn_change.proofs.journal.applied.Goals as goal

pub network_after-requires : goal.network_after-requires
network_after-requires c =
    accepted_possible c.args.net.now c.args.emulated.now c.args.change.now c.valid.ensures
    (sym c.in_ok-fault.ensures.first ∙ c.in-None.is)
