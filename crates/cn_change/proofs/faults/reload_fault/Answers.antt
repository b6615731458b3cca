use Rattle.std.proofs.Common.{sym}
use Rattle.cn_change.proofs.Fits.{place_fits}
use Rattle.cn_change.proofs.faults.reload_fault.Goals as goal

pub limit_fault-requires : goal.limit_fault-requires
limit_fault-requires c =
    (place_fits c.args.net.now c.args.emulated.now c.args.d c.args.body.now
    (sym c.in_default.ensures)).device
