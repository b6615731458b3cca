use Rattle.std.proofs.Common.{ℕ, ◌<◌, get_or}
use Rattle.cn_net.specs.declared.device.Own.{Own}
use Rattle.cn_wire.specs.Writing.{IsPrefix}
use Rattle.cn_core.proofs.fits.device_fits.Given as goal

abbrev pub invariant-loop-own : goal.invariant-loop-own
invariant-loop-own l =
    (k : ℕ) (d : Own) → k < l.own-index → IsPrefix (get_or l.own-items k d).prefix
