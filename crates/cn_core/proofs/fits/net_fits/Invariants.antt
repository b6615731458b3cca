use Rattle.std.proofs.Common.{ℕ, ◌<◌, get_or}
use Rattle.cn_net.specs.declared.device.Device.{Device}
use Rattle.cn_core.specs.Fits.{FitsDevice}
use Rattle.cn_core.proofs.fits.net_fits.Given as goal

abbrev pub invariant-loop-device : goal.invariant-loop-device
invariant-loop-device l =
    (k : ℕ) (d : Device) → k < l.device-index → FitsDevice (get_or l.device-items k d)
