use Rattle.std.proofs.Common.{subst}
use Rattle.cn_core.specs.Fits.{FitsPath}
use Rattle.cn_core.proofs.Paths.{path_from}
use Rattle.cn_core.proofs.fits.path_fits.Goals as goal

pub returns : goal.returns
returns c =
    subst FitsPath c.items-number-items.ensures.same
    (path_from c.items-number-items.result.now c.loop-number.number-index
    c.loop-number-test.false c.items-number-items.ensures.short c.loop-number.invariant)
