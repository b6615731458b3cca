use Rattle.cn_core.proofs.RunsFit.{fits_holds}
use Rattle.cn_core.proofs.laws.fits_law.Goals as goal

pub returns : goal.returns
returns c = fits_holds
