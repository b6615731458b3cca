use Rattle.std.proofs.Common.{ℕ, ◌<◌, get_or}
use Rattle.cn_record.specs.declared.saved.Row.{Row}
use Rattle.cn_core.specs.Fits.{FitsRow}
use Rattle.cn_core.proofs.fits.numbers_fit.Given as goal

abbrev pub invariant-loop-row : goal.invariant-loop-row
invariant-loop-row l = (k : ℕ) (d : Row) → k < l.row-index → FitsRow (get_or l.row-items k d)
