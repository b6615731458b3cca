use Rattle.std.proofs.Common.{ℕ, ◌<◌, ◌^◌, get_or}
use Rattle.cn_base.specs.declared.ids.Asn.{Asn}
use Rattle.cn_core.proofs.fits.path_fits.Given as goal

abbrev pub invariant-loop-number : goal.invariant-loop-number
invariant-loop-number l =
    (k : ℕ) (d : Asn) → k < l.number-index → (get_or l.number-items k d).0 < 2 ^ 32
