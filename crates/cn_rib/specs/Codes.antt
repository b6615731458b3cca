-- How values that hold prefixes are stored.
use Rattle.std.specs.Prelude.{ℕ, refl}
use Rattle.std.specs.Coded.{Coded, code_by, coded×, coded_ℕ}
use Rattle.cn_base.specs.Cidr.{Cidr}

-- a prefix is stored as the pair of its bits and its length
abbrev pub coded_cidr : Coded Cidr
coded_cidr =
    code_by (ℕ × ℕ) (coded× coded_ℕ coded_ℕ) (λ p. (p.bits, p.len))
    (λ e. record { bits = e.0; len = e.1 }) (λ _. refl)
