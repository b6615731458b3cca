-- What holds for each device below a number.
use Rattle.std.proofs.Common.{◌≡◌, ℕ, ◌+◌, ◌<◌, inl, inr, sym, subst, arith}
use Rattle.std.proofs.lemmas.Bool.{cases_lt}
use Rattle.cn_base.specs.declared.ids.DeviceId.{DeviceId}

number_is : (d : DeviceId) (n : ℕ) → d.0 ≡ n → d ≡ record { 0 = n }
number_is d n e = λ i. record { 0 = e i }

-- one more device
pub one_more : (P : DeviceId → Type 0) (n : ℕ) → ((d : DeviceId) → d.0 < n → P d)
    → P (record { 0 = n }) → (d : DeviceId) → d.0 < n + 1 → P d
one_more P n below at d lt =
    elim (cases_lt d.0 n) [
      | inl low ↦ below d low
      | inr high ↦ let same : d.0 ≡ n = omega (arith, lt, high) in
          subst P (sym (number_is d n same)) at
    ]
