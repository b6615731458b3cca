-- Small facts that the readers use.
use Rattle.std.proofs.Common.{◌≡◌, ℕ, ◌-◌, ◌*◌, ◌/◌, ◌%◌, ◌^◌, ◌≤◌, Option, Some, None, refl, arith}
use Rattle.std.specs.Prelude.{MatchOption, IsSome}
use Rattle.std.proofs.Math.Nat.{mul-mod_left, pow-le-pow_right}
use Rattle.cn_base.specs.Cidr.{IsCidr}
use Rattle.cn_wire.specs.Numbers.{masked}

-- an option that is not None for a reason that holds is Some
pub is_there : {X : Type 0} {P : Type 0} (o : Option X) (Q : X → Type 0) → MatchOption o (P → ⊥) Q
    → P → IsSome o
is_there None Q h p = absurd (h p)
is_there (Some x) Q h p = refl

-- a masked number has zeros after the length
masked_is_cidr : (bits len : ℕ) → len ≤ 32
    → IsCidr (record { bits = masked len bits; len = len })
masked_is_cidr bits len short =
    record { short = short; clear = mul-mod_left (bits / 2 ^ (32 - len)) (2 ^ (32 - len)) }

-- an address without the bits behind its length is that of a prefix
pub masked_is_cidr_by : (size bits len : ℕ) → len ≤ 32 → size ≡ 2 ^ (32 - len)
    → IsCidr (record { bits = bits / size * size; len = len })
masked_is_cidr_by size bits len short e = rw e (masked_is_cidr bits len short)

-- a shift in 64 bits
pub shifted : (len : ℕ) → len ≤ 32 → 1 * 2 ^ (32 - len) % 18446744073709551616 ≡ 2 ^ (32 - len)
shifted len short =
    let top : 2 ^ (32 - len) ≤ 2 ^ 32 =
    pow-le-pow_right {n = 2} (omega arith) {i = 32 - len} {j = 32} (omega arith) in
    omega arith
