-- A prefix of addresses as contracts see it (RFC 4271, 4.3).
use Rattle.std.specs.Prelude.{◌≡◌, ℕ, ◌≤◌, ◌-◌, ◌^◌, ◌/◌, ◌%◌, ◌==◌, ◌&&◌, nat_le, Bool}

-- 32 bits, as a number, and how many of them count
pub record Cidr : Type 0 where
  pub bits : ℕ
  pub len : ℕ

-- at most 32 bits count, and the bits after those are zero
pub record IsCidr (p : Cidr) : Type 0 where
  pub short : p.len ≤ 32
  pub clear : p.bits % 2 ^ (32 - p.len) ≡ 0

-- the same bits and the same length
abbrev pub same_prefix : Cidr → Cidr → Bool
same_prefix p q = (p.bits == q.bits) && (p.len == q.len)

-- q is at least as long as p and begins with the same bits
abbrev pub covers : Cidr → Cidr → Bool
covers p q =
    nat_le p.len q.len && (p.bits / 2 ^ (32 - p.len) == q.bits / 2 ^ (32 - p.len))
