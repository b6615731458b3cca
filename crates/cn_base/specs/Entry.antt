-- An entry of a prefix list as contracts see it.
use Rattle.std.specs.Prelude.{ℕ, ◌≤◌, ◌&&◌, nat_le, Bool}
use Rattle.cn_base.specs.Cidr.{Cidr, covers}

-- whether prefixes are permitted, and which: those that a prefix covers, of lengths from ge to le
pub record EntryValue : Type 0 where
  pub permit : Bool
  pub prefix : Cidr
  pub ge : ℕ
  pub le : ℕ

abbrev pub entry_with : Bool → Cidr → ℕ → ℕ → EntryValue
entry_with permit prefix ge le = record { permit = permit; prefix = prefix; ge = ge; le = le }

-- the lengths lie between that of the entry's prefix and 32
pub record IsEntry (e : EntryValue) : Type 0 where
  pub from : e.prefix.len ≤ e.ge
  pub upto : e.ge ≤ e.le
  pub within : e.le ≤ 32

-- the entry speaks of the prefix
abbrev pub matches : EntryValue → Cidr → Bool
matches e p = covers e.prefix p && (nat_le e.ge p.len && nat_le p.len e.le)
