-- Rows beside each other that have one device and prefix, as the code looks for them.
use Rattle.std.specs.Prelude.{◌≡◌, ℕ, ◌-◌, ◌+◌, ◌<◌, Bool, true, false, List, length, slice_index_or}
use Rattle.cn_record.specs.Rows.{is_row}
use Rattle.cn_record.specs.declared.saved.Row.{Row}

-- whether the row at a place and the next one have one device and prefix
abbrev pub tie_at : List Row → ℕ → Row → Bool
tie_at rows k d = is_row (slice_index_or rows k d).device (slice_index_or rows k d).prefix
    (slice_index_or rows (k + 1) d)

-- no row below this place has the device and prefix of the row before it
abbrev pub HasNoTieBelow : List Row → ℕ → Type 0
HasNoTieBelow rows place = (k : ℕ) (d : Row) → k + 1 < place → tie_at rows k d ≡ false

abbrev pub HasNoTie : List Row → Type 0
HasNoTie rows = HasNoTieBelow rows (length rows)

-- the row at this place has the device and prefix of the row before it, and none below it has
pub record IsFirstTie (rows : List Row) (place : ℕ) : Type 0 where
  pub above : 0 < place
  pub within : place < length rows
  pub tie : (d : Row) → tie_at rows (place - 1) d ≡ true
  pub first : HasNoTieBelow rows place
