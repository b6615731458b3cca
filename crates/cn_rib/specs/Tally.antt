-- Counts in slots, and the bits above them.
use Rattle.std.specs.Prelude.{◌≡◌, ◌≢◌, ℕ, ◌*◌, ◌/◌, ◌%◌, ◌<◌, ◌≤◌, ◌^◌, List, length, Option, nat_lt, position, min, slice_index}
use Rattle.std.specs.Int.{bit_at}

-- the least slot whose count isn't 0
abbrev pub first_slot : List ℕ → Option ℕ
first_slot counts = position (λ n. nat_lt 0 n) counts

-- the bit at a place of a row of 64-bit words
abbrev pub bit_of : List ℕ → ℕ → ℕ
bit_of words k = bit_at (slice_index words (k / 64)) (k % 64)

-- each bit says whether the item at its place isn't 0
abbrev pub IsAbove : List ℕ → List ℕ → Type 0
IsAbove words xs = (k : ℕ) → bit_of words k ≡ min 1 (slice_index xs k)

-- there is a word for each 64 items
abbrev pub HasRoom : List ℕ → List ℕ → Type 0
HasRoom words xs = length xs ≤ 64 * length words

-- the item at i isn't 0, and those before it are
pub record IsFirst (xs : List ℕ) (i : ℕ) : Type 0 where
  pub held : slice_index xs i ≢ 0
  pub before : (k : ℕ) → k < i → slice_index xs k ≡ 0

-- the levels of a tally: a bit for each count, and a bit for each word of those
pub record IsLevelled (counts words tops : List ℕ) : Type 0 where
  pub few : length counts < 2 ^ 32
  pub words_few : length words ≤ length counts
  pub tops_few : length tops ≤ length words
  pub words_room : HasRoom words counts
  pub tops_room : HasRoom tops words
  pub words_above : IsAbove words counts
  pub tops_above : IsAbove tops words
