-- Rows of bits above a list, and the first item of it that isn't 0.
use Rattle.std.proofs.Common.{◌≡◌, ◌≢◌, ℕ, ◌+◌, ◌-◌, ◌*◌, ◌/◌, ◌%◌, ◌^◌, ◌<◌, ◌≤◌, min, true, false, List, length, get_or, set, take, drop, ◌++◌, Some, None, refl, sym, ap, subst, ◌∙◌, ⊎_elim, arith, get_or-set_same, get_or-set_other, bit_and, bit_or, w64, cond, ltb, length-set}
use Rattle.std.specs.Int.{bit_at, trailing_zeros}
use Rattle.std.specs.List.{position_or_len}
use Rattle.std.proofs.lemmas.Bool.{cases_eq, cases_lt}
use Rattle.std.proofs.lemmas.Bool.Decides.{nat_tests}
use Rattle.std.proofs.lemmas.List.{get_or_past, take_at}
use Rattle.std.proofs.lemmas.List.Sums.{position_or_len_is}
use Rattle.std.proofs.lemmas.Nat.Bits.{bit_at-zero, bit_at-trailing_zeros, bit_at_set_same, bit_at_set_other, bit_at_clear_same, bit_at_clear_other}
use Rattle.cn_rib.specs.Tally.{IsAbove, IsFirst, IsLevelled, bit_of, first_slot}

-- a list that was lent whole comes back whole
pub lent_whole : (n : ℕ) (xs ys : List ℕ) → length xs ≡ n
    → take n (xs ++ drop (length xs) ys) ≡ xs
lent_whole n xs ys e = take_at xs (drop (length xs) ys) n e

-- ---- one bit changes

-- the words are the same elsewhere
abbrev SameBits : List ℕ → List ℕ → ℕ → Type 0
SameBits words' words i = (k : ℕ) → k ≢ i → bit_of words' k ≡ bit_of words k

-- the items are the same elsewhere
abbrev SameItems : List ℕ → List ℕ → ℕ → Type 0
SameItems xs' xs i = (k : ℕ) → k ≢ i → get_or xs' k 0 ≡ get_or xs k 0

module _ (words : List ℕ) (i v : ℕ) (within : i / 64 < length words) where
  abbrev with_word : List ℕ
  with_word = set words (i / 64) v

  bit_here : bit_of with_word i ≡ bit_at v (i % 64)
  bit_here = ap (λ w. bit_at w (i % 64)) (get_or-set_same words (i / 64) v 0 within)

  bit_there : ((j : ℕ) → j < 64 → j ≢ i % 64 → bit_at v j ≡ bit_at (get_or words (i / 64) 0) j)
      → SameBits with_word words i
  bit_there same k apart = ⊎_elim
      (λ e.
      let here : bit_at (get_or with_word (i / 64) 0) (k % 64) ≡ bit_at v (k % 64) =
      ap (λ w. bit_at w (k % 64)) (get_or-set_same words (i / 64) v 0 within) in
      subst (λ w. bit_at (get_or with_word w 0) (k % 64) ≡ bit_at (get_or words w 0) (k % 64))
      (sym e) (here ∙ same (k % 64) (omega arith) (omega arith)))
      (λ other.
      ap (λ w. bit_at w (k % 64)) (get_or-set_other words (i / 64) (k / 64) v 0 other))
      (cases_eq (k / 64) (i / 64))

-- ---- what is below changes with a bit

-- where only the item at i changed, and the bit above it went with it, the bits are above the items
above_changed : (words words' xs xs' : List ℕ) (i : ℕ) → IsAbove words xs
    → bit_of words' i ≡ min 1 (get_or xs' i 0)
    → SameBits words' words i → SameItems xs' xs i → IsAbove words' xs'
above_changed words words' xs xs' i above here bits items k = ⊎_elim
    (λ e. subst (λ j. bit_of words' j ≡ min 1 (get_or xs' j 0)) (sym e) here)
    (λ other. bits k other ∙ above k ∙ ap (min 1) (sym (items k other)))
    (cases_eq k i)

-- a word of zero has no bit
no_bit : (words : List ℕ) (i : ℕ) → get_or words (i / 64) 0 ≡ 0 → bit_of words i ≡ 0
no_bit words i none = ap (λ w. bit_at w (i % 64)) none ∙ bit_at-zero (i % 64)

-- a word above something isn't 0
word_held : (words xs : List ℕ) (i : ℕ) → IsAbove words xs → 0 < get_or xs i 0
    → 0 < get_or words (i / 64) 0
word_held words xs i above some = ⊎_elim
    (λ held. held)
    (λ none. absurd (omega (arith, above i, no_bit words i (omega arith))))
    (cases_lt 0 (get_or words (i / 64) 0))

-- ---- the first

-- a top that has a bit, behind tops that have none, is the first
pub first_of_bits : (bits tops : List ℕ) (n : ℕ) → bits ≡ tops → get_or bits n 0 ≢ 0
    → ((k : ℕ) → k < n → get_or tops k 0 ≡ 0) → IsFirst tops n
first_of_bits bits tops n same some before = record {
  held = subst (λ l. get_or l n 0 ≢ 0) same some;
  before = before;
}

-- the first item that isn't 0 is an item
pub first_within : (xs : List ℕ) (i : ℕ) → IsFirst xs i → i < length xs
first_within xs i first = ⊎_elim
    (λ within. within)
    (λ past. absurd (omega (arith, first.held, get_or_past xs i 0 past)))
    (cases_lt i (length xs))

-- the lowest bit of the first word with something stands above the first item
pub first_below : (words xs : List ℕ) (w : ℕ) → IsAbove words xs → get_or words w 0 < 2 ^ 64
    → IsFirst words w → IsFirst xs (64 * w + trailing_zeros w64 (get_or words w 0))
first_below words xs w above fits first =
    let n : ℕ = get_or words w 0 in
    let t : ℕ = trailing_zeros w64 n in
    let low = bit_at-trailing_zeros w64 n (omega (arith, first.held)) fits in
    let below : t < 64 = low.0 in
    let quotient : (64 * w + t) / 64 ≡ w = omega arith in
    let rest : (64 * w + t) % 64 ≡ t = omega arith in
    let bit : bit_of words (64 * w + t) ≡ 1 =
    ap (λ q. bit_at (get_or words q 0) ((64 * w + t) % 64)) quotient
    ∙ ap (bit_at n) rest ∙ low.1 in
    let none : (k : ℕ) → bit_of words k ≡ 0 → get_or xs k 0 ≡ 0 =
    λ k e. omega (arith, above k, e) in
    record {
      held = omega (arith, above (64 * w + t), bit);
      before = λ k lt. none k (⊎_elim
          (λ e. ap (λ q. bit_at (get_or words q 0) (k % 64)) e ∙ low.2 (k % 64) (omega arith))
          (λ other. no_bit words k (first.before (k / 64) (omega arith)))
          (cases_eq (k / 64) w));
    }

-- a list whose items are 0 up to its end has 0 everywhere
pub all_none : (xs : List ℕ) (n : ℕ) → ((k : ℕ) → k < n → get_or xs k 0 ≡ 0)
    → length xs ≤ n → (k : ℕ) → get_or xs k 0 ≡ 0
all_none xs n none end k =
    ⊎_elim (λ low. none k low) (λ high. get_or_past xs k 0 (omega arith)) (cases_lt k n)

-- under words with nothing there is nothing
pub none_below : (words xs : List ℕ) → IsAbove words xs → ((w : ℕ) → get_or words w 0 ≡ 0)
    → (k : ℕ) → get_or xs k 0 ≡ 0
none_below words xs above none k = omega (arith, above k, no_bit words k (none (k / 64)))

abbrev place : List ℕ → ℕ
place xs = position_or_len (λ n. ltb 0 n) xs

at_first : (xs : List ℕ) (i : ℕ) → place xs ≡ i → i < length xs → Some i ≡ first_slot xs
at_first xs i e within =
    subst (λ j. Some i ≡ cond (ltb j (length xs)) (Some j) None) (sym e) (grind (arith, nat_tests))

at_end : (xs : List ℕ) → place xs ≡ length xs → None ≡ first_slot xs
at_end xs e =
    subst (λ j. None ≡ cond (ltb j (length xs)) (Some j) None) (sym e) (grind (arith, nat_tests))

no_test : (n : ℕ) → n ≡ 0 → ltb 0 n ≡ false
no_test n e = grind (arith, nat_tests)

a_test : (n : ℕ) → 0 < n → ltb 0 n ≡ true
a_test n h = grind (arith, nat_tests)

-- the first slot is that of the first count that isn't 0
pub first_slot_is : (xs : List ℕ) (i : ℕ) → IsFirst xs i → Some i ≡ first_slot xs
first_slot_is xs i first =
    let within : i < length xs = first_within xs i first in
    at_first xs i
    (position_or_len_is (λ n. ltb 0 n) xs i 0 (omega arith)
    (λ k lt. no_test _ (first.before k lt)) (λ _. a_test _ (omega (arith, first.held))))
    within

-- there is no first slot where all counts are 0
pub first_slot_none : (xs : List ℕ) → ((k : ℕ) → get_or xs k 0 ≡ 0) → None ≡ first_slot xs
first_slot_none xs none =
    at_end xs
    (position_or_len_is (λ n. ltb 0 n) xs (length xs) 0 (omega arith)
    (λ k lt. no_test _ (none k)) (λ lt. absurd (omega arith)))

-- ---- a count changes

module _ (counts words tops words' tops' : List ℕ) (i v : ℕ)
    (levels : IsLevelled counts words tops) (there : i < length counts)
    (words_long : length words' ≡ length words) (tops_long : length tops' ≡ length tops)
    (bits : SameBits words' words i) (items : SameItems words' words (i / 64))
    (top_bits : SameBits tops' tops (i / 64)) where
  abbrev counts' : List ℕ
  counts' = set counts i v

  words_follow : bit_of words' i ≡ min 1 v → IsAbove words' counts'
  words_follow bit = above_changed words words' counts counts' i levels.words_above
      (bit ∙ ap (min 1) (sym (get_or-set_same counts i v 0 there))) bits
      (λ k other. get_or-set_other counts i k v 0 other)

  levels_follow : bit_of words' i ≡ min 1 v
      → bit_of tops' (i / 64) ≡ min 1 (get_or words' (i / 64) 0)
      → IsLevelled counts' words' tops'
  levels_follow bit top = record {
    few = omega (arith, length-set counts i v, levels.few);
    words_few = omega (arith, length-set counts i v, levels.words_few);
    tops_few = omega (arith, levels.tops_few);
    words_room = omega (arith, length-set counts i v, levels.words_room);
    tops_room = omega (arith, levels.tops_room);
    words_above = words_follow bit;
    tops_above =
        above_changed tops tops' words words' (i / 64) levels.tops_above top top_bits items;
  }

  -- the levels hold where a count has something, and both bits were set
  pub levelled_added : 0 < v → bit_of words' i ≡ 1 → bit_of tops' (i / 64) ≡ 1
      → IsLevelled counts' words' tops'
  levelled_added some bit top =
      let bit_is : bit_of words' i ≡ min 1 v = omega arith in
      let count_is = get_or-set_same counts i v 0 there in
      let held = word_held words' counts' i (words_follow bit_is) (omega arith) in
      levels_follow bit_is (omega (arith, held))

  -- the levels hold where a count has nothing, and both bits were cleared
  pub levelled_emptied : v ≡ 0 → bit_of words' i ≡ 0 → get_or words' (i / 64) 0 ≡ 0
      → bit_of tops' (i / 64) ≡ 0 → IsLevelled counts' words' tops'
  levelled_emptied none bit empty top = levels_follow (omega arith) (omega arith)

  -- the levels hold where a count has nothing, its bit was cleared, and its word has others
  pub levelled_cleared : v ≡ 0 → bit_of words' i ≡ 0 → 0 < get_or words' (i / 64) 0
      → 0 < get_or counts i 0 → bit_of tops' (i / 64) ≡ bit_of tops (i / 64)
      → IsLevelled counts' words' tops'
  levelled_cleared none bit held was same =
      let before = word_held words counts i levels.words_above was in
      levels_follow (omega arith) (omega (arith, before, levels.tops_above (i / 64)))

-- the levels hold where a count stays above 0 or stays 0, and no bit changed
pub levelled_kept : (counts words tops : List ℕ) (i v : ℕ) → IsLevelled counts words tops
    → i < length counts → min 1 (get_or counts i 0) ≡ min 1 v
    → IsLevelled (set counts i v) words tops
levelled_kept counts words tops i v levels there same =
    levels_follow counts words tops words tops i v levels there refl refl
    (λ k other. refl) (λ k other. refl) (λ k other. refl)
    (levels.words_above i ∙ same) (levels.tops_above (i / 64))

-- ---- the bits as the code writes them

module _ (words : List ℕ) (i : ℕ) (within : i / 64 < length words) where
  abbrev word : ℕ
  word = get_or words (i / 64) 0

  abbrev with_bit : List ℕ
  with_bit = set words (i / 64) (bit_or word (1 * 2 ^ (i % 64) % 2 ^ 64))

  -- a bit that was set is 1
  pub set_here : bit_of with_bit i ≡ 1
  set_here = bit_here words i _ within ∙ bit_at_set_same w64 word (i % 64) (omega arith)

  -- where a bit was set, the others are as before
  pub set_there : SameBits with_bit words i
  set_there = bit_there words i _ within
      (λ j low other. bit_at_set_other w64 word (i % 64) (omega arith) j other)

  abbrev without_bit : List ℕ
  without_bit = set words (i / 64) (bit_and word (2 ^ 64 - 1 - 1 * 2 ^ (i % 64) % 2 ^ 64))

  -- a bit that was cleared is 0
  pub clear_here : bit_of without_bit i ≡ 0
  clear_here = bit_here words i _ within ∙ bit_at_clear_same w64 word (i % 64) (omega arith)

  -- where a bit was cleared, the others are as before
  pub clear_there : SameBits without_bit words i
  clear_there = bit_there words i _ within
      (λ j low other. bit_at_clear_other w64 word (i % 64) (omega arith) j low other)
