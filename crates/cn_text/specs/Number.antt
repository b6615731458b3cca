-- Numbers in their one spelling, read at a place of a text.
use Rattle.std.specs.Prelude.{ℕ, ◌+◌, ◌*◌, ◌-◌, ◌==◌, Bool, ◌&&◌, nat_le, if◌then◌else◌, List, [], ◌∷◌, take, drop, Result, Ok, Err}
use Rattle.std.specs.List.{prefix_len}
use Rattle.cn_text.specs.declared.number.Bad.{Bad}

abbrev pub is_digit : ℕ → Bool
is_digit b = nat_le 48 b && nat_le b 57

-- the number that digits spell when they follow those of n
abbrev pub value_after : ℕ → List ℕ → ℕ
value_after n [] = n
value_after n (d ∷ ds) = value_after (n * 10 + (d - 48)) ds

abbrev pub value : List ℕ → ℕ
value ds = value_after 0 ds

-- how many bytes of a number stand at the front: a 0 alone, or all the digits
abbrev pub digit_count : List ℕ → ℕ
digit_count [] = 0
digit_count (b ∷ bs) = if b == 48 then 1 else prefix_len is_digit (b ∷ bs)

abbrev pub bad : List ℕ → ℕ → Result (ℕ × ℕ) Bad
bad rest at = Err (record { at = at })

-- the number at the front of the rest, which stands at that place
abbrev pub number_in : ℕ → ℕ → List ℕ → Result (ℕ × ℕ) Bad
number_in max at rest =
    let n = digit_count rest in
    if n == 0 then bad rest at
    else if nat_le (value (take n rest)) max then Ok (value (take n rest), at + n) else bad rest at

abbrev pub number_at : List ℕ → ℕ → ℕ → Result (ℕ × ℕ) Bad
number_at bytes at max = number_in max at (drop at bytes)
