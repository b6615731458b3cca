-- What steps that succeed tell, and what octets are in parts.
use Rattle.std.proofs.Common.{◌≡◌, ℕ, ◌+◌, ◌*◌, ◌/◌, ◌%◌, ◌<◌, Bool, true, false, cond, List, [], ◌∷◌, take, drop, Result, Ok, Err, refl, arith, inl, inr}
use Rattle.std.specs.Prelude.{not}
use Rattle.std.proofs.lemmas.Bool.{cases_lt}
use Rattle.std.proofs.lemmas.List.{length-take, get_or-drop, get_or-take, get_or_past}
use Rattle.cn_wire.specs.declared.fault.WireFault.{WireFault}
use Rattle.cn_wire.specs.Numbers.{two_octets, four_octets, IsOctets, number_2, number_4}

-- octets without the first ones are octets
pub IsOctets-drop : (n : ℕ) (octets : List ℕ) → IsOctets octets → IsOctets (drop n octets)
IsOctets-drop n octets h i = rw get_or-drop (h (n + i))

-- the first of octets are octets
pub IsOctets-take : (n : ℕ) (octets : List ℕ) → IsOctets octets → IsOctets (take n octets)
IsOctets-take n octets h i =
    elim (cases_lt i n) [
      | inl lt ↦ rw (get_or-take n octets i 0 lt) (h i)
      | inr le ↦
          rw (get_or_past (take n octets) i 0 (omega (arith, length-take n octets))) (omega arith)
    ]

-- a test that did not fail
pub guard_ok : {A : Type 0} (b : Bool) (d : WireFault) (r : Result A WireFault) (y : A)
    → cond b (Err d) r ≡ Ok y → (b ≡ false) × (r ≡ Ok y)
guard_ok true d r y e = absurd cc
guard_ok false d r y e = (refl, e)

-- a step that did not fail
abbrev pub done : {A : Type 0} → A → Result A WireFault
done x = Ok x

-- steps with equal answers have equal values
pub ok_is : {A : Type 0} (x y : A) → done x ≡ done y → x ≡ y
ok_is x y e = cc

-- what is not false is true
pub not_false : (b : Bool) → not b ≡ false → b ≡ true
not_false true e = refl
not_false false e = absurd cc

-- a number of two octets has those octets
pub two_again : (a b : ℕ) (octets : List ℕ) → a < 256 → b < 256
    → two_octets (number_2 (a ∷ b ∷ octets)) ≡ a ∷ b ∷ []
two_again a b octets fa fb =
    let ea : (a * 256 + (b * 1 + 0)) / 256 % 256 ≡ a = omega arith in
    let eb : (a * 256 + (b * 1 + 0)) % 256 ≡ b = omega arith in
    rw (ea, eb) refl

-- a number of four octets has those octets
pub four_again : (a b c d : ℕ) (octets : List ℕ) → a < 256 → b < 256 → c < 256 → d < 256
    → four_octets (number_4 (a ∷ b ∷ c ∷ d ∷ octets)) ≡ a ∷ b ∷ c ∷ d ∷ []
four_again a b c d octets fa fb fc fd =
    let ea : (a * 16777216 + (b * 65536 + (c * 256 + (d * 1 + 0)))) / 16777216 % 256 ≡ a =
    omega arith in
    let eb : (a * 16777216 + (b * 65536 + (c * 256 + (d * 1 + 0)))) / 65536 % 256 ≡ b =
    omega arith in
    let ec : (a * 16777216 + (b * 65536 + (c * 256 + (d * 1 + 0)))) / 256 % 256 ≡ c = omega arith in
    let ed : (a * 16777216 + (b * 65536 + (c * 256 + (d * 1 + 0)))) % 256 ≡ d = omega arith in
    rw (ea, eb, ec, ed) refl
