-- Reading prefixes and attributes one after the other, as loops do.
use Rattle.std.proofs.Common.{◌≡◌, ℕ, zero, suc, ◌-◌, ◌+◌, ◌≤◌, ◌<◌, List, [], ◌∷◌, ◌++◌, length, drop, Result, Ok, Err, refl, sym, ap, ◌∙◌, append_assoc, arith}
use Rattle.std.proofs.lemmas.List.{append-nil}
use Rattle.cn_lists.specs.Steps.{◌>>=◌}
use Rattle.cn_lists.proofs.Loops.{before, in_front-before, with_front, with_front-done, with_front-failed, with_front-more}
use Rattle.cn_base.specs.Cidr.{Cidr}
use Rattle.cn_wire.specs.declared.fault.WireFault.{WireFault}
use Rattle.cn_wire.specs.declared.fault.WireAnswer.{WireAnswer}
use Rattle.cn_wire.specs.declared.fault.WireAnswer.TheVariants as answers
use Rattle.cn_base.specs.declared.ids.Asn.{Asn}
use Rattle.cn_wire.specs.declared.attributes.Found.{Found}
use Rattle.cn_wire.specs.Numbers.{number_4}
use Rattle.cn_wire.specs.Reading.{Fails, prefix_at, prefixes_at, attribute_at, attributes_at, numbers_in}

-- prefixes that were read, and octets that hold those still to be read
abbrev pub Rest : ℕ → List Cidr → List ℕ → Result (List Cidr) WireFault → Type 0
Rest end front octets total =
    (n : ℕ) × (length octets ≤ n) × (with_front before front (prefixes_at n end octets) ≡ total)

-- one more prefix was read
pub goes_on : (end : ℕ) (front : List Cidr) (octets : List ℕ) (p : Cidr) (after : List ℕ)
    (total : Result (List Cidr) WireFault)
    → length after < length octets → prefix_at end octets ≡ Ok (p, after)
    → Rest end front octets total → Rest end (front ++ p ∷ []) after total
unfolding prefixes_at
goes_on end front [] p after total lt h so_far = absurd (omega arith)
goes_on end front (b ∷ octets) p after total lt h (zero, le, e) = absurd (omega arith)
goes_on end front (b ∷ octets) p after total lt h (suc n, le, e) =
    let here = prefixes_at (suc n) end (b ∷ octets) in
    let later = prefixes_at n end after in
    let one : here ≡ (later >>= λ ps. Ok (before p ps)) = rw h refl in
    (n, omega arith, with_front-more before front here total e p later one)

fault_ends : (f : WireFault) (end : ℕ) (front : List Cidr) (octets : List ℕ)
    (total : Result (List Cidr) WireFault)
    → 0 < length octets → prefix_at end octets ≡ Err f → Rest end front octets total
    → total ≡ Err f
unfolding prefixes_at
fault_ends f end front [] total lt h so_far = absurd (omega arith)
fault_ends f end front (b ∷ octets) total lt h (zero, le, e) = absurd (omega arith)
fault_ends f end front (b ∷ octets) total lt h (suc n, le, e) =
    let here = prefixes_at (suc n) end (b ∷ octets) in
    let one : here ≡ Err f = rw h refl in
    with_front-failed before front here total e f one

-- a prefix that is refused is the answer
pub ends : (e : WireAnswer) (end : ℕ) (front : List Cidr) (octets : List ℕ)
    (total : Result (List Cidr) WireFault)
    → 0 < length octets → Fails e (prefix_at end octets) → Rest end front octets total
    → Fails e total
ends answers.Memory end front octets total lt h so_far = tt
ends (answers.Fault f) end front octets total lt h so_far =
    fault_ends f end front octets total lt h so_far

all_read : (front : List Cidr) (read total : Result (List Cidr) WireFault) → read ≡ Ok []
    → with_front before front read ≡ total → total ≡ Ok front
all_read front read total none e =
    with_front-done before front read total e [] none
    ∙ ap (λ (ns : List Cidr). Ok ns) (in_front-before front [] ∙ append-nil front)

-- where no octets are left, the prefixes that were read are the answer
pub is_done : (end : ℕ) (front : List Cidr) (octets : List ℕ) (total : Result (List Cidr) WireFault)
    → length octets ≡ 0 → Rest end front octets total → total ≡ Ok front
unfolding prefixes_at
is_done end front (b ∷ octets) total len so_far = absurd (omega arith)
is_done end front [] total len (zero, le, e) = all_read front (prefixes_at zero end []) total refl e
is_done end front [] total len (suc n, le, e) =
    all_read front (prefixes_at (suc n) end []) total refl e

-- ---- attributes

-- what was found of attributes, and octets that hold those still to be read
abbrev pub Attributes : ℕ → Found → List ℕ → Result Found WireFault → Type 0
Attributes end found octets total =
    (n : ℕ) × (length octets ≤ n) × (attributes_at n end found octets ≡ total)

-- one more attribute was read
pub goes_on_with : (end : ℕ) (found : Found) (octets : List ℕ) (more : Found) (after : List ℕ)
    (total : Result Found WireFault)
    → length after < length octets → attribute_at end found octets ≡ Ok (more, after)
    → Attributes end found octets total → Attributes end more after total
unfolding attributes_at
goes_on_with end found [] more after total lt h so_far = absurd (omega arith)
goes_on_with end found (b ∷ octets) more after total lt h (zero, le, e) = absurd (omega arith)
goes_on_with end found (b ∷ octets) more after total lt h (suc n, le, e) =
    let one : attributes_at (suc n) end found (b ∷ octets) ≡ attributes_at n end more after =
    rw h refl in
    (n, omega arith, sym one ∙ e)

fault_ends_with : (f : WireFault) (end : ℕ) (found : Found) (octets : List ℕ)
    (total : Result Found WireFault)
    → 0 < length octets → attribute_at end found octets ≡ Err f → Attributes end found octets total
    → total ≡ Err f
unfolding attributes_at
fault_ends_with f end found [] total lt h so_far = absurd (omega arith)
fault_ends_with f end found (b ∷ octets) total lt h (zero, le, e) = absurd (omega arith)
fault_ends_with f end found (b ∷ octets) total lt h (suc n, le, e) =
    let one : attributes_at (suc n) end found (b ∷ octets) ≡ Err f = rw h refl in
    sym e ∙ one

-- an attribute that is refused is the answer
pub ends_with : (e : WireAnswer) (end : ℕ) (found : Found) (octets : List ℕ)
    (total : Result Found WireFault)
    → 0 < length octets → Fails e (attribute_at end found octets)
    → Attributes end found octets total → Fails e total
ends_with answers.Memory end found octets total lt h so_far = tt
ends_with (answers.Fault f) end found octets total lt h so_far =
    fault_ends_with f end found octets total lt h so_far

-- where no octets are left, what was found is the answer
pub is_done_with : (end : ℕ) (found : Found) (octets : List ℕ) (total : Result Found WireFault)
    → length octets ≡ 0 → Attributes end found octets total → total ≡ Ok found
unfolding attributes_at
is_done_with end found (b ∷ octets) total len so_far = absurd (omega arith)
is_done_with end found [] total len (zero, le, e) = sym e
is_done_with end found [] total len (suc n, le, e) = sym e

-- ---- numbers

-- one more number was read
pub one_more : (numbers : List Asn) (count i : ℕ) (octets : List ℕ) (total : List Asn) → i < count
    → numbers ++ numbers_in (count - i) octets ≡ total
    → (numbers ++ record { 0 = number_4 octets } ∷ [])
    ++ numbers_in (count - (i + 1)) (drop 4 octets)
    ≡ total
one_more numbers count i octets total lt e =
    let k : count - i ≡ suc (count - (i + 1)) = omega arith in
    let one : numbers ++ numbers_in (count - i) octets
    ≡ (numbers ++ record { 0 = number_4 octets } ∷ [])
    ++ numbers_in (count - (i + 1)) (drop 4 octets) =
    rw k (simp append_assoc) in
    sym one ∙ e
