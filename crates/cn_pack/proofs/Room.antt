-- As many prefixes as fit: the longest front that the room holds.
use Rattle.std.proofs.Common.{◌≡◌, ℕ, zero, suc, take, ◌+◌, ◌-◌, ◌<◌, ◌≤◌, Bool, true, false, cond, leb, List, [], ◌∷◌, ◌++◌, length, refl, ap, ◌∙◌, arith, length-append}
use Rattle.std.proofs.lemmas.Bool.{leb-true, leb-false}
use Rattle.std.proofs.lemmas.List.{length-take}
use Rattle.std.proofs.lemmas.List.Concat.{flat_map-cons}
use Rattle.cn_base.specs.Cidr.{Cidr}
use Rattle.cn_wire.specs.Numbers.{octets_for, four_octets}
use Rattle.cn_wire.specs.Sizes.{longest_prefix_within}
use Rattle.cn_wire.specs.Writing.{spelled_prefix, spelled_prefixes}

flat_prefixes : (p : Cidr) (ps : List Cidr)
    → spelled_prefixes (p ∷ ps) ≡ spelled_prefix p ++ spelled_prefixes ps
flat_prefixes p ps = rw flat_map-cons refl

size_cons : (p : Cidr) (ps : List Cidr)
    → length (spelled_prefixes (p ∷ ps)) ≡ length (spelled_prefix p) + length (spelled_prefixes ps)
size_cons p ps =
    ap length (flat_prefixes p ps) ∙ length-append (spelled_prefix p) (spelled_prefixes ps)

-- taken is a front of ps that the room holds, and the room holds no longer one
pub record IsLongest (room : ℕ) (ps taken : List Cidr) : Type 0 where
  pub count : ℕ
  pub within : count ≤ length ps
  pub front : taken ≡ take count ps
  pub held : length (spelled_prefixes (take count ps)) ≤ room
  pub more : (j : ℕ) → count < j → j ≤ length ps → room < length (spelled_prefixes (take j ps))

longer : (room : ℕ) (p : Cidr) (ps : List Cidr) (k j : ℕ) → length (spelled_prefix p) ≤ room
    → ((i : ℕ) → k < i → i ≤ length ps
    → room - length (spelled_prefix p) < length (spelled_prefixes (take i ps)))
    → suc k < j → j ≤ length (p ∷ ps) → room < length (spelled_prefixes (take j (p ∷ ps)))
longer room p ps k zero le h lt few = absurd (omega arith)
longer room p ps k (suc j) le h lt few =
    let x : room - length (spelled_prefix p) < length (spelled_prefixes (take j ps)) =
    h j (omega arith) (omega arith) in
    let l = size_cons p (take j ps) in
    omega arith

too_much : (room : ℕ) (p : Cidr) (ps : List Cidr) (j : ℕ) → room < length (spelled_prefix p) → 0 < j
    → room < length (spelled_prefixes (take j (p ∷ ps)))
too_much room p ps zero lt above = absurd (omega arith)
too_much room p ps (suc j) lt above =
    let l = size_cons p (take j ps) in
    omega arith

longest_by : (room : ℕ) (p : Cidr) (ps : List Cidr) (b : Bool)
    → leb (length (spelled_prefix p)) room ≡ b
    → IsLongest (room - length (spelled_prefix p)) ps
    (longest_prefix_within (room - length (spelled_prefix p)) ps)
    → IsLongest room (p ∷ ps) (cond b
    (p ∷ longest_prefix_within (room - length (spelled_prefix p)) ps) [])
longest_by room p ps true e h =
    let le = leb-true (length (spelled_prefix p)) room e in
    record {
      count = suc h.count;
      within = (let x = h.within in omega arith);
      front = ap (λ (t : List Cidr). p ∷ t) h.front;
      held = (let x = h.held in let l = size_cons p (take h.count ps) in omega arith);
      more = λ j lt few. longer room p ps h.count j le h.more lt few;
    }
longest_by room p ps false e h =
    let lt = leb-false (length (spelled_prefix p)) room e in
    record {
      count = 0;
      within = omega arith;
      front = refl;
      held = omega arith;
      more = λ j above few. too_much room p ps j lt above;
    }

-- the prefixes that fit are the longest front that the room holds
pub longest_prefix_within-IsLongest : (room : ℕ) (ps : List Cidr)
    → IsLongest room ps (longest_prefix_within room ps)
longest_prefix_within-IsLongest room [] = record {
  count = 0;
  within = omega arith;
  front = refl;
  held = omega arith;
  more = λ j lt few. absurd (omega arith);
}
longest_prefix_within-IsLongest room (p ∷ ps) =
    longest_by room p ps (leb (length (spelled_prefix p)) room) refl
    (longest_prefix_within-IsLongest (room - length (spelled_prefix p)) ps)

-- a prefix takes at most five octets
prefix_few : (p : Cidr) → length (spelled_prefix p) ≤ 5
prefix_few p = omega (arith, length-take (octets_for p.len) (four_octets p.bits))

first_fits_by : (room : ℕ) (p : Cidr) (ps : List Cidr) (b : Bool)
    → leb (length (spelled_prefix p)) room ≡ b → 5 ≤ room
    → 0 < length (cond b (p ∷ longest_prefix_within (room - length (spelled_prefix p)) ps) [])
first_fits_by room p ps true e le = omega arith
first_fits_by room p ps false e le =
    let lt = leb-false (length (spelled_prefix p)) room e in
    let few = prefix_few p in
    absurd (omega arith)

-- where there is a prefix, the room holds one
pub first_fits : (room : ℕ) (ps : List Cidr) → 5 ≤ room → 0 < length ps
    → 0 < length (longest_prefix_within room ps)
first_fits room [] le lt = absurd (omega arith)
first_fits room (p ∷ ps) le lt =
    first_fits_by room p ps (leb (length (spelled_prefix p)) room) refl le
