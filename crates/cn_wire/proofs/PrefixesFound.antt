-- Prefixes that are read are spelled so.
use Rattle.std.proofs.Common.{◌≡◌, ℕ, zero, suc, ◌-◌, ◌<◌, ◌≤◌, ltb, List, [], ◌∷◌, ◌++◌, length, take, drop, Ok, refl, sym, ap, subst, arith}
use Rattle.std.proofs.lemmas.Bool.{ltb-false}
use Rattle.std.proofs.lemmas.List.{take-append-drop, length-take, length-drop}
use Rattle.cn_lists.proofs.Loops.{Ok-from_bind}
use Rattle.cn_lists.specs.Steps.{◌>>=◌}
use Rattle.cn_base.specs.Cidr.{Cidr}
use Rattle.cn_wire.specs.declared.fault.WireFault.TheVariants.{Bounds, PrefixLength}
use Rattle.cn_wire.specs.Numbers.{octets_for, cidr_of}
use Rattle.cn_wire.specs.Spelling.{SpellsEach, SpellsPrefix}
use Rattle.cn_wire.specs.Reading.{prefix_at, prefixes_at}
use Rattle.cn_wire.proofs.Steps.{guard_ok, ok_is}

prefix_found : (end : ℕ) (octets : List ℕ) (p : Cidr) (rest : List ℕ)
    → prefix_at end octets ≡ Ok (p, rest)
    → (front : List ℕ) × (octets ≡ front ++ rest) × SpellsPrefix front p
    × (length rest < length octets)
unfolding prefix_at
prefix_found end [] p rest e = absurd cc
prefix_found end (len ∷ octets) p rest e =
    let a = guard_ok (ltb 32 len) (PrefixLength (end - length (len ∷ octets)) len) _ (p, rest) e in
    let b =
    guard_ok (ltb (length octets) (octets_for len)) (Bounds (end - length (len ∷ octets)))
    (Ok (cidr_of len (take (octets_for len) octets), drop (octets_for len) octets)) (p, rest) a.1 in
    let short : len ≤ 32 = ltb-false _ _ a.0 in
    let long : octets_for len ≤ length octets = ltb-false _ _ b.0 in
    let k = octets_for len in
    let size : length (take (octets_for len) octets) ≡ octets_for len =
    omega (arith, length-take (octets_for len) octets) in
    let made : (front : List ℕ) × (len ∷ octets ≡ front ++ drop (octets_for len) octets)
    × SpellsPrefix front (cidr_of len (take (octets_for len) octets))
    × (length (drop (octets_for len) octets) < length (len ∷ octets))
    = (
      len ∷ take (octets_for len) octets,
      ap (λ (w : List ℕ). len ∷ w) (sym (take-append-drop (octets_for len) octets)),
      record {
        bits = take (octets_for len) octets;
        parts = refl;
        size = size;
        short = short;
        value = refl;
      },
      omega (arith, length-drop (octets_for len) octets),
    ) in
    subst (λ (x : Cidr × List ℕ). (front : List ℕ) × (len ∷ octets ≡ front ++ x.1)
    × SpellsPrefix front x.0 × (length x.1 < length (len ∷ octets)))
    (ok_is (cidr_of len (take (octets_for len) octets), drop (octets_for len) octets) (p, rest) b.1)
    made

-- prefixes that are read are spelled by the octets
pub prefixes_found : (n end : ℕ) (octets : List ℕ) (ps : List Cidr) → length octets ≤ n
    → prefixes_at n end octets ≡ Ok ps → SpellsEach SpellsPrefix octets ps
unfolding prefixes_at
prefixes_found zero end (len ∷ octets) ps le e = absurd (omega arith)
prefixes_found zero end [] ps le e =
    subst (λ (x : List Cidr). SpellsEach SpellsPrefix [] x) (ok_is [] ps e) refl
prefixes_found (suc n) end [] ps le e =
    subst (λ (x : List Cidr). SpellsEach SpellsPrefix [] x) (ok_is [] ps e) refl
prefixes_found (suc n) end (len ∷ octets) ps le e =
    let a =
    Ok-from_bind (prefix_at end (len ∷ octets))
    (λ first. prefixes_at n end first.1 >>= λ others. Ok (first.0 ∷ others)) ps e in
    let b = Ok-from_bind (prefixes_at n end a.0.1) (λ others. Ok (a.0.0 ∷ others)) ps a.2 in
    let p = prefix_found end (len ∷ octets) a.0.0 a.0.1 a.1 in
    let less : length a.0.1 < length (len ∷ octets) = p.3 in
    let rest = prefixes_found n end a.0.1 b.0 (omega arith) b.1 in
    subst (λ (x : List Cidr). SpellsEach SpellsPrefix (len ∷ octets) x) (ok_is (a.0.0 ∷ b.0) ps b.2)
    (p.0, a.0.1, p.1, p.2, rest)
