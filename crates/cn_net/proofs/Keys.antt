-- Tests that decide `≡`, keys that stand twice, and what lists of keys pass on to the lists that
-- they are read from.
use Rattle.std.proofs.Common.{◌≡◌, ℕ, ◌+◌, ◌<◌, ◌==◌, ◌||◌, Bool, true, false, cond, List, [], ◌∷◌, length, get_or, take, map, refl, sym, ◌∙◌, ap, arith, true≢false, eq-eqb, not}
use Rattle.std.specs.Bool.{Decides}
use Rattle.std.specs.Cmp.{IsEquivalence}
use Rattle.std.specs.List.{IsDistinct, list_any, position_or_len}
use Rattle.std.proofs.lemmas.Bool.{eqb-true}
use Rattle.std.proofs.lemmas.Bool.Decides.{same_from_decides, Decides-and}
use Rattle.std.proofs.lemmas.List.{get_or-take, get_or_default, length-take-le}
use Rattle.std.proofs.lemmas.List.Folds.{Any-from_list_any}
use Rattle.std.proofs.lemmas.Map.Keys.{apart_from_distinct}
use Rattle.cn_base.specs.Cidr.{Cidr, same_prefix}
use Rattle.cn_base.specs.declared.ids.DeviceId.{DeviceId}
use Rattle.cn_base.specs.declared.ids.RouterId.{RouterId}
use Rattle.cn_net.specs.Network.{same_device}
use Rattle.cn_net.specs.Valid.{same_router}

-- ---- tests that decide `≡`

-- such a test is an equivalence
pub equivalence : {K : Type 0} (eq : K → K → Bool) → ((a b : K) → Decides (eq a b) (a ≡ b))
    → IsEquivalence eq
equivalence eq same = record {
  refl = λ x. (same x x).1 refl;
  symm =
      λ x y. same_from_decides (eq x y) (eq y x) (same x y)
      ((λ t. sym ((same y x).0 t)), (λ e. (same y x).1 (sym e)));
  congr = λ x y z t. ap (λ v. eq v z) ((same x y).0 t);
}

pub same_number : (a b : ℕ) → Decides (a == b) (a ≡ b)
same_number a b = (eqb-true a b, eq-eqb a b)

pub same_router-Decides : (a b : RouterId) → Decides (same_router a b) (a ≡ b)
same_router-Decides a b = (
  (λ t. let e = eqb-true a.0 b.0 t in λ i. record { 0 = e i }),
  (λ e. eq-eqb a.0 b.0 (ap (λ x. x.0) e)),
)

pub same_device-Decides : (a b : DeviceId) → Decides (same_device a b) (a ≡ b)
same_device-Decides a b = (
  (λ t. let e = eqb-true a.0 b.0 t in λ i. record { 0 = e i }),
  (λ e. eq-eqb a.0 b.0 (ap (λ x. x.0) e)),
)

pub same_prefix-Decides : (a b : Cidr) → Decides (same_prefix a b) (a ≡ b)
same_prefix-Decides a b =
    let parts = Decides-and (a.bits == b.bits) (a.len == b.len) (same_number a.bits b.bits)
    (same_number a.len b.len) in (
      (λ t. let e = parts.0 t in λ i. record { bits = e.0 i; len = e.1 i }),
      (λ e. parts.1 (ap (λ x. x.bits) e, ap (λ x. x.len) e)),
    )

-- ---- a key that stands twice

pub not_distinct : {K : Type 0} {eq : K → K → Bool} → IsEquivalence eq
    → (xs : List K) (i : ℕ) (d : K) → i < length xs
    → list_any (eq (get_or xs i d)) (take i xs) ≡ true → IsDistinct eq xs → ⊥
not_distinct {eq} laws xs i d within t distinct =
    let a = Any-from_list_any (eq (get_or xs i d)) (take i xs) t in
    let k : ℕ = a.0 in
    let short = length-take-le i xs (omega arith) in
    let below : k < i = omega (arith, a.2, short) in
    let at : get_or (take i xs) k a.1 ≡ get_or xs k a.1 = get_or-take i xs k a.1 below in
    let same : get_or xs k a.1 ≡ a.1 = sym at ∙ a.3 in
    let moved : get_or xs i d ≡ get_or xs i a.1 = get_or_default xs i d a.1 within in
    let apart : eq (get_or xs k a.1) (get_or xs i a.1) ≡ false =
    apart_from_distinct eq xs k i a.1 distinct below within in
    let turned : eq (get_or xs i a.1) (get_or xs k a.1) ≡ false =
    laws.symm (get_or xs i a.1) (get_or xs k a.1) ∙ apart in
    true≢false (sym a.4 ∙ (λ j. eq (moved j) (sym same j)) ∙ turned)

-- ---- lists that are read from others

pub list_any-map : {X Y : Type 0} (p : Y → Bool) (f : X → Y) (xs : List X)
    → list_any p (map f xs) ≡ list_any (λ x. p (f x)) xs
list_any-map p f [] = refl
list_any-map p f (x ∷ xs) = ap (λ b. p (f x) || b) (list_any-map p f xs)

pub position_or_len-map : {X Y : Type 0} (p : Y → Bool) (f : X → Y) (xs : List X)
    → position_or_len p (map f xs) ≡ position_or_len (λ x. p (f x)) xs
position_or_len-map p f [] = refl
position_or_len-map p f (x ∷ xs) =
    ap (λ n. cond (not (p (f x))) (1 + n) 0) (position_or_len-map p f xs)
