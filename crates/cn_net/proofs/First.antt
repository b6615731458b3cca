-- The first fault of a list, one element after another, and what an answer tells of it.
use Rattle.std.proofs.Common.{◌≡◌, ℕ, ◌+◌, ◌<◌, ◌≤◌, Bool, true, false, List, [], ◌∷◌, ◌++◌, length, get_or, take, drop, refl, sym, ◌∙◌, ap, subst, Option, Some, None}
use Rattle.std.proofs.lemmas.List.{append-nil, append_assoc, drop_all, drop_more, take_more}
use Rattle.cn_net.specs.Faults.{◌or_else◌, IsFirstNetFault, fault_if, first_from, first_in}
use Rattle.cn_net.specs.declared.fault.NetAnswer.{NetAnswer}
use Rattle.cn_net.specs.declared.fault.NetAnswer.TheVariants.{Fault, Memory}
use Rattle.cn_net.specs.declared.fault.NetFault.{NetFault}

-- ---- the first of two

pub is_first : {F : Type 0} (x y : Option F) (f : F) → x ≡ Some f → (x or_else y) ≡ Some f
is_first x y f e = ap (λ o. o or_else y) e

pub is_second : {F : Type 0} (x y : Option F) → x ≡ None → (x or_else y) ≡ y
is_second x y e = ap (λ o. o or_else y) e

-- where there is none of two, there is neither
pub neither : {F : Type 0} (x y : Option F) → (x or_else y) ≡ None → (x ≡ None) × (y ≡ None)
neither None y e = (refl, e)
neither (Some f) y e = absurd cc

pub not_found : {F : Type 0} (b : Bool) (f : F) → fault_if b f ≡ None → b ≡ false
not_found true f e = absurd cc
not_found false f e = refl

pub found : {F : Type 0} (b : Bool) (f : F) → b ≡ true → fault_if b f ≡ Some f
found b f e = ap (λ t. fault_if t f) e

pub found_none : {F : Type 0} (b : Bool) (f : F) → b ≡ false → fault_if b f ≡ None
found_none b f e = ap (λ t. fault_if t f) e

-- ---- one element after another

-- what is still to be looked at from the element at i on
pub first_at : {X F : Type 0} (fault : List X → X → Option F) (xs : List X) (i : ℕ) (x : X)
    → i < length xs → x ≡ get_or xs i x
    → first_from fault (take i xs) (drop i xs)
    ≡ (fault (take i xs) x or_else first_from fault (take (i + 1) xs) (drop (i + 1) xs))
first_at fault xs i x within is =
    ap (first_from fault (take i xs)) (drop_more xs i x within)
    ∙ (λ j. fault (take i xs) (sym is j) or_else first_from fault (take i xs ++ get_or xs i x ∷ [])
    (drop (i + 1) xs))
    ∙ ap (λ ys. fault (take i xs) x or_else first_from fault ys (drop (i + 1) xs))
    (sym (take_more xs i x within))

-- the element at i has the first fault
pub first_here : {X F : Type 0} (fault : List X → X → Option F) (xs : List X) (i : ℕ) (x : X)
    (f : F)
    → i < length xs → x ≡ get_or xs i x
    → first_in fault xs ≡ first_from fault (take i xs) (drop i xs) → fault (take i xs) x ≡ Some f
    → first_in fault xs ≡ Some f
first_here fault xs i x f within is so e =
    so ∙ first_at fault xs i x within is
    ∙ is_first (fault (take i xs) x) (first_from fault (take (i + 1) xs) (drop (i + 1) xs)) f e

-- the element at i has none
pub first_later : {X F : Type 0} (fault : List X → X → Option F) (xs : List X) (i : ℕ) (x : X)
    → i < length xs → x ≡ get_or xs i x
    → first_in fault xs ≡ first_from fault (take i xs) (drop i xs) → fault (take i xs) x ≡ None
    → first_in fault xs ≡ first_from fault (take (i + 1) xs) (drop (i + 1) xs)
first_later fault xs i x within is so e =
    so ∙ first_at fault xs i x within is
    ∙ is_second (fault (take i xs) x) (first_from fault (take (i + 1) xs) (drop (i + 1) xs)) e

-- none has
pub first_none : {X F : Type 0} (fault : List X → X → Option F) (xs : List X) (i : ℕ)
    → length xs ≤ i
    → first_in fault xs ≡ first_from fault (take i xs) (drop i xs) → first_in fault xs ≡ None
first_none fault xs i past so = so ∙ ap (first_from fault (take i xs)) (drop_all i xs past)

-- where none has a fault, what each element without one adds to holds of them all
pub built : {X F : Type 0} (fault : List X → X → Option F) (P : List X → Type 0)
    → ((before : List X) (x : X) → P before → fault before x ≡ None → P (before ++ x ∷ []))
    → (before xs : List X) → P before → first_from fault before xs ≡ None → P (before ++ xs)
built fault P step before [] p e = subst P (sym (append-nil before)) p
built fault P step before (x ∷ xs) p e =
    let both = neither (fault before x) (first_from fault (before ++ x ∷ []) xs) e in
    subst P (append_assoc before (x ∷ []) xs)
    (built fault P step (before ++ x ∷ []) xs (step before x p both.0) both.1)

-- and what keeps each element from a fault keeps all
pub faultless : {X F : Type 0} (fault : List X → X → Option F) (P : List X → Type 0)
    → ((before : List X) (x : X) (after : List X) → P (before ++ x ∷ after) → fault before x ≡ None)
    → (before xs : List X) → P (before ++ xs) → first_from fault before xs ≡ None
faultless fault P step before [] p = refl
faultless fault P step before (x ∷ xs) p =
    is_second (fault before x) (first_from fault (before ++ x ∷ []) xs) (step before x xs p)
    ∙ faultless fault P step (before ++ x ∷ []) xs
    (subst P (sym (append_assoc before (x ∷ []) xs)) p)

-- ---- answers

-- the first fault of a step is the first of all steps
pub told : (x y : Option NetFault) (e : NetAnswer) → ((f : NetFault) → x ≡ Some f → y ≡ Some f)
    → IsFirstNetFault x e → IsFirstNetFault y e
told x y (Fault f) turn so = turn f so
told x y Memory turn so = tt

-- what is told of one is told of what equals it
pub told_as : (x y : Option NetFault) (e : NetAnswer) → x ≡ y → IsFirstNetFault x e
    → IsFirstNetFault y e
told_as x y e is so = subst (λ o. IsFirstNetFault o e) is so

-- the first fault of a step is the first of this step and the later ones
pub sooner : (x y : Option NetFault) (e : NetAnswer) → IsFirstNetFault x e
    → IsFirstNetFault (x or_else y) e
sooner x y (Fault f) so = is_first x y f so
sooner x y Memory so = tt

-- and where a step finds none, the first of the later ones is the first
pub later : (x y : Option NetFault) (e : NetAnswer) → x ≡ None → IsFirstNetFault y e
    → IsFirstNetFault (x or_else y) e
later x y e none so = told_as y (x or_else y) e (sym (is_second x y none)) so
