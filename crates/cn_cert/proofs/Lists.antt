-- What lists have, and what a search in them finds.
use Rattle.std.proofs.Common.{◌≡◌, zero, suc, Bool, true, List, [], ◌∷◌, filter, map, flat_map, Option, Some, None, is_some, option_map, find, refl, sym, ap, subst, ◌∙◌, inl, inr, arith}
use Rattle.std.proofs.lemmas.Bool.{cases_Bool, cond-true, cond-false, eqb-true, eq-eqb, and_parts, and_from}
use Rattle.std.proofs.lemmas.List.Elements.{All-contains, All-contains_itself, All-filter, Contains-append_left, Contains-append_right, Contains-append_cases, filter_passes}
use Rattle.std.proofs.lemmas.Option.{none-some, same_Some}
use Rattle.std.specs.List.{Contains, cons_option, filter_map}
use Rattle.std.specs.Option.{option_to_list}
use Rattle.cn_base.specs.Cidr.{Cidr, same_prefix}
use Rattle.cn_base.specs.declared.ids.DeviceId.{DeviceId}
use Rattle.cn_net.specs.Network.{same_device}

-- ---- numbers and prefixes

pub same_number : (a b : DeviceId) → same_device a b ≡ true → a ≡ b
same_number a b e = λ i. record { 0 = eqb-true a.0 b.0 e i }

pub number_itself : (a b : DeviceId) → a ≡ b → same_device a b ≡ true
number_itself a b e = eq-eqb a.0 b.0 (ap (λ z. z.0) e)

pub prefix_is : (p q : Cidr) → same_prefix p q ≡ true → p ≡ q
prefix_is p q e =
    let h = and_parts _ _ e in
    let a = eqb-true p.bits q.bits h.0 in
    let b = eqb-true p.len q.len h.1 in
    λ i. record { bits = a i; len = b i }

pub prefix_itself : (p q : Cidr) → p ≡ q → same_prefix p q ≡ true
prefix_itself p q e =
    and_from _ _ (eq-eqb p.bits q.bits (ap (λ z. z.bits) e))
    (eq-eqb p.len q.len (ap (λ z. z.len) e))

-- ---- lists that are made of others

pub has_nothing : {X : Type 0} (x : X) → Contains [] x → ⊥
has_nothing x h = let lt = h.1 in omega arith

has_later : {X : Type 0} (z : X) (xs : List X) (x : X) → Contains xs x → Contains (z ∷ xs) x
has_later z xs x h = (suc h.0, omega (arith, h.1), h.2)

has_first : {X : Type 0} (z : X) (xs : List X) → Contains (z ∷ xs) z
has_first z xs = (0, omega arith, refl)

pub flat_has : {X Y : Type 0} (f : X → List Y) (xs : List X) (x : X) (y : Y)
    → Contains xs x → Contains (f x) y → Contains (flat_map f xs) y
flat_has f [] x y h m = absurd (has_nothing x h)
flat_has f (z ∷ zs) x y (zero, lt, e) m =
    Contains-append_left (f z) (flat_map f zs) y (subst (λ w. Contains (f w) y) (sym e) m)
flat_has f (z ∷ zs) x y (suc k, lt, e) m =
    Contains-append_right (f z) (flat_map f zs) y (flat_has f zs x y (k, omega arith, e) m)

pub flat_from : {X Y : Type 0} (f : X → List Y) (xs : List X) (y : Y) → Contains (flat_map f xs) y
    → (x : X) × Contains xs x × Contains (f x) y
flat_from f [] y h = absurd (has_nothing y h)
flat_from f (z ∷ zs) y h =
    elim (Contains-append_cases (f z) (flat_map f zs) y h) [
      | inl r ↦ (z, has_first z zs, r)
      | inr r ↦ let s = flat_from f zs y r in (s.0, has_later z zs s.0 s.1, s.2)
    ]

pub option_has : {X : Type 0} (o : Option X) (x : X) → o ≡ Some x → Contains (option_to_list o) x
option_has None x e = absurd (none-some x e)
option_has (Some y) x e = (0, omega arith, same_Some y x e)

pub option_from : {X : Type 0} (o : Option X) (x : X) → Contains (option_to_list o) x → o ≡ Some x
option_from None x h = absurd (has_nothing x h)
option_from (Some y) x (zero, lt, e) = ap Some e
option_from (Some y) x (suc k, lt, e) = absurd (omega arith)

pub map_has : {X Y : Type 0} (f : X → Y) (xs : List X) (x : X) (y : Y)
    → Contains xs x → f x ≡ y → Contains (map f xs) y
map_has f [] x y h e = absurd (has_nothing x h)
map_has f (z ∷ zs) x y (zero, lt, a) e = (0, omega arith, ap f a ∙ e)
map_has f (z ∷ zs) x y (suc k, lt, a) e =
    has_later (f z) (map f zs) y (map_has f zs x y (k, omega arith, a) e)

pub map_from : {X Y : Type 0} (f : X → Y) (xs : List X) (y : Y) → Contains (map f xs) y
    → (x : X) × Contains xs x × (f x ≡ y)
map_from f [] y h = absurd (has_nothing y h)
map_from f (z ∷ zs) y (zero, lt, e) = (z, has_first z zs, e)
map_from f (z ∷ zs) y (suc k, lt, e) =
    let s = map_from f zs y (k, omega arith, e) in (s.0, has_later z zs s.0 s.1, s.2)

pub filter_has : {X : Type 0} (p : X → Bool) (xs : List X) (x : X)
    → Contains xs x → p x ≡ true → Contains (filter p xs) x
filter_has p [] x h t = absurd (has_nothing x h)
filter_has {X} p (y ∷ ys) x (zero, lt, e) t =
    let here = cond-true (p y) (y ∷ filter p ys) (filter p ys) (ap p e ∙ t) in
    subst (λ zs. Contains zs x) (sym here) (0, omega arith, e)
filter_has {X} p (y ∷ ys) x (suc k, lt, e) t =
    let r = filter_has p ys x (k, omega arith, e) t in
    elim (cases_Bool (p y)) [
      | inl s ↦
          subst (λ zs. Contains zs x) (sym (cond-true (p y) (y ∷ filter p ys) (filter p ys) s))
          (has_later y (filter p ys) x r)
      | inr s ↦
          subst (λ zs. Contains zs x) (sym (cond-false (p y) (y ∷ filter p ys) (filter p ys) s)) r
    ]

pub filter_from : {X : Type 0} (p : X → Bool) (xs : List X) (x : X) → Contains (filter p xs) x
    → Contains xs x × (p x ≡ true)
filter_from p xs x h = (
  All-contains (Contains xs) (filter p xs) x
      (All-filter p (Contains xs) xs (All-contains_itself xs)) h,
  All-contains (λ z. p z ≡ true) (filter p xs) x (filter_passes p xs) h,
)

pub filter_map_has : {X Y : Type 0} (f : X → Option Y) (xs : List X) (x : X) (y : Y)
    → Contains xs x → f x ≡ Some y → Contains (filter_map f xs) y
filter_map_has f [] x y h e = absurd (has_nothing x h)
filter_map_has f (z ∷ zs) x y (zero, lt, a) e =
    subst (λ o. Contains (cons_option o (filter_map f zs)) y) (sym (ap f a ∙ e))
    (has_first y (filter_map f zs))
filter_map_has {X} {Y} f (z ∷ zs) x y (suc k, lt, a) e =
    behind (f z) (filter_map_has f zs x y (k, omega arith, a) e)
  where
    behind : (o : Option Y) → Contains (filter_map f zs) y
        → Contains (cons_option o (filter_map f zs)) y
    behind None h = h
    behind (Some w) h = has_later w (filter_map f zs) y h

pub filter_map_from : {X Y : Type 0} (f : X → Option Y) (xs : List X) (y : Y)
    → Contains (filter_map f xs) y
    → (x : X) × Contains xs x × (f x ≡ Some y)
filter_map_from f [] y h = absurd (has_nothing y h)
filter_map_from {X} {Y} f (z ∷ zs) y h = go (λ m. filter_map_from f zs y m) (f z) refl h
  where
    go : (Contains (filter_map f zs) y → (x : X) × Contains zs x × (f x ≡ Some y))
        → (o : Option Y) → f z ≡ o → Contains (cons_option o (filter_map f zs)) y
        → (x : X) × Contains (z ∷ zs) x × (f x ≡ Some y)
    go more None e m = let s = more m in (s.0, has_later z zs s.0 s.1, s.2)
    go more (Some w) e (zero, lt, a) = (z, has_first z zs, e ∙ ap Some a)
    go more (Some w) e (suc k, lt, a) =
        let s = more (k, omega arith, a) in (s.0, has_later z zs s.0 s.1, s.2)

-- ---- a search

pub find_some : {X : Type 0} (p : X → Bool) (xs : List X) (x : X)
    → Contains xs x → p x ≡ true → is_some (find p xs) ≡ true
find_some p [] x h t = absurd (has_nothing x h)
find_some p (z ∷ zs) x (zero, lt, e) t =
    ap is_some (cond-true (p z) (Some z) (find p zs) (ap p e ∙ t))
find_some p (z ∷ zs) x (suc k, lt, e) t =
    elim (cases_Bool (p z)) [
      | inl s ↦ ap is_some (cond-true (p z) (Some z) (find p zs) s)
      | inr s ↦
          ap is_some (cond-false (p z) (Some z) (find p zs) s)
          ∙ find_some p zs x (k, omega arith, e) t
    ]

pub find_has : {X : Type 0} (p : X → Bool) (xs : List X) → is_some (find p xs) ≡ true
    → (x : X) × Contains xs x × (p x ≡ true)
find_has p [] e = absurd (cc)
find_has p (z ∷ zs) e =
    elim (cases_Bool (p z)) [
      | inl t ↦ (z, has_first z zs, t)
      | inr s ↦
          let r = find_has p zs (sym (ap is_some (cond-false (p z) (Some z) (find p zs) s)) ∙ e) in
          (r.0, has_later z zs r.0 r.1, r.2)
    ]

pub map_some : {X Y : Type 0} (f : X → Y) (o : Option X) → is_some o ≡ true
    → is_some (option_map f o) ≡ true
map_some f None h = h
map_some f (Some x) h = refl

pub some_map : {X Y : Type 0} (f : X → Y) (o : Option X) → is_some (option_map f o) ≡ true
    → is_some o ≡ true
some_map f None h = h
some_map f (Some x) h = refl
