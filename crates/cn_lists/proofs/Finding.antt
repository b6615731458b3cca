-- What a list has, what is found in it and what a filter keeps. Other crates may cite this module.
use Rattle.std.proofs.Common.{◌≡◌, ℕ, zero, suc, ◌<◌, ◌≤◌, ◌||◌, ◌⊎◌, Bool, true, false, List, [], ◌∷◌, length, get_or, take, drop, map, flat_map, Option, Some, None, is_some, ltb, option_map, find, refl, sym, ap, subst, ◌∙◌, inl, inr, arith}
use Rattle.std.specs.List.{position, position_or_len, All, AllWithin, Contains, filter, list_any}
use Rattle.std.specs.Option.{option_to_list}
use Rattle.std.proofs.lemmas.Bool.{cases_Bool, cases_lt, cond-false, cond-true, le-ltb, lt-ltb}
use Rattle.std.proofs.lemmas.List.Sums.{fails_before_first, position_or_len_is}
use Rattle.std.proofs.lemmas.List.Quantifiers.{position-Some}
use Rattle.std.proofs.lemmas.List.Elements.{Contains-append_cases, Contains-append_left, Contains-append_right}
use Rattle.std.proofs.lemmas.Option.{none-some, same_Some}

-- ---- options

-- a value stands in an image exactly where it stands in the option
pub is_some-option_map : {X Y : Type 0} (f : X → Y) (o : Option X)
    → is_some (option_map f o) ≡ is_some o
is_some-option_map f None = refl
is_some-option_map f (Some x) = refl

-- an option without a value is None
pub None-from_is_some : {X : Type 0} (o : Option X) → is_some o ≡ false → o ≡ None
None-from_is_some None h = refl
None-from_is_some (Some x) h = absurd (let no : true ≡ false = h in cc)

-- an option with a value is Some of it
pub Some-from_is_some : {X : Type 0} (o : Option X) → is_some o ≡ true → (x : X) × (o ≡ Some x)
Some-from_is_some None h = absurd (let no : false ≡ true = h in cc)
Some-from_is_some (Some x) h = (x, refl)

-- ---- what a list has

-- nothing has no items
pub not_Contains-nil : {X : Type 0} (x : X) → Contains [] x → ⊥
not_Contains-nil x h = let lt = h.1 in omega arith

-- a list has its first item
pub Contains-cons_first : {X : Type 0} (z : X) (xs : List X) → Contains (z ∷ xs) z
Contains-cons_first z xs = (0, omega arith, refl)

-- a list has the items behind its first
pub Contains-cons_later : {X : Type 0} (z : X) (xs : List X) (x : X) → Contains xs x
    → Contains (z ∷ xs) x
Contains-cons_later z xs x h = (suc h.0, omega (arith, h.1), h.2)

-- what a list has is its first item, or stands behind it
pub Contains-cons_cases : {X : Type 0} (z : X) (xs : List X) (x : X) → Contains (z ∷ xs) x
    → (z ≡ x) ⊎ Contains xs x
Contains-cons_cases z xs x (zero, lt, e) = inl e
Contains-cons_cases z xs x (suc k, lt, e) = inr (k, omega arith, e)

-- the image of an item stands among the images
pub Contains-map : {X Y : Type 0} (f : X → Y) (xs : List X) (x : X) (y : Y) → Contains xs x
    → f x ≡ y → Contains (map f xs) y
Contains-map f [] x y h e = absurd (not_Contains-nil x h)
Contains-map f (z ∷ zs) x y (zero, lt, a) e = (0, omega arith, ap f a ∙ e)
Contains-map f (z ∷ zs) x y (suc k, lt, a) e =
    Contains-cons_later (f z) (map f zs) y (Contains-map f zs x y (k, omega arith, a) e)

-- what stands among the images is the image of an item
pub Contains-from_map : {X Y : Type 0} (f : X → Y) (xs : List X) (y : Y) → Contains (map f xs) y
    → (x : X) × Contains xs x × (f x ≡ y)
Contains-from_map f [] y h = absurd (not_Contains-nil y h)
Contains-from_map f (z ∷ zs) y (zero, lt, e) = (z, Contains-cons_first z zs, e)
Contains-from_map f (z ∷ zs) y (suc k, lt, e) =
    let s = Contains-from_map f zs y (k, omega arith, e) in
    (s.0, Contains-cons_later z zs s.0 s.1, s.2)

-- what stands in the list of an item stands in all the lists joined
pub Contains-flat_map : {X Y : Type 0} (f : X → List Y) (xs : List X) (x : X) (y : Y)
    → Contains xs x → Contains (f x) y → Contains (flat_map f xs) y
Contains-flat_map f [] x y h m = absurd (not_Contains-nil x h)
Contains-flat_map f (z ∷ zs) x y (zero, lt, e) m =
    Contains-append_left (f z) (flat_map f zs) y (subst (λ w. Contains (f w) y) (sym e) m)
Contains-flat_map f (z ∷ zs) x y (suc k, lt, e) m =
    Contains-append_right (f z) (flat_map f zs) y (Contains-flat_map f zs x y (k, omega arith, e) m)

-- what stands in joined lists stands in that of one item
pub Contains-from_flat_map : {X Y : Type 0} (f : X → List Y) (xs : List X) (y : Y)
    → Contains (flat_map f xs) y → (x : X) × Contains xs x × Contains (f x) y
Contains-from_flat_map f [] y h = absurd (not_Contains-nil y h)
Contains-from_flat_map f (z ∷ zs) y h =
    elim (Contains-append_cases (f z) (flat_map f zs) y h) [
      | inl r ↦ (z, Contains-cons_first z zs, r)
      | inr r ↦
          let s = Contains-from_flat_map f zs y r in
          (s.0, Contains-cons_later z zs s.0 s.1, s.2)
    ]

-- the value of an option stands in its list
pub Contains-option_to_list : {X : Type 0} (o : Option X) (x : X) → o ≡ Some x
    → Contains (option_to_list o) x
Contains-option_to_list None x e = absurd (none-some x e)
Contains-option_to_list (Some y) x e = (0, omega arith, same_Some y x e)

-- what stands in the list of an option is its value
pub Contains-from_option_to_list : {X : Type 0} (o : Option X) (x : X)
    → Contains (option_to_list o) x → o ≡ Some x
Contains-from_option_to_list None x h = absurd (not_Contains-nil x h)
Contains-from_option_to_list (Some y) x (zero, lt, e) = ap Some e
Contains-from_option_to_list (Some y) x (suc k, lt, e) = absurd (omega arith)

-- ---- what is found

module _ {X : Type 0} (p : X → Bool) where
  -- nothing is found where no item passes
  pub find-none : (xs : List X) → All (λ x. p x ≡ false) xs → find p xs ≡ None
  find-none [] fails = refl
  find-none (x ∷ xs) fails =
      rw (fails 0 x (omega arith)) (find-none xs (λ k d lt. fails (suc k) d (omega arith)))

  -- the first item that passes is found
  pub find-first : (xs : List X) (i : ℕ) (d : X) → i < length xs
      → ((k : ℕ) → k < i → p (get_or xs k d) ≡ false) → p (get_or xs i d) ≡ true
      → find p xs ≡ Some (get_or xs i d)
  find-first [] i d inside before here = absurd (omega arith)
  find-first (x ∷ xs) zero d inside before here = rw here refl
  find-first (x ∷ xs) (suc i) d inside before here =
      rw (before 0 (omega arith))
      (find-first xs i d (omega arith) (λ k lt. before (suc k) (omega arith)) here)

  -- something is found where an item passes
  pub is_some-find : (xs : List X) (x : X) → Contains xs x → p x ≡ true → is_some (find p xs) ≡ true
  is_some-find [] x h t = absurd (not_Contains-nil x h)
  is_some-find (z ∷ zs) x (zero, lt, e) t =
      ap is_some (cond-true (p z) (Some z) (find p zs) (ap p e ∙ t))
  is_some-find (z ∷ zs) x (suc k, lt, e) t =
      elim (cases_Bool (p z)) [
        | inl s ↦ ap is_some (cond-true (p z) (Some z) (find p zs) s)
        | inr s ↦
            ap is_some (cond-false (p z) (Some z) (find p zs) s)
            ∙ is_some-find zs x (k, omega arith, e) t
      ]

  -- what is found stands in the list, and passes
  pub Contains-from_find : (xs : List X) (x : X) → find p xs ≡ Some x → Contains xs x × (p x ≡ true)
  Contains-from_find [] x e = absurd (none-some x e)
  Contains-from_find (z ∷ zs) x e =
      elim (cases_Bool (p z)) [
        | inl t ↦
            let same = same_Some z x (sym (cond-true (p z) (Some z) (find p zs) t) ∙ e) in
            ((0, omega arith, same), ap p (sym same) ∙ t)
        | inr f ↦
            let later =
            Contains-from_find zs x (sym (cond-false (p z) (Some z) (find p zs) f) ∙ e) in
            (Contains-cons_later z zs x later.0, later.1)
      ]

  -- where something is found, an item passes
  pub Contains-from_is_some_find : (xs : List X) → is_some (find p xs) ≡ true
      → (x : X) × Contains xs x × (p x ≡ true)
  Contains-from_is_some_find xs h =
      let found = Some-from_is_some (find p xs) h in
      let it = Contains-from_find xs found.0 found.1 in
      (found.0, it.0, it.1)

  -- where nothing is found, no item passes
  pub All-from_find_none : (xs : List X) → find p xs ≡ None → All (λ x. p x ≡ false) xs
  All-from_find_none xs none k d lt =
      elim (cases_Bool (p (get_or xs k d))) [
        | inl t ↦
            let some = is_some-find xs (get_or xs k d) (k, lt, stays xs k d lt) t in
            absurd (let no : true ≡ false = sym some ∙ ap is_some none in cc)
        | inr f ↦ f
      ]
    where
      stays : (ys : List X) (j : ℕ) (e : X) → j < length ys
          → get_or ys j (get_or ys j e) ≡ get_or ys j e
      stays [] j e lt = absurd (omega arith)
      stays (y ∷ ys) zero e lt = refl
      stays (y ∷ ys) (suc j) e lt = stays ys j e (omega arith)

-- the place of the first item that passes
pub position-first : {X : Type 0} (p : X → Bool) (xs : List X) (i : ℕ) → i < length xs
    → ((d : X) (k : ℕ) → k < i → p (get_or xs k d) ≡ false)
    → ((d : X) → p (get_or xs i d) ≡ true) → position p xs ≡ Some i
position-first p [] i inside before here = absurd (omega arith)
position-first p (x ∷ xs) i inside before here =
    let at : position_or_len p (x ∷ xs) ≡ i =
    position_or_len_is p (x ∷ xs) i x (omega arith) (before x) (λ _. here x) in
    let within : ltb (position_or_len p (x ∷ xs)) (length (x ∷ xs)) ≡ true =
    lt-ltb _ _ (omega arith) in
    cond-true (ltb (position_or_len p (x ∷ xs)) (length (x ∷ xs)))
    (Some (position_or_len p (x ∷ xs))) None within
    ∙ ap Some at

-- no place where no item passes
pub position-none : {X : Type 0} (p : X → Bool) (xs : List X) → All (λ x. p x ≡ false) xs
    → position p xs ≡ None
position-none p [] none = refl
position-none p (x ∷ xs) none =
    let at : position_or_len p (x ∷ xs) ≡ length (x ∷ xs) =
    position_or_len_is p (x ∷ xs) (length (x ∷ xs)) x (omega arith) (λ k lt. none k x lt)
    (λ lt. absurd (omega arith)) in
    let within : ltb (position_or_len p (x ∷ xs)) (length (x ∷ xs)) ≡ false =
    le-ltb _ _ (omega arith) in
    cond-false (ltb (position_or_len p (x ∷ xs)) (length (x ∷ xs)))
    (Some (position_or_len p (x ∷ xs))) None within

-- what stands at the first place that passes is found
pub find-position : {X : Type 0} (p : X → Bool) (xs : List X) (i : ℕ) (d : X)
    → position p xs ≡ Some i → find p xs ≡ Some (get_or xs i d)
find-position p xs i d e =
    let h = position-Some p xs i d e in
    find-first p xs i d h.0 h.2 h.1

-- nothing is found where no place passes
pub find-no_position : {X : Type 0} (p : X → Bool) (xs : List X) → position p xs ≡ None
    → find p xs ≡ None
find-no_position p xs e =
    let n = position_or_len p xs in
    let past : length xs ≤ n = elim (cases_lt n (length xs)) [
      | inl below ↦
          absurd (none-some n
          (sym e ∙ cond-true (ltb n (length xs)) (Some n) None (lt-ltb n (length xs) below)))
      | inr le ↦ le
    ] in
    find-none p xs (λ k d lt. fails_before_first p xs k d (omega arith))

-- tests that agree find the same
pub find-agree : {X : Type 0} (p q : X → Bool) → ((x : X) → p x ≡ q x) → (xs : List X)
    → find p xs ≡ find q xs
find-agree p q same xs = λ i. find (λ x. same x i) xs

-- a search among images is the image of a search
pub find-map : {X Y : Type 0} (p : Y → Bool) (f : X → Y) (xs : List X)
    → find p (map f xs) ≡ option_map f (find (λ x. p (f x)) xs)
find-map p f [] = refl
find-map p f (x ∷ xs) =
    elim (cases_Bool (p (f x))) [
      | inl t ↦
          cond-true (p (f x)) (Some (f x)) (find p (map f xs)) t
          ∙ sym (ap (option_map f) (cond-true (p (f x)) (Some x) (find (λ y. p (f y)) xs) t))
      | inr n ↦
          cond-false (p (f x)) (Some (f x)) (find p (map f xs)) n ∙ find-map p f xs
          ∙ sym (ap (option_map f) (cond-false (p (f x)) (Some x) (find (λ y. p (f y)) xs) n))
    ]

-- a test of the images is that test of what they are made from
pub list_any-map : {X Y : Type 0} (p : Y → Bool) (f : X → Y) (xs : List X)
    → list_any p (map f xs) ≡ list_any (λ x. p (f x)) xs
list_any-map p f [] = refl
list_any-map p f (x ∷ xs) = ap (λ (b : Bool). p (f x) || b) (list_any-map p f xs)

-- ---- what a filter keeps

module _ {X : Type 0} (p : X → Bool) where
  -- nothing is kept where no item passes
  pub filter-none : (xs : List X) → All (λ x. p x ≡ false) xs → filter p xs ≡ []
  filter-none [] none = refl
  filter-none (x ∷ xs) none =
      cond-false (p x) (x ∷ filter p xs) (filter p xs) (none 0 x (omega arith))
      ∙ filter-none xs (λ k d lt. none (suc k) d (omega (arith, lt)))

  -- all is kept where all items pass
  pub filter-all : (xs : List X) → All (λ x. p x ≡ true) xs → filter p xs ≡ xs
  filter-all [] all = refl
  filter-all (x ∷ xs) all =
      cond-true (p x) (x ∷ filter p xs) (filter p xs) (all 0 x (omega arith))
      ∙ ap (λ ys. x ∷ ys) (filter-all xs (λ k d lt. all (suc k) d (omega (arith, lt))))

  -- the first items may be left out where none of them passes
  pub filter-drop : (xs : List X) (n : ℕ) → AllWithin (λ x. p x ≡ false) xs 0 n
      → filter p (drop n xs) ≡ filter p xs
  filter-drop [] zero none = refl
  filter-drop [] (suc n) none = refl
  filter-drop (x ∷ xs) zero none = refl
  filter-drop (x ∷ xs) (suc n) none =
      filter-drop xs n (λ k d low lt. none (suc k) d (omega arith) (omega (arith, lt)))
      ∙ sym
      (cond-false (p x) (x ∷ filter p xs) (filter p xs) (none 0 x (omega arith) (omega arith)))

  -- the last items may be left out where none of them passes
  pub filter-take : (xs : List X) (n : ℕ) → AllWithin (λ x. p x ≡ false) xs n (length xs)
      → filter p (take n xs) ≡ filter p xs
  filter-take [] zero none = refl
  filter-take [] (suc n) none = refl
  filter-take (x ∷ xs) zero none = sym (filter-none (x ∷ xs) (λ k d lt. none k d (omega arith) lt))
  filter-take (x ∷ xs) (suc n) none =
      let more =
      filter-take xs n (λ k d low lt. none (suc k) d (omega (arith, low)) (omega (arith, lt))) in
      elim (cases_Bool (p x)) [
        | inl t ↦
            cond-true (p x) (x ∷ filter p (take n xs)) (filter p (take n xs)) t
            ∙ ap (λ ys. x ∷ ys) more
            ∙ sym (cond-true (p x) (x ∷ filter p xs) (filter p xs) t)
        | inr f ↦
            cond-false (p x) (x ∷ filter p (take n xs)) (filter p (take n xs)) f ∙ more
            ∙ sym (cond-false (p x) (x ∷ filter p xs) (filter p xs) f)
      ]

  -- an item that passes is kept
  pub Contains-filter : (xs : List X) (x : X) → Contains xs x → p x ≡ true
      → Contains (filter p xs) x
  Contains-filter [] x h t = absurd (not_Contains-nil x h)
  Contains-filter (z ∷ zs) x (zero, lt, e) t =
      subst (λ ys. Contains ys x)
      (sym (cond-true (p z) (z ∷ filter p zs) (filter p zs) (ap p e ∙ t))) (0, omega arith, e)
  Contains-filter (z ∷ zs) x (suc k, lt, e) t =
      let more = Contains-filter zs x (k, omega arith, e) t in
      elim (cases_Bool (p z)) [
        | inl s ↦
            subst (λ ys. Contains ys x) (sym (cond-true (p z) (z ∷ filter p zs) (filter p zs) s))
            (Contains-cons_later z (filter p zs) x more)
        | inr s ↦
            subst (λ ys. Contains ys x) (sym (cond-false (p z) (z ∷ filter p zs) (filter p zs) s))
            more
      ]

  -- what is kept stood in the list
  pub Contains-from_filter : (xs : List X) (x : X) → Contains (filter p xs) x → Contains xs x
  Contains-from_filter [] x h = h
  Contains-from_filter (z ∷ zs) x h =
      elim (cases_Bool (p z)) [
        | inl s ↦
            let kept =
            subst (λ ys. Contains ys x) (cond-true (p z) (z ∷ filter p zs) (filter p zs) s) h in
            elim (Contains-cons_cases z (filter p zs) x kept) [
              | inl e ↦ (0, omega arith, e)
              | inr later ↦ Contains-cons_later z zs x (Contains-from_filter zs x later)
            ]
        | inr s ↦
            Contains-cons_later z zs x
            (Contains-from_filter zs x
            (subst (λ ys. Contains ys x) (cond-false (p z) (z ∷ filter p zs) (filter p zs) s) h))
      ]
