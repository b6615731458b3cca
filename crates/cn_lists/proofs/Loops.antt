-- Steps of which the first that fails gives the answer, and readers that go on item by item, as a
-- loop does. Other crates may cite this module.
use Rattle.std.proofs.Common.{◌≡◌, List, [], ◌∷◌, ◌++◌, Result, Ok, Err, refl, sym, ap, ◌∙◌}
use Rattle.cn_lists.specs.Steps.{◌>>=◌}

-- ---- steps

module _ {E A B : Type 0} (r : Result A E) (f : A → Result B E) where
  -- steps that succeed: the first gave a value, with which the others succeed
  pub Ok-from_bind : (y : B) → (r >>= f) ≡ Ok y → (x : A) × (r ≡ Ok x) × (f x ≡ Ok y)
  Ok-from_bind y e = parts r e
    where
      parts : (s : Result A E) → (s >>= f) ≡ Ok y → (x : A) × (s ≡ Ok x) × (f x ≡ Ok y)
      parts (Ok x) e = (x, refl, e)
      parts (Err z) e = absurd (let no : ◌≡◌ {A = Result B E} (Err z) (Ok y) = e in cc)

  -- what follows from the first step, and from the others with its value
  pub from_Ok_bind : {G : Type 0} (y : B) → (r >>= f) ≡ Ok y
      → ((x : A) → r ≡ Ok x → f x ≡ Ok y → G) → G
  from_Ok_bind y e go = let s = Ok-from_bind y e in go s.0 s.1 s.2

  -- after a step that succeeds, the others give the answer
  pub bind-Ok : (x : A) (y : Result B E) → r ≡ Ok x → f x ≡ y → (r >>= f) ≡ y
  bind-Ok x y e h = ap (λ (s : Result A E). s >>= f) e ∙ h

  -- a step that fails gives the answer
  pub bind-Err : (z : E) → r ≡ Err z → (r >>= f) ≡ Err z
  bind-Err z e = ap (λ (s : Result A E). s >>= f) e

-- ---- a reader that puts each item in front of what it still reads

-- items that were read, in front of what was read behind them
abbrev pub in_front : {A B : Type 0} → (A → B → B) → List A → B → B
in_front put [] rest = rest
in_front put (x ∷ xs) rest = put x (in_front put xs rest)

-- items that were read, in front of what is still read
abbrev pub with_front : {E A B : Type 0} → (A → B → B) → List A → Result B E → Result B E
with_front put front read = read >>= λ rest. Ok (in_front put front rest)

-- one more item behind those in front
pub in_front-push : {A B : Type 0} (put : A → B → B) (front : List A) (x : A) (rest : B)
    → in_front put (front ++ x ∷ []) rest ≡ in_front put front (put x rest)
in_front-push put [] x rest = refl
in_front-push put (y ∷ ys) x rest = ap (put y) (in_front-push put ys x rest)

module _ {E A B : Type 0} (put : A → B → B) where
  regroup : (front : List A) (x : A) (read : Result B E)
      → with_front put front (read >>= λ rest. Ok (put x rest))
      ≡ with_front put (front ++ x ∷ []) read
  regroup front x (Ok rest) = ap (λ (b : B). Ok b) (sym (in_front-push put front x rest))
  regroup front x (Err e) = refl

  module _ (front : List A) (read total : Result B E)
      (so_far : with_front put front read ≡ total) where
    -- the next item was read
    pub with_front-more : (x : A) (later : Result B E) → read ≡ (later >>= λ rest. Ok (put x rest))
        → with_front put (front ++ x ∷ []) later ≡ total
    with_front-more x later e =
        sym (regroup front x later) ∙ ap (with_front put front) (sym e) ∙ so_far

    -- the next item could not be read
    pub with_front-failed : (z : E) → read ≡ Err z → total ≡ Err z
    with_front-failed z e = sym so_far ∙ ap (with_front put front) e

    -- all was read
    pub with_front-done : (rest : B) → read ≡ Ok rest → total ≡ Ok (in_front put front rest)
    with_front-done rest e = sym so_far ∙ ap (with_front put front) e

-- ---- readers of lists, and of lists with what stands behind them

-- an item in front of a list
abbrev pub before : {A : Type 0} → A → List A → List A
before x xs = x ∷ xs

-- items in front of a list
pub in_front-before : {A : Type 0} (front rest : List A)
    → in_front before front rest ≡ front ++ rest
in_front-before [] rest = refl
in_front-before (x ∷ xs) rest = ap (λ ys. x ∷ ys) (in_front-before xs rest)

-- an item in front of a list that comes with something else
abbrev pub before_with : {A S : Type 0} → A → List A × S → List A × S
before_with x xs = (x ∷ xs.0, xs.1)

-- items in front of a list that comes with something else
pub in_front-before_with : {A S : Type 0} (front rest : List A) (s : S)
    → in_front before_with front (rest, s) ≡ (front ++ rest, s)
in_front-before_with [] rest s = refl
in_front-before_with (x ∷ xs) rest s = ap (before_with x) (in_front-before_with xs rest s)
