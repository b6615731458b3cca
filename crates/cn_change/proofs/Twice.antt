-- The first key that stands in a list before, as a loop finds it.
use Rattle.std.proofs.Common.{◌≡◌, ℕ, ◌+◌, ◌<◌, ◌++◌, ◌∷◌, [], Bool, true, false, if◌then◌else◌, List, length, get_or, take, drop, map, Option, Some, sym, ap, ◌∙◌}
use Rattle.std.specs.List.{list_any}
use Rattle.std.proofs.lemmas.List.{get_or-map, length-map}
use Rattle.cn_change.specs.Journal.{first_twice}
use Rattle.cn_net.specs.Faults.{fault_if, first_from}
use Rattle.cn_net.proofs.First.{first_here, first_later, found, found_none}
use Rattle.cn_net.proofs.Steps.{put_more}

-- a key that stands before it is the fault of an element
abbrev pub repeat_of : {K : Type 0} → (K → K → Bool) → List K → K → Option K
repeat_of same before k = fault_if (list_any (same k) before) k

-- the keys before the place are looked through, and none of them stood before
pub record IsSearched {K : Type 0} (same : K → K → Bool) (keys : List K) (i : ℕ)
    (seen : List K) : Type 0 where
  pub before : seen ≡ take i keys
  pub first : first_twice same keys ≡ first_from (repeat_of same) (take i keys) (drop i keys)

module _ {X K : Type 0} (same : K → K → Bool) (f : X → K) (xs : List X) (i : ℕ) (x : X)
    (before : List K) (inside : i < length xs) (is : x ≡ get_or xs i x)
    (so : IsSearched same (map f xs) i before) where
  within : i < length (map f xs)
  within = rw length-map inside

  here : f x ≡ get_or (map f xs) i (f x)
  here = ap f is ∙ sym (get_or-map f xs i x (f x) inside)

  stood : (t : Bool) → list_any (same (f x)) before ≡ t
      → list_any (same (f x)) (take i (map f xs)) ≡ t
  stood t e = ap (list_any (same (f x))) (sym so.before) ∙ e

  -- the key at the place stood before
  pub first_twice-here : list_any (same (f x)) before ≡ true
      → first_twice same (map f xs) ≡ Some (f x)
  first_twice-here t =
      first_here (repeat_of same) (map f xs) i (f x) (f x) within here so.first
      (found (list_any (same (f x)) (take i (map f xs))) (f x) (stood true t))

  -- it didn't, and the next is looked at
  pub first_twice-later : (new : List K) → list_any (same (f x)) before ≡ false
      → new ≡ (if list_any (same (f x)) before then before else (before ++ f x ∷ []))
      → IsSearched same (map f xs) (i + 1) new
  first_twice-later new fresh put =
      let pushed : new ≡ before ++ f x ∷ [] =
      put ∙ ap (λ t. if t then before else (before ++ f x ∷ [])) fresh in
      record {
        before = put_more (map f xs) i (f x) within here before new so.before pushed;
        first =
            first_later (repeat_of same) (map f xs) i (f x) within here so.first
            (found_none (list_any (same (f x)) (take i (map f xs))) (f x) (stood false fresh));
      }
