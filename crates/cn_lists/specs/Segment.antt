-- Where the items that tie with a key stand in a list that ascends.
use Rattle.std.specs.Prelude.{◌≡◌, ℕ, ◌≤◌, List, length}
use Rattle.std.specs.Borrow.{Bor}
use Rattle.std.specs.List.{AllWithin}
use Rattle.std.specs.declared.cmp.Ordering.{Ordering}
use Rattle.std.specs.declared.cmp.Ordering.TheVariants.{Less, Equal, Greater}

-- Calls give the key of an item: by post, what a call returns for a reference to one is its key.
abbrev pub GivesKeys : {X K : Type 0} → (Bor X → K → Type 0) → (X → K) → Type 0
GivesKeys {X} {K} post key_of = (x : Bor X) (k : K) → post x k → k ≡ key_of x.now

-- The items from start up to end are those that tie by this order. Those before them are below, and
-- those behind them above.
pub record IsSegment {X : Type 0} (order : X → Ordering) (xs : List X)
    (start end : ℕ) : Type 0 where
  pub ordered : start ≤ end
  pub inside : end ≤ length xs
  pub below : AllWithin (λ x. order x ≡ Less) xs 0 start
  pub here : AllWithin (λ x. order x ≡ Equal) xs start end
  pub above : AllWithin (λ x. order x ≡ Greater) xs end (length xs)
