-- How the counts of some sessions are made anew, one after another.
use Rattle.std.proofs.Common.{◌≡◌, ℕ, ◌<◌, ◌≤◌, List, get_or, length, inl, inr, arith}
use Rattle.std.specs.Prelude.{◌⊎◌}
use Rattle.std.proofs.lemmas.Bool.{cases_lt}
use Rattle.cn_core.specs.declared.owed.Owed.{Owed}
use Rattle.cn_core.specs.OwedLists.{count_of}

-- the sessions at the places from `start` up to `at` are counted, and elsewhere the counts are as
-- they were
pub record AreCountedFrom (start end at : ℕ) (lists : List Owed) (old new : List ℕ) : Type 0 where
  pub many : length new ≡ length old
  pub these : (k : ℕ) (y : Owed) → start ≤ k → k < at
      → get_or new k 0 ≡ count_of (get_or lists k y)
  pub elsewhere : (k : ℕ) → (k < start) ⊎ (at ≤ k) → get_or new k 0 ≡ get_or old k 0
  pub last : (at ≤ end) ⊎ (at ≡ start)

-- in the end they are so outside of all these places
pub counted-elsewhere : (start end at : ℕ) (lists : List Owed) (old new : List ℕ)
    → AreCountedFrom start end at lists old new → (k : ℕ) → (k < start) ⊎ (end ≤ k)
    → get_or new k 0 ≡ get_or old k 0
counted-elsewhere start end at lists old new is k (inl before) = is.elsewhere k (inl before)
counted-elsewhere start end at lists old new is k (inr behind) = elim (cases_lt k at) [
  | inr past ↦ is.elsewhere k (inr past)
  | inl below ↦ elim is.last [
    | inl within ↦ absurd (omega (arith, below, within, behind))
    | inr first ↦ is.elsewhere k (inl (omega (arith, below, first)))
  ]
]
