-- What is there in the sense of classical logic. Proofs here are constructive: to say that a thing
-- is there they have to give it. Where a law says only that it can't be missing, it says this.

-- A can't be missing: that it isn't there is refuted
abbrev pub Classically : Type 0 → Type 0
Classically A = (A → ⊥) → ⊥
