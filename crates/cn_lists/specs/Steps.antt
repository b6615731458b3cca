-- Steps, of which the first that fails gives the answer.
use Rattle.std.specs.Prelude.{Result, Ok, Err}

-- a step, and what is done with its value
infixl 10 ◌>>=◌
abbrev pub ◌>>=◌ : {E A B : Type 0} → Result A E → (A → Result B E) → Result B E
(Ok x) >>= f = f x
(Err e) >>= f = Err e
