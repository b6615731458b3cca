-- What folds over lists give. Other crates may cite this module.
use Rattle.std.proofs.Common.{◌≡◌, Bool, false, List, [], ◌∷◌, ◌++◌, inl, inr, refl, sym, ap, ◌∙◌}
use Rattle.std.specs.List.{filter, fold}
use Rattle.std.proofs.lemmas.Bool.{cases_Bool, cond-false, cond-true}

module _ {A B : Type 0} (f : B → A → B) where
  -- items that a fold passes over may be left out
  pub fold-filter : (keeps : A → Bool) → ((b : B) (x : A) → keeps x ≡ false → f b x ≡ b)
      → (b : B) (xs : List A)
      → fold f b (filter keeps xs) ≡ fold f b xs
  fold-filter keeps passes b [] = refl
  fold-filter keeps passes b (x ∷ xs) =
      elim (cases_Bool (keeps x)) [
        | inl t ↦
            ap (fold f b) (cond-true (keeps x) (x ∷ filter keeps xs) (filter keeps xs) t)
            ∙ fold-filter keeps passes (f b x) xs
        | inr n ↦
            ap (fold f b) (cond-false (keeps x) (x ∷ filter keeps xs) (filter keeps xs) n)
            ∙ fold-filter keeps passes b xs
            ∙ ap (λ (z : B). fold f z xs) (sym (passes b x n))
      ]

  -- a fold over two lists, one behind the other
  pub fold-append : (b : B) (xs ys : List A) → fold f b (xs ++ ys) ≡ fold f (fold f b xs) ys
  fold-append b [] ys = refl
  fold-append b (x ∷ xs) ys = fold-append (f b x) xs ys
