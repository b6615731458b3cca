-- A text is an ORIGIN as a whole exactly where it is its word.
use Rattle.std.proofs.Common.{◌≡◌, inl, inr, ℕ, cond, List, Option, Some, None, refl, ap, ◌∙◌}
use Rattle.std.specs.Str.{bytes_eq}
use Rattle.std.proofs.lemmas.Bool.{cases_Bool}
use Rattle.std.proofs.lemmas.Slice.Eq.{bytes_eq-Decides}
use Rattle.cn_base.specs.declared.ids.Origin.{Origin}
use Rattle.cn_base.specs.declared.ids.Origin.TheVariants.{Igp, Egp, Incomplete}
use Rattle.cn_text.specs.Printed.{origin_text}
use Rattle.cn_text.specs.Atoms.{origin_of}

word_is : (text : List ℕ) (word : Origin) (others : Option Origin) (origin : Origin)
    → cond (bytes_eq text (origin_text word)) (Some word) others ≡ Some origin
    → (others ≡ Some origin → text ≡ origin_text origin) → text ≡ origin_text origin
word_is text word others origin e later =
    elim (cases_Bool (bytes_eq text (origin_text word))) [
      | inl t ↦
          let k : ◌≡◌ {A = Option Origin} (Some word) (Some origin) = rw t at e in
          let same : word ≡ origin = cc k in
          (bytes_eq-Decides text (origin_text word)).0 t ∙ ap origin_text same
      | inr f ↦ later (rw f at e)
    ]

-- a text that is an ORIGIN as a whole is its word
pub origin_is_text : (text : List ℕ) (origin : Origin) → origin_of text ≡ Some origin
    → text ≡ origin_text origin
origin_is_text text origin e =
    word_is text Igp _ origin e (λ e2. word_is text Egp _ origin e2
    (λ e3. word_is text Incomplete None origin e3 (λ none. absurd (cc none))))

-- an ORIGIN's word is that ORIGIN as a whole
pub origin_of-origin_text : (origin : Origin) → origin_of (origin_text origin) ≡ Some origin
origin_of-origin_text Igp = refl
origin_of-origin_text Egp = refl
origin_of-origin_text Incomplete = refl
