-- Texts that are put one after another.
use Rattle.std.proofs.Common.{◌≡◌, ℕ, ◌+◌, ◌<◌, List, [], ◌∷◌, ◌++◌, length, get_or, take, sym, ap, subst, ◌∙◌, arith, append-nil}
use Rattle.std.specs.List.{concat}
use Rattle.std.specs.Io.KnownBytes.{Appends}
use Rattle.std.proofs.KnownBytes.{Appends-trans}
use Rattle.std.proofs.lemmas.List.{take_more}
use Rattle.std.proofs.lemmas.List.Folds.{concat-append}
use Rattle.cn_outside.specs.Shelf.{IsPut, Printed}
use Rattle.cn_top.specs.Ending.{PutsFirst}

-- one text more
pub puts_more : (texts : List (List ℕ)) (k : ℕ) (text bytes : List ℕ) (before mid after : Printed)
    → k < length texts → text ≡ get_or texts k text → bytes ≡ text
    → PutsFirst k texts before mid → IsPut bytes mid after → PutsFirst (k + 1) texts before after
puts_more texts k text bytes before mid after here is same first one =
    let joined : concat (take k texts) ++ bytes ≡ concat (take (k + 1) texts) =
    ap (λ (xs : List ℕ). concat (take k texts) ++ xs) (same ∙ sym (append-nil text))
    ∙ ap (λ (t : List ℕ). concat (take k texts) ++ concat (t ∷ [])) is
    ∙ sym (concat-append (take k texts) (get_or texts k text ∷ []))
    ∙ ap concat (sym (take_more texts k text here)) in
    record {
      taken = subst (Appends before.taken after.taken) joined
          (Appends-trans before.taken mid.taken after.taken (concat (take k texts)) bytes
          first.taken one.taken);
      puts = omega (arith, first.puts, one.puts);
      faults = omega (arith, first.faults, one.faults);
    }
