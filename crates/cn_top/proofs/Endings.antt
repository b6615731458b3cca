-- How a deed ends, from how its write and its puts ended.
use Rattle.std.proofs.Common.{◌≡◌, ℕ, List, Bool, true, false, Err, refl, sym, subst}
use Rattle.std.specs.Str.{bytes_eq}
use Rattle.std.proofs.lemmas.Slice.Eq.{bytes_eq-Decides}
use Rattle.cn_outside.specs.declared.outside.WriteAnswer.{WriteAnswer}
use Rattle.cn_outside.specs.declared.outside.WriteAnswer.TheVariants.{Failed, Memory}
use Rattle.cn_outside.specs.Shelf.{Held, SameAtEach, SameBut, WritesHeld}
use Rattle.cn_outside.specs.Scene.{Scene}
use Rattle.cn_top.specs.Deed.{Deed}
use Rattle.cn_top.specs.Ending.{Ends, IsWritten, PutsTexts, unput, starved}
use Rattle.cn_top.specs.declared.status.Status.TheVariants.{WriteFault, NoMemory}

module _ (before after : Scene) (deed : Deed)
    (written : IsWritten deed.write before.files after.files) where
  pub ends_failed : (texts : List (List ℕ)) (e : WriteAnswer) → texts ≡ deed.puts → e ≡ Failed
      → PutsTexts texts before.printed after.printed (Err e) → Ends before after deed WriteFault
  ends_failed texts e same is h =
      let p =
      subst (λ (x : WriteAnswer). PutsTexts deed.puts before.printed after.printed (Err x)) is
      (subst (λ (xs : List (List ℕ)). PutsTexts xs before.printed after.printed (Err e)) same h) in
      unput p.0 p.1 refl written p.2

  pub ends_hungry : (texts : List (List ℕ)) (e : WriteAnswer) → texts ≡ deed.puts → e ≡ Memory
      → PutsTexts texts before.printed after.printed (Err e) → Ends before after deed NoMemory
  ends_hungry texts e same is h =
      let p =
      subst (λ (x : WriteAnswer). PutsTexts deed.puts before.printed after.printed (Err x)) is
      (subst (λ (xs : List (List ℕ)). PutsTexts xs before.printed after.printed (Err e)) same h) in
      starved p.0 p.1 refl written p.2

-- ---- a write for which memory ran out

by_test : {P : Type 0} (b : Bool) → (b ≡ true → P) → (b ≡ false → P) → P
by_test true f g = f refl
by_test false f g = g refl

-- the same at this name and at each other
pub same_at_all : {V : Type 0} (name : List ℕ) (f g : List ℕ → V) → SameBut name f g
    → g name ≡ f name → SameAtEach f g
same_at_all name f g others own n =
    by_test (bytes_eq n name)
    (λ t. subst (λ (m : List ℕ). g m ≡ f m) (sym ((bytes_eq-Decides n name).0 t)) own)
    (λ h. others n
    (λ e. let t : bytes_eq n name ≡ true = (bytes_eq-Decides n name).1 e in absurd cc))

pub held_hungry : (bytes : List ℕ) (before now : Held) (e : WriteAnswer) → e ≡ Memory
    → WritesHeld bytes before now (Err e) → now ≡ before
held_hungry bytes before now e is h =
    subst (λ (x : WriteAnswer). WritesHeld bytes before now (Err x)) is h
