-- Files that are read one after another.
use Rattle.std.proofs.Common.{◌≡◌, ◌≢◌, ◌<◌, ℕ, suc, zero, ◌+◌, inl, inr, List, [], ◌∷◌, ◌++◌, length, get_or, take, Err, refl, sym, ap, subst, ◌∙◌, arith}
use Rattle.cn_outside.specs.Shelf.{Files, Held, MayBeLonger, MayHold, ReadsHeld, RisesOnce, SameAtEach, absent, holds, untold}
use Rattle.cn_outside.specs.declared.outside.ReadAnswer.{ReadAnswer}
use Rattle.cn_outside.specs.declared.outside.ReadAnswer.TheVariants.{TooLong}
use Rattle.cn_top.specs.Form.{Among, SameOutside}
use Rattle.cn_top.specs.Reading.{HasRead, RisesEach}

-- ---- counts

pub rises_before : (name : List ℕ) (f g h : List ℕ → ℕ) → RisesOnce name f g → SameAtEach g h
    → RisesOnce name f h
rises_before name f g h r same =
    record { rises = same name ∙ r.rises; others = λ n ne. same n ∙ r.others n ne }

pub rises_after : (name : List ℕ) (f g h : List ℕ → ℕ) → SameAtEach f g → RisesOnce name g h
    → RisesOnce name f h
rises_after name f g h same r = record {
  rises = omega (arith, r.rises, same name);
  others = λ n ne. r.others n ne ∙ same n;
}

each_after : (names : List (List ℕ)) (f g h : List ℕ → ℕ) → SameAtEach f g → RisesEach names g h
    → RisesEach names f h
each_after [] f g h same r = λ n. r n ∙ same n
each_after (x ∷ names) f g h same (mid, one, more) = (mid, rises_after x f g mid same one, more)

pub each_more : (names others : List (List ℕ)) (f g h : List ℕ → ℕ) → RisesEach names f g
    → RisesEach others g h → RisesEach (names ++ others) f h
each_more [] others f g h r s = each_after others f g h r s
each_more (x ∷ names) others f g h (mid, one, more) s =
    (mid, one, each_more names others mid g h more s)

pub each_before : (names : List (List ℕ)) (f g h : List ℕ → ℕ) → RisesEach names f g
    → SameAtEach g h → RisesEach names f h
each_before [] f g h r same = λ n. same n ∙ r n
each_before (x ∷ names) f g h (mid, one, more) same =
    (mid, one, each_before names mid g h more same)

-- one read that was answered
pub read_once : (name : List ℕ) (before after : Files)
    → RisesOnce name before.reads after.reads
    → SameAtEach before.read_faults after.read_faults → HasRead (name ∷ []) before after
read_once name before after rises same =
    record { reads = (after.reads, rises, λ n. refl); faults = same }

pub read_more : (names others : List (List ℕ)) (before mid after : Files)
    → HasRead names before mid → HasRead others mid after → HasRead (names ++ others) before after
read_more names others before mid after r s = record {
  reads = each_more names others before.reads mid.reads after.reads r.reads s.reads;
  faults = λ n. s.faults n ∙ r.faults n;
}

-- ---- names that aren't read

apart : (names : List (List ℕ)) (n name : List ℕ) → ¬ Among names n → Among names name → n ≢ name
apart names n name out among e =
    out (subst (λ (m : List ℕ). Among names m) (sym e) among)

-- no count rises but those of the names
pub each_outside : (names : List (List ℕ)) (f g : List ℕ → ℕ) → RisesEach names f g
    → SameOutside names f g
each_outside [] f g r n out = r n
each_outside (x ∷ names) f g (mid, one, more) n out =
    each_outside names mid g more n (λ among. out (inr among))
    ∙ one.others n (λ e. out (inl e))

pub among_take : (k : ℕ) (names : List (List ℕ)) (n : List ℕ) → Among (take k names) n
    → Among names n
among_take zero names n among = absurd among
among_take (suc k) [] n among = absurd among
among_take (suc k) (x ∷ names) n (inl e) = inl e
among_take (suc k) (x ∷ names) n (inr among) = inr (among_take k names n among)

pub among_get : (k : ℕ) (names : List (List ℕ)) → k < length names
    → Among names (get_or names k [])
among_get k [] lt = absurd (omega (arith, lt))
among_get zero (x ∷ names) lt = inl refl
among_get (suc k) (x ∷ names) lt = inr (among_get k names (omega (arith, lt)))

pub first_outside : (k : ℕ) (names : List (List ℕ)) (f g : List ℕ → ℕ)
    → RisesEach (take k names) f g → SameOutside names f g
first_outside k names f g r n out =
    each_outside (take k names) f g r n (λ among. out (among_take k names n among))

pub once_outside : (names : List (List ℕ)) (name : List ℕ) (f g : List ℕ → ℕ)
    → Among names name → RisesOnce name f g → SameOutside names f g
once_outside names name f g among r n out = r.others n (apart names n name out among)

pub held_outside : {V : Type 0} (names : List (List ℕ)) (name : List ℕ) (f g : List ℕ → V)
    → Among names name → ((n : List ℕ) → n ≢ name → g n ≡ f n) → SameOutside names f g
held_outside names name f g among same n out = same n (apart names n name out among)

-- ---- a text that is too long

some_text : (n : ℕ) → (bytes : List ℕ) × (length bytes ≡ n)
some_text zero = ([], refl)
some_text (suc n) = let r = some_text n in (0 ∷ r.0, ap suc r.1)

longer_text : (held : Held) (limit : ℕ) → MayBeLonger held limit
    → (bytes : List ℕ) × MayHold held bytes × (limit < length bytes)
longer_text untold limit h = let r = some_text (limit + 1) in (r.0, tt, omega (arith, r.1))
longer_text absent limit h = absurd h
longer_text (holds xs) limit h = (xs, refl, h)

-- The name holds more than may be read; where the shelf doesn't tell what it holds, some text does
-- as well.
pub longer_read : (held : Held) (limit n : ℕ) (e : ReadAnswer) → e ≡ TooLong n
    → ReadsHeld held limit (Err e) → (bytes : List ℕ) × MayHold held bytes × (limit < length bytes)
longer_read held limit n e is h =
    longer_text held limit (subst (λ (x : ReadAnswer). ReadsHeld held limit (Err x)) is h)
