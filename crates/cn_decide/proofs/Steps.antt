-- Other crates may cite this: the step of the decision is the same over ranks that stand beside
-- what they are of and over a function that gives them.
use Rattle.std.proofs.Common.{◌≡◌, Bool, true, false, cond, List, [], ◌∷◌, Option, Some, None, option_map, refl, sym, ap, ◌∙◌}
use Rattle.std.specs.List.{fold}
use Rattle.cn_base.specs.declared.rank.Rank.{Rank}
use Rattle.cn_decide.specs.Decide.{better, better_by, on_item, outranks_by, with_rank}
use Rattle.cn_decide.specs.declared.Ranked.{Ranked}

-- nothing adds nothing
pub better_by_none : {A : Type 0} (rank : A → Rank) (x : Option A) → better_by rank x None ≡ x
better_by_none rank None = refl
better_by_none rank (Some x) = refl

-- ---- ranks beside what they are of

cond_map : {A B : Type 0} (f : A → B) (b : Bool) (x y : A)
    → option_map f (cond b (Some x) (Some y)) ≡ cond b (Some (f x)) (Some (f y))
cond_map f true x y = refl
cond_map f false x y = refl

-- the better of two things, each beside its rank, is the better of the two beside its rank
better-with_rank : {A : Type 0} (rank : A → Rank) (x y : Option A)
    → better (option_map (with_rank rank) x) (option_map (with_rank rank) y)
    ≡ option_map (with_rank rank) (better_by rank x y)
unfolding outranks_by
better-with_rank rank None y = refl
better-with_rank rank (Some x) None = refl
better-with_rank rank (Some x) (Some y) =
    sym (cond_map (with_rank rank) (outranks_by rank y x) y x)

-- and so is the best of several
pub fold-with_rank : {A B : Type 0} (rank : A → Rank) (f : B → Option A) (x : Option A)
    (items : List B)
    → fold (λ best b. better best (option_map (with_rank rank) (f b)))
    (option_map (with_rank rank) x) items
    ≡ option_map (with_rank rank) (fold (λ best b. better_by rank best (f b)) x items)
fold-with_rank rank f x [] = refl
fold-with_rank rank f x (b ∷ more) =
    ap (λ z. fold (λ best c. better best (option_map (with_rank rank) (f c))) z more)
    (better-with_rank rank x (f b))
    ∙ fold-with_rank rank f (better_by rank x (f b)) more

-- ---- the same ranks beside something else

-- what stands beside the ranks doesn't matter to the decision
pub on_item-better : {A B : Type 0} (f : A → B) (x y : Option (Ranked A))
    → option_map (on_item f) (better x y)
    ≡ better (option_map (on_item f) x) (option_map (on_item f) y)
unfolding outranks_by
on_item-better f None y = refl
on_item-better f (Some x) None = refl
on_item-better f (Some x) (Some y) = cond_map (on_item f) (outranks_by (λ r. r.rank) y x) y x
