-- The best so far of a list of candidates.
use Rattle.std.proofs.Common.{◌≡◌, ℕ, ◌+◌, ◌<◌, Bool, true, false, cond, List, length, get_or, Option, Some, None, refl, sym, ap, subst, ◌∙◌, arith}
use Rattle.std.proofs.lemmas.List.{get_or_default}
use Rattle.std.proofs.lemmas.List.MinMax.{IsFirstBest-none, IsFirstBest-takes, IsFirstBest-keeps}
use Rattle.std.specs.List.{IsFirstBest}
use Rattle.cn_base.specs.Rank.{ranks_before}
use Rattle.cn_base.specs.declared.rank.Rank.{Rank}
use Rattle.cn_decide.specs.Decide.{IsPick, better, outranks, outranks_by, rank_of}
use Rattle.cn_decide.specs.declared.Candidate.{Candidate}
use Rattle.cn_decide.specs.declared.Ranked.{Ranked}
use Rattle.cn_decide.proofs.Order.{outranks_by_order}

-- the best of the first k candidates is kept by its place, beside its rank
pub IsBestBelow : List Candidate → ℕ → Option (Ranked ℕ) → Type 0
IsBestBelow cs k None = k ≡ 0
IsBestBelow cs k (Some best) =
    (best.item < length cs)
    × ((d : Candidate) → best.rank ≡ rank_of (get_or cs best.item d))
    × IsFirstBest outranks cs k best.item

-- before the first there is none
pub none_below : (cs : List Candidate) → IsBestBelow cs 0 None
unfolding IsBestBelow
none_below cs = refl

-- a test of the next candidate against the best so far
tested_below : (cs : List Candidate) (k : ℕ) (x : Candidate) (best : Ranked ℕ) (b : Bool)
    → IsBestBelow cs k (Some best) → k < length cs → x ≡ get_or cs k x
    → ranks_before (rank_of x) best.rank ≡ b
    → IsBestBelow cs (k + 1)
    (cond b (Some (record { rank = rank_of x; item = k })) (Some best))
unfolding IsBestBelow outranks_by
tested_below cs k x best true h lt is t =
    let y = get_or cs best.item x in (
      lt,
      λ d. ap rank_of (is ∙ get_or_default cs k x d lt),
      IsFirstBest-takes (outranks_by_order rank_of) cs k best.item x y h.2 lt is
          (get_or_default cs best.item x y h.0)
          (ap (ranks_before (rank_of x)) (sym (h.1 x)) ∙ t),
    )
tested_below cs k x best false h lt is t =
    let y = get_or cs best.item x in (
      h.0,
      h.1,
      IsFirstBest-keeps (outranks_by_order rank_of) cs k best.item x y h.2 lt is
          (get_or_default cs best.item x y h.0)
          (ap (ranks_before (rank_of x)) (sym (h.1 x)) ∙ t),
    )

-- the next candidate, beside its rank
next_below : (cs : List Candidate) (k : ℕ) (x : Candidate) (best : Option (Ranked ℕ))
    → IsBestBelow cs k best → k < length cs → x ≡ get_or cs k x
    → IsBestBelow cs (k + 1) (better best (Some (record { rank = rank_of x; item = k })))
unfolding IsBestBelow outranks_by
next_below cs k x None h lt is =
    let Is : ℕ → Type 0 = λ n. IsFirstBest outranks cs (n + 1) n in (
      lt,
      λ d. ap rank_of (is ∙ get_or_default cs k x d lt),
      subst Is (sym h) (IsFirstBest-none (outranks_by_order rank_of) cs),
    )
next_below cs k x (Some best) h lt is = tested_below cs k x best _ h lt is refl

-- one more candidate
pub better_below : (cs : List Candidate) (k : ℕ) (x : Candidate) (rank : Rank)
    (best more : Option (Ranked ℕ))
    → IsBestBelow cs k best → k < length cs → x ≡ get_or cs k x → rank ≡ rank_of x
    → more ≡ better best (Some (record { rank = rank; item = k }))
    → IsBestBelow cs (k + 1) more
better_below cs k x rank best more h lt is r e =
    let step : Rank → Option (Ranked ℕ) = λ q. better best (Some (record { rank = q; item = k })) in
    subst (IsBestBelow cs (k + 1)) (sym (e ∙ ap step r)) (next_below cs k x best h lt is)

-- after the last it is the pick
pub best_picked : (cs : List Candidate) (k : ℕ) (best : Ranked ℕ) → IsBestBelow cs k (Some best)
    → k ≡ length cs → IsPick cs best.item
unfolding IsBestBelow
best_picked cs k best h e = record {
  in_range = h.0;
  least = λ j d lt. h.2.1 j d (omega arith);
  first = h.2.2;
}

-- and there is none where there is no candidate
pub none_picked : (cs : List Candidate) (k : ℕ) → IsBestBelow cs k None → k ≡ length cs
    → length cs ≡ 0
unfolding IsBestBelow
none_picked cs k h e = sym e ∙ h
