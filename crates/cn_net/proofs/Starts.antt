-- Where each device's part of the neighbours begins.
use Rattle.std.proofs.Common.{◌≡◌, ℕ, ◌+◌, ◌<◌, ◌≤◌, true, false, List, [], ◌∷◌, ◌++◌, length, get_or, ltb, Less, sym, subst, inl, inr, arith, below_more}
use Rattle.std.specs.List.{AllPairs}
use Rattle.std.specs.List.Sorted.{IsNonDecreasingBy, IsPartitionPoint}
use Rattle.std.proofs.lemmas.Bool.{cases_lt, ltb-false, ltb-true}
use Rattle.std.proofs.lemmas.Bool.Decides.{nat_tests}
use Rattle.std.proofs.lemmas.List.{get_or_append_left, get_or_push}
use Rattle.cn_net.specs.Neighbours.{IsStart, by_ends}
use Rattle.cn_net.specs.declared.neighbours.Neighbour.{Neighbour}

not_after : (x y : Neighbour) → by_ends x y ≡ Less → x.of.0 ≤ y.of.0
not_after x y h = grind (arith, nat_tests)

-- the devices that see don't fall where the ends ascend
pub ends_rise : (list : List Neighbour) → AllPairs (λ x y. by_ends x y ≡ Less) list
    → IsNonDecreasingBy (λ n. n.of.0) list
ends_rise list up i j d le within =
    elim (cases_lt i j) [
      | inl lt ↦ not_after (get_or list i d) (get_or list j d) (up i j d lt within)
      | inr ge ↦
          let e : i ≡ j = omega arith in
          subst (λ k. (get_or list i d).of.0 ≤ (get_or list k d).of.0) e (omega arith)
    ]

-- what halving finds is a start
pub IsStart-from_point : (list : List Neighbour) (d start : ℕ) → start ≤ length list
    → IsPartitionPoint (λ n. ltb n.of.0 d ≡ true) (λ n. ltb n.of.0 d ≡ false) list start
    → IsStart list d start
IsStart-from_point list d start within point = record {
  within = within;
  parts = (
    λ k x low lt. ltb-true (get_or list k x).of.0 d (point.0 k x low lt),
    λ k x low lt. ltb-false (get_or list k x).of.0 d (point.1 k x low lt),
  );
}

-- one more start
pub IsStart-push : (list : List Neighbour) (starts : List ℕ) (d start : ℕ) → length starts ≡ d
    → ((k : ℕ) → k < d → IsStart list k (get_or starts k 0)) → IsStart list d start
    → (k : ℕ) → k < d + 1 → IsStart list k (get_or (starts ++ start ∷ []) k 0)
IsStart-push list starts d start many before here =
    below_more _ d
    (λ k lt. subst (IsStart list k) (sym (get_or_append_left starts (start ∷ []) 0 k (omega arith)))
    (before k lt))
    (subst (IsStart list d) (sym (get_or_push starts start 0 d many)) here)
