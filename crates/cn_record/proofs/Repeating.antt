-- Rows stand in order, each once, or repeat a device and a prefix first. Other crates may cite this
-- module.
use Rattle.std.proofs.Common.{◌≡◌, ℕ, zero, suc, ◌+◌, ◌-◌, ◌<◌, ◌≤◌, ◌⊎◌, inl, inr, true, false, List, [], ◌∷◌, length, sym, subst, ◌∙◌, arith}
use Rattle.std.specs.List.Sorted.{IsPermutation}
use Rattle.std.proofs.lemmas.Bool.{cases_Bool, cases_lt}
use Rattle.std.proofs.lemmas.List.{get_or_default}
use Rattle.std.proofs.lemmas.Option.{slice_get_cases}
use Rattle.cn_lists.proofs.Sorts.{sorted_there}
use Rattle.cn_base.specs.Cidr.{Cidr}
use Rattle.cn_base.specs.declared.ids.DeviceId.{DeviceId}
use Rattle.cn_record.specs.Repeats.{HasNoTie, HasNoTieBelow, IsFirstTie, tie_at}
use Rattle.cn_record.specs.Rows.{AscendsByPair, IsFirstRepeat, IsRepeated}
use Rattle.cn_record.specs.declared.saved.Row.{Row}
use Rattle.cn_record.proofs.Pairs.{pair_cmp_total, pair_of}
use Rattle.cn_record.proofs.Sorting.{IsByPair, ascends, first_pair, stands_once}

-- ---- rows beside each other

module _ (rows : List Row) (e : Row) where
  tie_at-default : (k : ℕ) (d : Row) → k + 1 < length rows → tie_at rows k d ≡ tie_at rows k e
  tie_at-default k d lt =
      let here = get_or_default rows k d e (omega arith) in
      let next = get_or_default rows (k + 1) d e lt in
      grind (arith, here, next)

  -- none below the next place has a tie, or the row at this one has the first
  tie_next : (n : ℕ) → n < length rows → HasNoTieBelow rows n
      → HasNoTieBelow rows (suc n) ⊎ IsFirstTie rows n
  tie_next zero lt none = inl (λ k d low. absurd (omega (arith, low)))
  tie_next (suc m) lt none =
      elim (cases_Bool (tie_at rows m e)) [
        | inl t ↦ inr (record {
          above = omega arith;
          within = lt;
          tie =
              λ d.
              let before : m ≡ suc m - 1 = omega arith in
              subst (λ (j : ℕ). tie_at rows j d ≡ true) before
              (tie_at-default m d (omega (arith, lt)) ∙ t);
          first = none;
        })
        | inr f ↦ inl (λ k d low. elim (cases_lt (k + 1) (suc m)) [
          | inl under ↦ none k d under
          | inr over ↦
              let here : m ≡ k = omega (arith, low, over) in
              subst (λ (j : ℕ). tie_at rows j d ≡ false) here
              (tie_at-default m d (omega (arith, lt)) ∙ f)
        ])
      ]

  tie_below : (n : ℕ) → n ≤ length rows
      → HasNoTieBelow rows n ⊎ ((k : ℕ) × IsFirstTie rows k)
  tie_below zero le = inl (λ k d low. absurd (omega (arith, low)))
  tie_below (suc n) le =
      elim (tie_below n (omega (arith, le))) [
        | inr found ↦ inr found
        | inl none ↦ elim (tie_next n (omega (arith, le)) none) [
          | inl more ↦ inl more
          | inr tie ↦ inr (n, tie)
        ]
      ]

tie_or_none : (rows : List Row) → HasNoTie rows ⊎ ((k : ℕ) × IsFirstTie rows k)
tie_or_none [] = inl (λ k d low. absurd (omega (arith, low)))
tie_or_none (x ∷ xs) = tie_below (x ∷ xs) x (length (x ∷ xs)) (omega arith)

-- ---- all rows

first_there : (rows ys : List Row) (k : ℕ) → IsPermutation rows ys → IsByPair ys
    → IsFirstTie ys k → (d : DeviceId) × (p : Cidr) × IsFirstRepeat rows d p
first_there rows ys k moved sorted tie =
    elim (slice_get_cases ys k).1 [
      | inl (x, lt, is, here) ↦
          (x.device, x.prefix, first_pair rows ys k x x moved sorted tie (sym here) (sym here))
      | inr (le, is) ↦ absurd (omega (arith, le, tie.within))
    ]

-- These rows by device and then by prefix, where no two have one device and prefix; or the first
-- device and prefix of which there are two.
pub saved_or_repeat : (rows : List Row)
    → ((saved : List Row) × IsPermutation rows saved × AscendsByPair saved
    × ((d : DeviceId) (p : Cidr) → IsRepeated rows d p → ⊥))
    ⊎ ((d : DeviceId) × (p : Cidr) × IsFirstRepeat rows d p)
saved_or_repeat rows =
    let (ys, moved, sorted) = sorted_there pair_cmp_total pair_of rows in
    elim (tie_or_none ys) [
      | inl none ↦
          inl (ys, moved, ascends ys sorted none, stands_once rows ys moved sorted none)
      | inr (k, tie) ↦ inr (first_there rows ys k moved sorted tie)
    ]
