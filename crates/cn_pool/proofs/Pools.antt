-- Pools that take in a path, and what is known of longer paths.
use Rattle.std.proofs.Common.{◌≡◌, ℕ, ◌+◌, ◌<◌, ◌≤◌, ◌^◌, true, false, cond, List, [], ◌∷◌, ◌++◌, length, Some, Result, Ok, Err, refl, sym, ap, subst, ◌∙◌, ⊎_elim, true≢false, arith, length-append, get_or, Contains}
use Rattle.std.specs.Prelude.{◌&&◌, ◌==◌, IfSome, OnOk, OnErr, slice_get, replicate, unwrap_or}
use Rattle.std.specs.Cmp.{first_so, second_so}
use Rattle.std.specs.Cmp.Lexicographic.{pointwise_decides}
use Rattle.std.specs.HashMap.{IsUnchanged, Updates, get}
use Rattle.std.specs.List.{find}
use Rattle.std.specs.Map.{lookup}
use Rattle.std.proofs.lemmas.Bool.{cases_Bool, cases_lt, eq-eqb, eqb-true}
use Rattle.std.proofs.lemmas.Grind.{common_steps}
use Rattle.std.proofs.lemmas.List.{get_or_push}
use Rattle.std.proofs.lemmas.List.Elements.{Contains-get_or}
use Rattle.std.proofs.lemmas.Map.Made.{IfSome-find_same}
use Rattle.std.proofs.lemmas.Map.Views.{list_any-from_Contains}
use Rattle.std.proofs.lemmas.Option.{get_or_from_slice_get, gets, slice_get_within}
use Rattle.cn_base.specs.declared.ids.Asn.{Asn}
use Rattle.cn_base.specs.SamePath.{same_path, same_path_equiv}
use Rattle.cn_pool.specs.declared.pool.PathId.{PathId}
use Rattle.cn_pool.specs.declared.pool.Step.{Step}
use Rattle.cn_pool.specs.Pool.{Extends, IsDistinct, IsLonger, IsPool, Joins, Known, holds_path, path_after, path_under, same_step, with_path}

-- ---- equal paths

asn_of : ℕ → Asn
asn_of n = record { 0 = n }

same_asn : (x y : Asn) → (x.0 == y.0 ≡ true → x ≡ y) × (x ≡ y → x.0 == y.0 ≡ true)
unfolding asn_of
same_asn x y = (
  λ e. ap asn_of (eqb-true x.0 y.0 e),
  λ e. eq-eqb x.0 y.0 (ap (λ (z : Asn). z.0) e),
)

path_is : (p q : List Asn) → same_path p q ≡ true → p ≡ q
path_is p q h = (pointwise_decides same_asn p q).0 h

-- ---- a path joins

-- a path at a place of the pool is in it
held_at : (pool : List (List Asn)) (i : ℕ) (path : List Asn) → slice_get pool i ≡ Some path
    → holds_path pool path ≡ true
held_at pool i path at =
    let is : get_or pool i [] ≡ path = get_or_from_slice_get pool i path [] at in
    let here = Contains-get_or pool i [] (slice_get_within pool i path at) in
    list_any-from_Contains same_path_equiv path pool (subst (Contains pool) is here)

module _ (pool : List (List Asn)) (path : List Asn) where
  abbrev pushed : List (List Asn)
  pushed = pool ++ path ∷ []

  held_stays : holds_path pool path ≡ true → with_path pool path ≡ pool
  held_stays h = ap (λ b. cond b pool pushed) h

  new_goes_last : holds_path pool path ≡ false → with_path pool path ≡ pushed
  new_goes_last h = ap (λ b. cond b pool pushed) h

  pushed_kept : (i : ℕ) → i < length pool → slice_get pushed i ≡ slice_get pool i
  pushed_kept i l = grind (arith, common_steps, gets)

  pushed_last : (i : ℕ) (p : List Asn) → length pool ≤ i → slice_get pushed i ≡ Some p
      → (i ≡ length pool) × (p ≡ path)
  pushed_last i p l at =
      let within = slice_get_within pushed i p at in
      let last : i ≡ length pool = omega (arith, within, length-append pool (path ∷ [])) in (
        last,
        sym (get_or_from_slice_get pushed i p [] at) ∙ get_or_push pool path [] i (sym last),
      )

  -- the paths that were there stay where they are
  kept : (i : ℕ) → i < length pool → slice_get (with_path pool path) i ≡ slice_get pool i
  kept i l = ⊎_elim
      (λ h. ap (λ ps. slice_get ps i) (held_stays h))
      (λ h. ap (λ ps. slice_get ps i) (new_goes_last h) ∙ pushed_kept i l)
      (cases_Bool (holds_path pool path))

  longer_pool : length pool ≤ length (with_path pool path)
  longer_pool = ⊎_elim
      (λ h. omega (arith, ap length (held_stays h)))
      (λ h. omega (arith, ap length (new_goes_last h), length-append pool (path ∷ [])))
      (cases_Bool (holds_path pool path))

  apart : holds_path pool path ≡ false → (i : ℕ) (p : List Asn) → slice_get pool i ≡ Some p
      → p ≡ path → ⊥
  apart absent i p at e = true≢false (sym (held_at pool i path (at ∙ ap Some e)) ∙ absent)

  pushed_distinct : holds_path pool path ≡ false → IsDistinct pool → IsDistinct pushed
  pushed_distinct absent distinct = record { one_place = one_place }
    where
      one_place : (i j : ℕ) (p : List Asn) → slice_get pushed i ≡ Some p
          → slice_get pushed j ≡ Some p → i ≡ j
      one_place i j p at also = ⊎_elim
          (λ low. ⊎_elim
          (λ lower.
          distinct.one_place i j p (sym (pushed_kept i low) ∙ at)
          (sym (pushed_kept j lower) ∙ also))
          (λ past.
          absurd (apart absent i p (sym (pushed_kept i low) ∙ at) (pushed_last j p past also).1))
          (cases_lt j (length pool)))
          (λ past. ⊎_elim
          (λ lower.
          absurd (apart absent j p (sym (pushed_kept j lower) ∙ also) (pushed_last i p past at).1))
          (λ also_past. (pushed_last i p past at).0 ∙ sym (pushed_last j p also_past also).0)
          (cases_lt j (length pool)))
          (cases_lt i (length pool))

  one_longer : length (with_path pool path) ≤ length pool + 1
  one_longer = ⊎_elim
      (λ h. omega (arith, ap length (held_stays h)))
      (λ h. omega (arith, ap length (new_goes_last h), length-append pool (path ∷ [])))
      (cases_Bool (holds_path pool path))

  joined_distinct : IsDistinct pool → IsDistinct (with_path pool path)
  joined_distinct distinct = ⊎_elim
      (λ h. subst IsDistinct (sym (held_stays h)) distinct)
      (λ h. subst IsDistinct (sym (new_goes_last h)) (pushed_distinct h distinct))
      (cases_Bool (holds_path pool path))

  longer_kept : (step : Step) (id : PathId) → IsLonger pool step id
      → IsLonger (with_path pool path) step id
  longer_kept step id was =
      let same : path_after (with_path pool path) step ≡ path_after pool step =
      ap (λ o. replicate step.times step.asn ++ unwrap_or o []) (kept step.path.0 was.from) in
      record {
        from = omega (arith, was.from, longer_pool);
        short = subst (λ p. length p ≤ 255) (sym same) was.short;
        longer =
            kept id.0 (slice_get_within pool id.0 _ was.longer) ∙ was.longer ∙ ap Some (sym same);
      }

  -- a pool with one path more is a pool
  pub joined_pool : (known : Known) (pool' : List (List Asn)) → IsPool pool known
      → length pool < 2 ^ 32 → pool' ≡ with_path pool path → IsPool pool' known
  joined_pool known pool' was few e = subst (λ ps. IsPool ps known) (sym e) (record {
    distinct = joined_distinct was.distinct;
    few = omega (arith, few, one_longer);
    right = λ step id h. longer_kept step id (was.right step id h);
  })

-- the path that a set took in has its place for an id
pub interned : (pool old new : List (List Asn)) (path : List Asn) (place : ℕ)
    → pool ≡ old → new ≡ with_path pool path
    → (k : List Asn) × (slice_get new place ≡ Some k) × (same_path path k ≡ true)
    → Joins old new path (record { 0 = place })
interned pool old new path place same joined stored =
    let here : new ≡ with_path old path = joined ∙ ap (λ ps. with_path ps path) same in
    record {
      joined = here;
      there = stored.1 ∙ ap Some (sym (path_is path stored.0 stored.2));
      kept = λ i low. ap (λ ps. slice_get ps i) here ∙ kept old path i low;
    }

-- what a look-up of a path finds is that path
pub found_is : (pool : List (List Asn)) (path held : List Asn)
    → Some held ≡ find (same_path path) pool → held ≡ path
found_is pool path held e =
    subst (λ o. IfSome o (λ k. k ≡ path)) (sym e)
    (IfSome-find_same (pointwise_decides same_asn) path pool)

-- a path that the pool holds is in it already
pub stays : (pool : List (List Asn)) (path : List Asn) (id : PathId)
    → slice_get pool id.0 ≡ Some path → Joins pool pool path id
stays pool path id at = record {
  joined = sym (held_stays pool path (held_at pool id.0 path at));
  there = at;
  kept = λ i low. refl;
}

-- ---- a pool with more paths

pub extends_itself : (pool : List (List Asn)) → Extends pool pool
extends_itself pool = record { longer = omega arith; kept = λ i low. refl }

pub extends_on : (old new more : List (List Asn)) → Extends old new → Extends new more
    → Extends old more
extends_on old new more first then = record {
  longer = omega (arith, first.longer, then.longer);
  kept = λ i low. then.kept i (omega (arith, low, first.longer)) ∙ first.kept i low;
}

pub extends_joined : (old new : List (List Asn)) (path : List Asn) (id : PathId)
    → Joins old new path id → Extends old new
extends_joined old new path id joins = record {
  longer =
      subst (λ ps. length old ≤ length ps) (sym joins.joined) (longer_pool old path);
  kept = joins.kept;
}

-- an id of the old pool has its path in the new one
pub path_kept : (old new : List (List Asn)) (id : PathId) → Extends old new → id.0 < length old
    → path_under new id ≡ path_under old id
path_kept old new id more within = ap (λ o. unwrap_or o []) (more.kept id.0 within)

-- the id with which a path joined is one of the pool, and its path is that
pub joined_within : (old new : List (List Asn)) (path : List Asn) (id : PathId)
    → Joins old new path id → id.0 < length new
joined_within old new path id joins = slice_get_within new id.0 path joins.there

pub joined_path : (old new : List (List Asn)) (path : List Asn) (id : PathId)
    → Joins old new path id → path_under new id ≡ path
joined_path old new path id joins = ap (λ o. unwrap_or o []) joins.there

-- ---- what is known

step_of : ℕ → ℕ → ℕ → Step
step_of path asn times = record {
  path = record { 0 = path };
  asn = record { 0 = asn };
  times = times;
}

step_is : (x y : Step) → same_step x y ≡ true → x ≡ y
unfolding step_of
step_is x y h =
    let same_path_id = x.path.0 == y.path.0 in
    let same_asn = x.asn.0 == y.asn.0 in
    let same_times = x.times == y.times in
    let rest = second_so same_path_id (same_asn && same_times) h in
    let path = eqb-true x.path.0 y.path.0 (first_so same_path_id (same_asn && same_times) h) in
    let asn = eqb-true x.asn.0 y.asn.0 (first_so same_asn same_times rest) in
    let times = eqb-true x.times y.times (second_so same_asn same_times rest) in
    ap (λ a. step_of a x.asn.0 x.times) path
    ∙ ap (λ a. step_of y.path.0 a x.times) asn
    ∙ ap (λ a. step_of y.path.0 y.asn.0 a) times

-- an id that is known is that of a path of the pool
pub known_joins : (pool : List (List Asn)) (step : Step) (id : PathId) → IsLonger pool step id
    → (length (path_after pool step) ≤ 255) × Joins pool pool (path_after pool step) id
known_joins pool step id known = (
  known.short,
  record {
    joined = sym (held_stays pool _ (held_at pool id.0 _ known.longer));
    there = known.longer;
    kept = λ i low. refl;
  },
)

-- the id that a longer path was given is that of the path that the step makes
pub longer_joined : (pool new view : List (List Asn)) (step : Step) (id : PathId)
    (path longer : List Asn) → slice_get pool step.path.0 ≡ Some path
    → longer ≡ replicate step.times step.asn ++ path → length longer ≤ 255
    → view ≡ new → Joins pool new longer id → IsLonger view step id
longer_joined pool new view step id path longer at is short same joins =
    let within = slice_get_within pool step.path.0 path at in
    let view_is : view ≡ with_path pool longer = same ∙ joins.joined in
    let stays : slice_get view step.path.0 ≡ Some path =
    ap (λ ps. slice_get ps step.path.0) view_is
    ∙ kept pool longer step.path.0 within ∙ at in
    let path_same : longer ≡ path_after view step =
    is ∙ ap (λ o. replicate step.times step.asn ++ unwrap_or o []) (sym stays) in
    record {
      from = slice_get_within view step.path.0 path stays;
      short = subst (λ p. length p ≤ 255) path_same short;
      longer = ap (λ ps. slice_get ps id.0) same ∙ joins.there ∙ ap Some path_same;
    }

-- a pool that knows of one longer path more, or found no memory for it, is a pool
pub known_with : {E F : Type 0} (pool : List (List Asn)) (old new : Known) (step : Step)
    (id : PathId) (r : Result E F) → IsPool pool old → IsLonger pool step id
    → OnOk r (Updates same_step old new step (Some id)) → OnErr r (IsUnchanged old new)
    → IsPool pool new
known_with pool old new step id (Ok x) was longer updates same =
    record { distinct = was.distinct; few = was.few; right = right }
  where
    right : (q : Step) (j : PathId) → get same_step new q ≡ Some j → IsLonger pool q j
    right q j at = ⊎_elim
        (λ e.
        let given : Some id ≡ Some j =
        sym (ap (λ b. cond b (Some id) (get same_step old q)) e) ∙ sym (updates.0 q) ∙ at in
        subst (IsLonger pool q) (ap (λ o. unwrap_or o id) given)
        (subst (λ s. IsLonger pool s id) (step_is step q e) longer))
        (λ e. was.right q j (sym (updates.2 q e) ∙ at))
        (cases_Bool (same_step step q))
known_with pool old new step id (Err x) was longer updates same = record {
  distinct = was.distinct;
  few = was.few;
  right = λ q j at. was.right q j (ap (λ es. lookup (same_step q) es) (sym same) ∙ at);
}
