-- The first that a search finds in a sorted list is the least of those that pass.
use Rattle.std.proofs.Common.{◌≡◌, ℕ, zero, suc, ◌<◌, ◌≤◌, Bool, true, false, List, [], ◌∷◌, length, get_or, find, Some, None, sym, ap, subst, ◌∙◌, inl, inr, arith}
use Rattle.std.proofs.lemmas.Bool.{cases_Bool, cases_lt, cond-true, cond-false, true≢false}
use Rattle.std.proofs.lemmas.Bool.Decides.{nat_tests}
use Rattle.std.proofs.lemmas.Cmp.{nat_cmp_total, on_total, then_total, tied_itself}
use Rattle.std.proofs.lemmas.List.{get_or_default}
use Rattle.std.proofs.lemmas.List.Sorted.{Contains-permutation, IsPermutation-sym, ranks_by, sorted_far}
use Rattle.std.proofs.lemmas.Option.{none-some, same_Some}
use Rattle.std.specs.Cmp.{IsTotalOrder}
use Rattle.std.specs.List.{Contains}
use Rattle.std.specs.List.Sorted.{IsPermutation, IsSorted}
use Rattle.std.specs.Prelude.{◌↔◌}
use Rattle.std.specs.Ordering.{is_lt, nat_cmp, ordering_then}
use Rattle.std.specs.declared.cmp.Ordering.{Ordering}
use Rattle.cn_base.specs.declared.ids.DeviceId.{DeviceId}
use Rattle.cn_cert.specs.Steps.{AreMembers, HasMember, by_key, id_cmp, member}
use Rattle.cn_cert.specs.declared.members.Member.{Member}

-- ---- where a search stops

pub record IsFoundAt {X : Type 0} (p : X → Bool) (xs : List X) (x : X) : Type 0 where
  pub place : ℕ
  pub within : place < length xs
  pub is : get_or xs place x ≡ x
  pub passes : p x ≡ true
  pub before : (j : ℕ) (d : X) → j < place → p (get_or xs j d) ≡ false

pub found_at : {X : Type 0} (p : X → Bool) (xs : List X) (x : X) → find p xs ≡ Some x
    → IsFoundAt p xs x
found_at p [] x e = absurd (none-some x e)
found_at {X} p (y ∷ ys) x e =
    elim (cases_Bool (p y)) [
      | inl t ↦
          let same : y ≡ x = same_Some y x (sym (cond-true (p y) (Some y) (find p ys) t) ∙ e) in
          record {
            place = 0;
            within = omega arith;
            is = same;
            passes = subst (λ z. p z ≡ true) same t;
            before = λ j d lt. absurd (omega arith);
          }
      | inr f ↦
          let r = found_at p ys x (sym (cond-false (p y) (Some y) (find p ys) f) ∙ e) in
          record {
            place = suc r.place;
            within = omega (arith, r.within);
            is = r.is;
            passes = r.passes;
            before = earlier f r.place r.before;
          }
    ]
  where
    earlier : p y ≡ false → (k : ℕ) → ((j : ℕ) (d : X) → j < k → p (get_or ys j d) ≡ false)
        → (j : ℕ) (d : X) → j < suc k → p (get_or (y ∷ ys) j d) ≡ false
    earlier f k h zero d lt = f
    earlier f k h (suc j) d lt = h j d (omega arith)

pub found_has : {X : Type 0} (p : X → Bool) (xs : List X) (x : X) → find p xs ≡ Some x
    → Contains xs x
found_has p xs x e = let f = found_at p xs x e in (f.place, f.within, f.is)

pub found_passes : {X : Type 0} (p : X → Bool) (xs : List X) (x : X) → find p xs ≡ Some x
    → p x ≡ true
found_passes p xs x e = let f = found_at p xs x e in f.passes

pub not_found : {X : Type 0} (p : X → Bool) (xs : List X) (x : X)
    → find p xs ≡ None → Contains xs x → p x ≡ true → ⊥
not_found p [] x e (k, lt, is) t = omega (arith, lt)
not_found p (y ∷ ys) x e (zero, lt, is) t =
    none-some y (sym e ∙ cond-true (p y) (Some y) (find p ys) (ap p is ∙ t))
not_found p (y ∷ ys) x e (suc k, lt, is) t =
    elim (cases_Bool (p y)) [
      | inl s ↦ none-some y (sym e ∙ cond-true (p y) (Some y) (find p ys) s)
      | inr f ↦
          not_found p ys x (sym (cond-false (p y) (Some y) (find p ys) f) ∙ e)
          (k, omega (arith, lt), is) t
    ]

-- ---- in a sorted list

module _ {X : Type 0} {R : X → X → Ordering} (total : IsTotalOrder R) (xs : List X)
    (up : IsSorted R xs) where
  later_not_less : (i j : ℕ) (x y : X) → i ≤ j → i < length xs → j < length xs
      → get_or xs i x ≡ x → get_or xs j y ≡ y → is_lt (R y x) ≡ false
  later_not_less i j x y le lt_i lt_j is_x is_y =
      let far = sorted_far (λ a b. is_lt (R a b)) (ranks_by total (λ z. z)) xs up i j y le lt_j in
      let there : get_or xs i y ≡ x = get_or_default xs i y x lt_i ∙ is_x in
      ap (λ z. is_lt (R y z)) (sym there) ∙ ap (λ z. is_lt (R z (get_or xs i y))) (sym is_y) ∙ far

  -- no element that passes is less than the first that does
  pub found_least : (p : X → Bool) (x y : X) → find p xs ≡ Some x → Contains xs y → p y ≡ true
      → is_lt (R y x) ≡ false
  found_least p x y e (k, lt, is) t =
      let f = found_at p xs x e in
      elim (cases_lt k f.place) [
        | inl early ↦ absurd (true≢false (sym t ∙ ap p (sym is) ∙ f.before k y early))
        | inr le ↦ later_not_less f.place k x y le f.within lt f.is is
      ]

  -- no element is less than the first
  pub first_least : (x y : X) → 0 < length xs → get_or xs 0 x ≡ x → Contains xs y
      → is_lt (R y x) ≡ false
  first_least x y some is (k, lt, at) = later_not_less 0 k x y (omega arith) some lt is at

-- ---- members of groups

pub id_cmp_total : IsTotalOrder id_cmp
id_cmp_total = on_total (λ (d : DeviceId). d.0) nat_cmp_total

pub by_key_total : {K : Type 0} {R : K → K → Ordering} → IsTotalOrder R → IsTotalOrder (by_key R)
by_key_total {K} total =
    then_total (on_total (λ (m : Member K). m.key) total)
    (on_total (λ (m : Member K). m.device) id_cmp_total)

number_le : (a b : ℕ) → is_lt (nat_cmp a b) ≡ false → b ≤ a
number_le a b h = grind (arith, nat_tests)

first_le : (a b : ℕ) (o : Ordering) → is_lt (ordering_then (nat_cmp a b) o) ≡ false → b ≤ a
first_le a b o h = grind (arith, nat_tests)

-- in a group, devices go by their numbers
pub device_le : {K : Type 0} {R : K → K → Ordering} → IsTotalOrder R → (k : K) (x y : DeviceId)
    → is_lt (by_key R (record { key = k; device = y }) (record { key = k; device = x })) ≡ false
    → x.0 ≤ y.0
device_le {K} {R} total k x y h =
    number_le y.0 x.0
    (ap (λ o. is_lt (ordering_then o (nat_cmp y.0 x.0))) (sym (tied_itself total k)) ∙ h)

-- groups of islands go by the islands' numbers
pub island_le : (x y : Member DeviceId) → is_lt (by_key id_cmp y x) ≡ false → x.key.0 ≤ y.key.0
island_le x y h = first_le y.key.0 x.key.0 (nat_cmp y.device.0 x.device.0) h

-- the members that were found, sorted
pub sorted_members : {K : Type 0} {R : K → K → Ordering} (IsIn : K → DeviceId → Type 0)
    (found list : List (Member K)) → ((k : K) (d : DeviceId) → HasMember found k d ↔ IsIn k d)
    → IsPermutation found list → IsSorted (by_key R) list → AreMembers R IsIn list
sorted_members IsIn found list are moved up = record {
  sorted = up;
  exactly = λ k d. (
    λ h. (are k d).0
        (Contains-permutation list found (member k d) (IsPermutation-sym found list moved) h),
    λ h. Contains-permutation found list (member k d) moved ((are k d).1 h),
  );
}
