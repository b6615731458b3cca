-- The keys that stand with two different numbers.
use Rattle.std.proofs.Common.{◌≡◌, ◌≢◌, ℕ, Bool, true, List, filter, map, Option, Some, None, is_some, nat_eq, refl, sym, ap, subst, ◌∙◌, inl, inr}
use Rattle.std.specs.Prelude.{◌↔◌, IsTrue, IfSome, Contains}
use Rattle.std.proofs.lemmas.Bool.{cases_Bool, eqb-true, eq-eqb, not-true, not_from_false, true≢false}
use Rattle.std.proofs.lemmas.Map.Views.{IfSome-btree_map_get_from_list, btree_map_contains_key_from_list, btree_set_contains_from_list}
use Rattle.std.specs.BTreeMap as tree
use Rattle.std.specs.BTreeSet as sorted
use Rattle.std.specs.Cmp.{IsTotalOrder}
use Rattle.std.specs.Option.{option_eq}
use Rattle.std.specs.declared.cmp.Ordering.{Ordering}
use Rattle.cn_cert.specs.Steps.{IsExact, IsSplit, differs}
use Rattle.cn_cert.proofs.Lists.{filter_from, filter_has, map_from, map_has}

-- ---- numbers, or none

option_same : (a b : Option ℕ) → option_eq nat_eq a b ≡ true → a ≡ b
option_same None None e = refl
option_same None (Some y) e = absurd (true≢false (sym e))
option_same (Some x) None e = absurd (true≢false (sym e))
option_same (Some x) (Some y) e = ap Some (eqb-true x y e)

option_itself : (a : Option ℕ) → option_eq nat_eq a a ≡ true
option_itself None = refl
option_itself (Some x) = eq-eqb x x refl

differs_apart : (m n : Option ℕ) → differs (Some m) n ≡ true → m ≢ n
differs_apart m n t e =
    true≢false (sym (ap (option_eq nat_eq m) (sym e) ∙ option_itself m ∙ refl)
    ∙ not-true (option_eq nat_eq m n) t)

apart_differs : (m n : Option ℕ) → m ≢ n → differs (Some m) n ≡ true
apart_differs m n ne = elim (cases_Bool (option_eq nat_eq m n)) [
  | inl t ↦ absurd (ne (option_same m n t))
  | inr f ↦ not_from_false (option_eq nat_eq m n) f
]

-- ---- keys

module _ {K : Type 0} {R : K → K → Ordering} (total : IsTotalOrder R) (exact : IsExact R)
    (pairs : List (K × Option ℕ)) (numbers : tree.BTreeMap K (Option ℕ))
    (numbers_are : tree.IsFromIterResult R pairs numbers) where
  differing : K × Option ℕ → Bool
  differing e = differs (tree.get R numbers e.0) e.1

  has_key : (k : K) (n : Option ℕ) → Contains pairs (k, n) → is_some (tree.get R numbers k) ≡ true
  has_key k n h =
      (btree_map_contains_key_from_list total exact pairs numbers numbers_are k).1
      (map_has (λ (e : K × Option ℕ). e.0) pairs (k, n) k h refl)

  has_number : (k : K) (m : Option ℕ) → tree.get R numbers k ≡ Some m → Contains pairs (k, m)
  has_number k m e =
      subst (λ o. IfSome o (λ v. Contains pairs (k, v))) e
      (IfSome-btree_map_get_from_list total exact pairs numbers numbers_are k)

  some_number : (k : K) → is_some (tree.get R numbers k) ≡ true
      → (m : Option ℕ) × (tree.get R numbers k ≡ Some m)
  some_number k t = go (tree.get R numbers k) refl
    where
      go : (o : Option (Option ℕ)) → tree.get R numbers k ≡ o
          → (m : Option ℕ) × (tree.get R numbers k ≡ Some m)
      go None e = absurd (true≢false (sym t ∙ ap is_some e))
      go (Some m) e = (m, e)

  split_from : (k : K) (n : Option ℕ) → Contains pairs (k, n) → differing (k, n) ≡ true
      → IsSplit pairs k
  unfolding differing
  split_from k n h t =
      let m = some_number k (has_key k n h) in
      record {
        one = m.0;
        other = n;
        has_one = has_number k m.0 m.1;
        has_other = h;
        apart = differs_apart m.0 n (ap (λ o. differs o n) (sym m.1) ∙ t);
      }

  split_to : (k : K) → IsSplit pairs k
      → (n : Option ℕ) × Contains pairs (k, n) × (differing (k, n) ≡ true)
  unfolding differing
  split_to k s =
      let m = some_number k (has_key k s.one s.has_one) in
      let differs_from = λ (n : Option ℕ). ap (λ o. differs o n) m.1 in
      elim (cases_Bool (option_eq nat_eq m.0 s.one)) [
        | inl same ↦ (
          s.other,
          s.has_other,
          differs_from s.other
              ∙ apart_differs m.0 s.other (λ e. s.apart (sym (option_same m.0 s.one same) ∙ e)),
        )
        | inr not_same ↦ (
          s.one,
          s.has_one,
          differs_from s.one ∙ not_from_false (option_eq nat_eq m.0 s.one) not_same,
        )
      ]

  pub split_where : (keys : List K) (split : sorted.BTreeSet K)
      → keys ≡ map (λ e. e.0) (filter (λ e. differs (tree.get R numbers e.0) e.1) pairs)
      → sorted.IsFromIterResult R keys split → (k : K)
      → IsTrue (sorted.contains R split k) ↔ IsSplit pairs k
  unfolding differing
  split_where keys split are made k =
      let has = btree_set_contains_from_list total exact keys split made k in
      let first : K × Option ℕ → K = λ e. e.0 in (
        λ t.
            let s =
            map_from first (filter differing pairs) k (subst (λ ks. Contains ks k) are (has.0 t)) in
            let e = s.0 in
            let f = filter_from differing pairs e s.1 in
            subst (IsSplit pairs) s.2 (split_from e.0 e.1 f.0 f.1),
        λ split_k.
            let s = split_to k split_k in
            has.1 (subst (λ ks. Contains ks k) (sym are)
            (map_has first (filter differing pairs) (k, s.0) k
            (filter_has differing pairs (k, s.0) s.1 s.2) refl)),
      )
