-- What maps that are made of another have at each prefix.
use Rattle.std.proofs.Common.{◌≡◌, ℕ, ◌-◌, ◌≤◌, Bool, true, false, cond, List, [], ◌∷◌, arith, drop, length, length-drop, take, Option, Some, None, refl, sym, ap, ◌∙◌, inl, inr}
use Rattle.std.specs.Prelude.{◌&&◌, ◌||◌, T, option_and_then}
use Rattle.std.specs.List.{fold, list_any}
use Rattle.std.specs.FinMap.{FinMap}
use Rattle.std.specs.FinMap as fin
use Rattle.std.specs.FinMap.Entries.{below_all}
use Rattle.std.specs.Ordering.{eq_by_cmp}
use Rattle.std.proofs.lemmas.List.{take-append-drop, take_all}
use Rattle.cn_lists.proofs.Folding.{fold-append}
use Rattle.cn_base.specs.Cidr.{Cidr, same_prefix}
use Rattle.cn_base.specs.Table.{prefix_cmp}
use Rattle.cn_rib.specs.PrefixMaps.{add_front, picked, picked_entries, put_at, remove_all}
use Rattle.cn_rib.proofs.Keyed.{find_below, get_inserted, get_removed}
use Rattle.cn_rib.proofs.Prefixes.{same_itself, same_tells, tied}
use Rattle.cn_rib.proofs.Rows.{first_true, second_true}

-- ---- a map that is changed at one prefix

module _ {X : Type 0} where
  -- what a map has after a change at p
  pub get-put_at : (m : FinMap prefix_cmp X) (p : Cidr) (o : Option X) (q : Cidr)
      → fin.get (put_at m p o) q ≡ cond (same_prefix q p) o (fin.get m q)
  get-put_at m p None q = get_removed m p q
  get-put_at m p (Some v) q = get_inserted m p v q

  -- a change at p is what is at p
  pub get-put_at-there : (m : FinMap prefix_cmp X) (p : Cidr) (o : Option X)
      → fin.get (put_at m p o) p ≡ o
  get-put_at-there m p o =
      get-put_at m p o p ∙ ap (λ b. cond b o (fin.get m p)) (same_itself p)

  -- a change at p changes nothing elsewhere
  pub get-put_at-elsewhere : (m : FinMap prefix_cmp X) (p : Cidr) (o : Option X) (q : Cidr)
      → same_prefix q p ≡ false → fin.get (put_at m p o) q ≡ fin.get m q
  get-put_at-elsewhere m p o q other =
      get-put_at m p o q ∙ ap (λ b. cond b o (fin.get m q)) other

  -- after a change at each of these to what f has there, the map has there what f has
  pub get-put_all : (f : Cidr → Option X) (m : FinMap prefix_cmp X) (ps : List Cidr) (q : Cidr)
      → fin.get (fold (λ n p. put_at n p (f p)) m ps) q
      ≡ cond (list_any (same_prefix q) ps) (f q) (fin.get m q)
  get-put_all f m [] q = refl
  get-put_all f m (p ∷ ps) q =
      get-put_all f (put_at m p (f p)) ps q
      ∙ ap (cond (list_any (same_prefix q) ps) (f q)) (get-put_at m p (f p) q)
      ∙ elim (same_tells q p) [
        | inl same ↦
            ap (λ b. cond (list_any (same_prefix q) ps) (f q) (cond b (f p) (fin.get m q))) same.0
            ∙ ap (λ z. cond (list_any (same_prefix q) ps) (f q) (f z)) (sym same.1)
            ∙ either (list_any (same_prefix q) ps) (f q)
            ∙ sym (ap (λ b. cond (b || list_any (same_prefix q) ps) (f q) (fin.get m q)) same.0)
        | inr other ↦
            ap (λ b. cond (list_any (same_prefix q) ps) (f q) (cond b (f p) (fin.get m q))) other.0
            ∙ sym (ap (λ b. cond (b || list_any (same_prefix q) ps) (f q) (fin.get m q)) other.0)
      ]
    where
      either : (b : Bool) (x : Option X) → cond b x x ≡ x
      either true x = refl
      either false x = refl

-- ---- a map without prefixes

-- a map without the first n prefixes, and then without the others up to the end
pub remove_all-rest : {X : Type 0} (m front made : FinMap prefix_cmp X) (ps : List Cidr) (n i : ℕ)
    → front ≡ remove_all m (take n ps)
    → made ≡ remove_all front (take i (take (length ps - n) (drop n ps)))
    → length (take (length ps - n) (drop n ps)) ≤ i → made ≡ remove_all m ps
remove_all-rest m front made ps n i first then end =
    let others = take (length ps - n) (drop n ps) in
    then ∙ ap (λ k. remove_all k (take i others)) first
    ∙ ap (remove_all (remove_all m (take n ps)))
    (take_all i others end ∙ take_all (length ps - n) (drop n ps) (omega (arith, length-drop n ps)))
    ∙ sym (fold-append fin.remove m (take n ps) (drop n ps))
    ∙ ap (remove_all m) (take-append-drop n ps)

-- ---- a map of some of the entries

both_true : (a b : Bool) → T a → T b → T (a && b)
both_true true b x y = y
both_true false b x y = x

module _ {X Y : Type 0} (g : X → Option Y) where
  picked_below : (p : Cidr) (es : List (Cidr × X)) → T (below_all prefix_cmp p es)
      → T (below_all prefix_cmp p (picked_entries g es))
  picked_below p [] h = tt
  picked_below p (e ∷ es) h =
      let rest = picked_below p es (second_true _ _ h) in
      elim (g e.1) as
      (λ o. T (below_all prefix_cmp p (add_front e.0 o (picked_entries g es)))) [
        | None ↦ rest
        | Some y ↦ both_true _ _ (first_true _ _ h) rest
      ]

  picked_sorted : (es : List (Cidr × X)) → T (fin.is_sorted prefix_cmp es)
      → T (fin.is_sorted prefix_cmp (picked_entries g es))
  picked_sorted [] h = tt
  picked_sorted (e ∷ es) h =
      let rest = picked_sorted es (second_true _ _ h) in
      elim (g e.1) as
      (λ o. T (fin.is_sorted prefix_cmp (add_front e.0 o (picked_entries g es)))) [
        | None ↦ rest
        | Some y ↦ both_true _ _ (picked_below e.0 es (first_true _ _ h)) rest
      ]

  -- the entries of a picked map are those of which g gives something
  pub entries-picked : (m : FinMap prefix_cmp X)
      → fin.entries (picked g m) ≡ picked_entries g (fin.entries m)
  unfolding picked
  entries-picked m =
      fin.entries-from_sorted prefix_cmp (picked_entries g (fin.entries m))
      (picked_sorted (fin.entries m) (fin.entries_sorted m))

  find-picked : (q : Cidr) (es : List (Cidr × X)) → T (fin.is_sorted prefix_cmp es)
      → fin.find prefix_cmp q (picked_entries g es)
      ≡ option_and_then g (fin.find prefix_cmp q es)
  find-picked q [] s = refl
  find-picked q (e ∷ es) s =
      let rest = find-picked q es (second_true _ _ s) in
      elim (eq_by_cmp prefix_cmp q e.0) as (λ b. eq_by_cmp prefix_cmp q e.0 ≡ b
      → fin.find prefix_cmp q (add_front e.0 (g e.1) (picked_entries g es))
      ≡ option_and_then g (cond b (Some e.1) (fin.find prefix_cmp q es))) [
        | true ↦ λ b. elim (g e.1) as
            (λ o. fin.find prefix_cmp q (add_front e.0 o (picked_entries g es)) ≡ o) [
              | None ↦
                  ap (λ z. fin.find prefix_cmp z (picked_entries g es)) (tied q e.0 b)
                  ∙ find_below e.0 (picked_entries g es) (picked_below e.0 es (first_true _ _ s))
              | Some y ↦
                  ap (λ c. cond c (Some y) (fin.find prefix_cmp q (picked_entries g es))) b
            ]
        | false ↦ λ b. elim (g e.1) as
            (λ o. fin.find prefix_cmp q (add_front e.0 o (picked_entries g es))
            ≡ option_and_then g (fin.find prefix_cmp q es)) [
              | None ↦ rest
              | Some y ↦
                  ap (λ c. cond c (Some y) (fin.find prefix_cmp q (picked_entries g es))) b ∙ rest
            ]
      ] refl

  -- a picked map has what g gives of what is there
  pub get-picked : (m : FinMap prefix_cmp X) (q : Cidr)
      → fin.get (picked g m) q ≡ option_and_then g (fin.get m q)
  get-picked m q =
      fin.get-entries (picked g m) q ∙ ap (fin.find prefix_cmp q) (entries-picked m)
      ∙ find-picked q (fin.entries m) (fin.entries_sorted m)
      ∙ ap (option_and_then g) (sym (fin.get-entries m q))
