-- What a mapped map has, and what a change of a map makes of the mapped one. Other crates may cite
-- these.
use Rattle.std.proofs.Common.{◌≡◌, Bool, true, false, cond, List, [], ◌∷◌, map, Option, Some, None, refl, sym, ap, ◌∙◌}
use Rattle.std.specs.Prelude.{option_and_then, option_map}
use Rattle.std.specs.List.{fold}
use Rattle.std.specs.FinMap.{FinMap}
use Rattle.std.specs.FinMap as fin
use Rattle.cn_base.specs.Cidr.{Cidr, same_prefix}
use Rattle.cn_base.specs.Table.{prefix_cmp}
use Rattle.cn_rib.specs.PrefixMaps.{mapped, picked_entries, put_at, put_each, remove_all}
use Rattle.cn_rib.proofs.Keyed.{get_empty, get_inserted, get_removed, same_rows}
use Rattle.cn_rib.proofs.PrefixMaps.{entries-picked, get-picked}

module _ {X Y : Type 0} (f : X → Y) where
  then_some : (o : Option X) → option_and_then (λ x. Some (f x)) o ≡ option_map f o
  then_some None = refl
  then_some (Some x) = refl

  pub get-mapped : (m : FinMap prefix_cmp X) (q : Cidr)
      → fin.get (mapped f m) q ≡ option_map f (fin.get m q)
  get-mapped m q = get-picked (λ x. Some (f x)) m q ∙ then_some (fin.get m q)

  -- two maps are the same under f where what they have is
  pub mapped-is : (m : FinMap prefix_cmp X) (n : FinMap prefix_cmp Y)
      → ((q : Cidr) → option_map f (fin.get m q) ≡ fin.get n q) → mapped f m ≡ n
  mapped-is m n same = same_rows (mapped f m) n (λ q. get-mapped m q ∙ same q)

  keys_picked : (es : List (Cidr × X))
      → map (λ e. e.0) (picked_entries (λ x. Some (f x)) es) ≡ map (λ e. e.0) es
  keys_picked [] = refl
  keys_picked (e ∷ es) = ap (λ ps. e.0 ∷ ps) (keys_picked es)

  pub keys-mapped : (m : FinMap prefix_cmp X) → fin.keys (mapped f m) ≡ fin.keys m
  keys-mapped m =
      ap (map (λ e. e.0)) (entries-picked (λ x. Some (f x)) m) ∙ keys_picked (fin.entries m)

  pub empty-mapped : mapped f fin.empty ≡ fin.empty
  empty-mapped =
      mapped-is fin.empty fin.empty (λ q. ap (option_map f) (get_empty q) ∙ sym (get_empty q))

  either : (b : Bool) (o r : Option X)
      → option_map f (cond b o r) ≡ cond b (option_map f o) (option_map f r)
  either true o r = refl
  either false o r = refl

  pub insert-mapped : (m : FinMap prefix_cmp X) (p : Cidr) (x : X)
      → mapped f (fin.insert m p x) ≡ fin.insert (mapped f m) p (f x)
  insert-mapped m p x = mapped-is (fin.insert m p x) (fin.insert (mapped f m) p (f x)) (λ q.
      ap (option_map f) (get_inserted m p x q)
      ∙ either (same_prefix q p) (Some x) (fin.get m q)
      ∙ ap (cond (same_prefix q p) (Some (f x))) (sym (get-mapped m q))
      ∙ sym (get_inserted (mapped f m) p (f x) q))

  pub remove-mapped : (m : FinMap prefix_cmp X) (p : Cidr)
      → mapped f (fin.remove m p) ≡ fin.remove (mapped f m) p
  remove-mapped m p = mapped-is (fin.remove m p) (fin.remove (mapped f m) p) (λ q.
      ap (option_map f) (get_removed m p q)
      ∙ either (same_prefix q p) None (fin.get m q)
      ∙ ap (cond (same_prefix q p) None) (sym (get-mapped m q))
      ∙ sym (get_removed (mapped f m) p q))

  pub put_at-mapped : (m : FinMap prefix_cmp X) (p : Cidr) (o : Option X)
      → mapped f (put_at m p o) ≡ put_at (mapped f m) p (option_map f o)
  put_at-mapped m p None = remove-mapped m p
  put_at-mapped m p (Some x) = insert-mapped m p x

  pub remove_all-mapped : (m : FinMap prefix_cmp X) (ps : List Cidr)
      → mapped f (remove_all m ps) ≡ remove_all (mapped f m) ps
  remove_all-mapped m [] = refl
  remove_all-mapped m (p ∷ ps) =
      remove_all-mapped (fin.remove m p) ps ∙ ap (λ n. remove_all n ps) (remove-mapped m p)

  put_all-mapped : (m : FinMap prefix_cmp X) (ps : List Cidr) (x : X)
      → mapped f (fold (λ n p. fin.insert n p x) m ps)
      ≡ fold (λ n p. fin.insert n p (f x)) (mapped f m) ps
  put_all-mapped m [] x = refl
  put_all-mapped m (p ∷ ps) x =
      put_all-mapped (fin.insert m p x) ps x
      ∙ ap (λ n. fold (λ k q. fin.insert k q (f x)) n ps) (insert-mapped m p x)

  pub put_each-mapped : (m : FinMap prefix_cmp X) (ps : List Cidr) (o : Option X)
      → mapped f (put_each m ps o) ≡ put_each (mapped f m) ps (option_map f o)
  put_each-mapped m ps None = refl
  put_each-mapped m ps (Some x) = put_all-mapped m ps x

  -- f and g give the same map where they give the same of what is there
  pub same-mapped : (g : X → Y) (m : FinMap prefix_cmp X)
      → ((q : Cidr) (x : X) → fin.get m q ≡ Some x → f x ≡ g x) → mapped f m ≡ mapped g m
  same-mapped g m same = mapped-is m (mapped g m) (λ q.
      there q (fin.get m q) refl
      ∙ sym (get-picked (λ x. Some (g x)) m q ∙ then_some_of g (fin.get m q)))
    where
      then_some_of : (h : X → Y) (o : Option X)
          → option_and_then (λ x. Some (h x)) o ≡ option_map h o
      then_some_of h None = refl
      then_some_of h (Some x) = refl

      there : (q : Cidr) (o : Option X) → fin.get m q ≡ o → option_map f o ≡ option_map g o
      there q None e = refl
      there q (Some x) e = ap Some (same q x e)
