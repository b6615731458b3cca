-- What a packed message says of what is owed: it withdraws, or it announces.
use Rattle.std.proofs.Common.{◌≡◌, ◌⊎◌, ℕ, ◌-◌, Bool, true, false, cond, leb, List, [], ◌∷◌, map, filter, Option, Some, None, length, refl, sym, ap, ◌∙◌, subst, inl, inr, true≢false}
use Rattle.std.specs.Prelude.{◌||◌, T, is_none, option_map}
use Rattle.std.specs.List.{list_any}
use Rattle.std.specs.FinMap as fin
use Rattle.cn_base.specs.Cidr.{Cidr, same_prefix}
use Rattle.cn_base.specs.Table.{prefix_cmp}
use Rattle.cn_base.specs.declared.ids.Asn.{Asn}
use Rattle.cn_base.specs.declared.ids.Origin.{Origin}
use Rattle.cn_base.specs.declared.route.Attributes.{Attributes}
use Rattle.cn_rib.specs.Updates.{said_of}
use Rattle.cn_rib.proofs.Keyed.{found_first, found_later, sorted_parts}
use Rattle.cn_rib.proofs.Prefixes.{same_itself, same_tells}
use Rattle.cn_wire.specs.Sizes.{longest_prefix_within}
use Rattle.cn_wire.specs.Writing.{spelled_attrs, spelled_prefix}
use Rattle.cn_wire.specs.declared.update.Attrs.{Attrs}
use Rattle.cn_wire.specs.declared.update.Update.{Update}
use Rattle.cn_pack.specs.declared.owed.Owed.{Owed as Row}
use Rattle.cn_pack.specs.Packing.{announced_by, announcing, likewise, packed, packed_by, wants, withdrawals, withdrawing}
use Rattle.cn_pack.proofs.Same.{wants_is_equal}
use Rattle.cn_core.specs.Owed.{OwedMap, pair_of, row_of, rows}

-- ---- the entry of a row that passes a test

module _ (t : Row → Bool) (v : Option Attributes) (p : Cidr)
    (tells : (e : Cidr × Option Attributes) → t (row_of e) ≡ true → e.1 ≡ v) where
  entry_of_row : (es : List (Cidr × Option Attributes)) → T (fin.is_sorted prefix_cmp es)
      → list_any (same_prefix p) (map (λ (o : Row). o.prefix) (filter t (map row_of es))) ≡ true
      → fin.find prefix_cmp p es ≡ Some v
  entry_of_row [] s e = absurd (true≢false (sym e))
  entry_of_row (x ∷ es) s e =
      let later : list_any (same_prefix p) (map (λ (o : Row). o.prefix) (filter t (map row_of es)))
      ≡ true → fin.find prefix_cmp p (x ∷ es) ≡ Some v =
      λ h. found_later x es p v s (entry_of_row es (sorted_parts x es s).1 h) in
      elim (t (row_of x)) as (λ b. t (row_of x) ≡ b
      → list_any (same_prefix p) (map (λ (o : Row). o.prefix)
      (cond b (row_of x ∷ filter t (map row_of es)) (filter t (map row_of es)))) ≡ true
      → fin.find prefix_cmp p (x ∷ es) ≡ Some v) [
        | true ↦ λ b h. elim (same_tells p x.0) [
          | inl same ↦
              subst (λ (z : Cidr). fin.find prefix_cmp z (x ∷ es) ≡ Some v) (sym same.1)
              (found_first x es ∙ ap Some (tells x b))
          | inr other ↦ later (sym (ap (λ c. c || list_any (same_prefix p)
              (map (λ (o : Row). o.prefix) (filter t (map row_of es)))) other.0) ∙ h)
        ]
        | false ↦ λ b h. later h
      ] refl e

withdrawn_tells : (w : Option Attributes) → is_none (option_map pair_of w) ≡ true → w ≡ None
withdrawn_tells None e = refl
withdrawn_tells (Some w) e = absurd (true≢false (sym e))

abbrev to_pair : Option Attributes → Option (List Asn × Origin)
to_pair w = option_map pair_of w

pair_is : (x y : List Asn × Origin) → Some x ≡ Some y → x ≡ y
pair_is x y e = cc

wanted_tells : (path : List Asn) (origin : Origin) (w : Option Attributes)
    → to_pair w ≡ Some (path, origin) → w ≡ Some (record { path = path; origin = origin })
wanted_tells path origin None e = cc
wanted_tells path origin (Some w) e =
    let both = pair_is (pair_of w) (path, origin) e in
    λ i. Some (record { path = (both i).0; origin = (both i).1 })

-- a prefix that is to be withdrawn, in the map
pub is_withdrawal : (m : OwedMap) (p : Cidr)
    → list_any (same_prefix p) (withdrawals (rows m)) ≡ true → fin.get m p ≡ Some None
unfolding rows
is_withdrawal m p e =
    fin.get-entries m p
    ∙ entry_of_row (λ (o : Row). is_none o.wanted) None p (λ x t. withdrawn_tells x.1 t)
    (fin.entries m) (fin.entries_sorted m) e

-- a prefix that is to be announced so, in the map
pub is_likewise : (m : OwedMap) (path : List Asn) (origin : Origin) (p : Cidr)
    → list_any (same_prefix p) (likewise path origin (rows m)) ≡ true
    → fin.get m p ≡ Some (Some (record { path = path; origin = origin }))
unfolding rows
is_likewise m path origin p e =
    fin.get-entries m p
    ∙ entry_of_row (wants path origin) (Some (record { path = path; origin = origin })) p
    (λ x t. wanted_tells path origin x.1 ((wants_is_equal path origin (row_of x)).0 t))
    (fin.entries m) (fin.entries_sorted m) e

-- ---- the prefixes of the message

-- what is among those that fit is among all
any_within : (t : Cidr → Bool) (room : ℕ) (ps : List Cidr)
    → list_any t (longest_prefix_within room ps) ≡ true → list_any t ps ≡ true
any_within t room [] e = e
any_within t room (p ∷ ps) e =
    elim (leb (length (spelled_prefix p)) room) as (λ b. list_any t
    (cond b (p ∷ longest_prefix_within (room - length (spelled_prefix p)) ps) []) ≡ true
    → list_any t (p ∷ ps) ≡ true) [
      | true ↦ λ e. elim (t p) as (λ c.
          (c || list_any t (longest_prefix_within (room - length (spelled_prefix p)) ps)) ≡ true
          → (c || list_any t ps) ≡ true) [
            | true ↦ λ _. refl
            | false ↦ λ e. any_within t (room - length (spelled_prefix p)) ps e
          ] e
      | false ↦ λ e. absurd (true≢false (sym e))
    ] e

-- prefixes whose withdrawal is owed are withdrawn
pub record Withdraws (m : OwedMap) (u : Update) : Type 0 where
  pub prefixes : List Cidr
  pub is : u ≡ withdrawing prefixes
  pub tells : (p : Cidr) → list_any (same_prefix p) prefixes ≡ true → fin.get m p ≡ Some None

-- prefixes that are owed so are announced
pub record Announces (m : OwedMap) (next_hop : ℕ) (u : Update) : Type 0 where
  pub attrs : Attrs
  pub prefixes : List Cidr
  pub is : u ≡ announcing attrs prefixes
  pub hop : attrs.next_hop ≡ next_hop
  pub tells : (p : Cidr) → list_any (same_prefix p) prefixes ≡ true
      → fin.get m p ≡ Some (Some (said_of attrs))
  pub source : Cidr
  pub wanted : fin.get m source ≡ Some (Some (said_of attrs))

-- the update withdraws or announces
abbrev pub Saying : OwedMap → ℕ → Update → Type 0
Saying m next_hop u = Withdraws m u ⊎ Announces m next_hop u

none_said : (m : OwedMap) (next_hop : ℕ) (u : Update) → u ≡ withdrawing [] → Saying m next_hop u
none_said m next_hop u e =
    inl (record { prefixes = []; is = e; tells = λ p h. absurd (true≢false (sym h)) })

announced_said : (m : OwedMap) (w : List Asn × Origin) (source : Cidr) (next_hop : ℕ)
    → list_any (same_prefix source) (likewise w.0 w.1 (rows m)) ≡ true
    → Saying m next_hop (announced_by (Some w) (rows m) next_hop)
announced_said m w source next_hop there =
    let a : Attrs = record { origin = w.1; path = w.0; next_hop = next_hop } in
    let room = 4073 - length (spelled_attrs (Some a)) in
    let alike = likewise w.0 w.1 (rows m) in
    inr (record {
      attrs = a;
      prefixes = longest_prefix_within room alike;
      is = refl;
      hop = refl;
      tells = λ p h. is_likewise m w.0 w.1 p (any_within (same_prefix p) room alike h);
      source = source;
      wanted = is_likewise m w.0 w.1 source there;
    })

-- the first row is among those that are announced as it is
first_there : (o : Row) (os : List Row) (w : List Asn × Origin) → o.wanted ≡ Some w
    → list_any (same_prefix o.prefix) (likewise w.0 w.1 (o ∷ os)) ≡ true
first_there o os w e =
    ap (λ b. list_any (same_prefix o.prefix)
    (map (λ (x : Row). x.prefix) (cond b (o ∷ filter (wants w.0 w.1) os)
    (filter (wants w.0 w.1) os)))) ((wants_is_equal w.0 w.1 o).1 e)
    ∙ ap (λ b. b || list_any (same_prefix o.prefix) (likewise w.0 w.1 os)) (same_itself o.prefix)

first_said : (m : OwedMap) (o : Row) (os : List Row) (next_hop : ℕ) → rows m ≡ o ∷ os
    → (v : Option (List Asn × Origin)) → o.wanted ≡ v
    → Saying m next_hop (announced_by v (o ∷ os) next_hop)
first_said m o os next_hop is None e = none_said m next_hop _ refl
first_said m o os next_hop is (Some w) e =
    subst (λ (xs : List Row). Saying m next_hop (announced_by (Some w) xs next_hop)) is
    (announced_said m w o.prefix next_hop
    (ap (λ (xs : List Row). list_any (same_prefix o.prefix) (likewise w.0 w.1 xs)) is
    ∙ first_there o os w e))

packed_by_said : (m : OwedMap) (ps : List Cidr) (os : List Row) (next_hop : ℕ)
    → withdrawals (rows m) ≡ ps → rows m ≡ os → Saying m next_hop (packed_by ps os next_hop)
packed_by_said m (x ∷ ps) os next_hop e is =
    inl (record {
      prefixes = longest_prefix_within 4073 (x ∷ ps);
      is = refl;
      tells =
          λ p h. is_withdrawal m p
          (ap (list_any (same_prefix p)) e ∙ any_within (same_prefix p) 4073 (x ∷ ps) h);
    })
packed_by_said m [] [] next_hop e is = none_said m next_hop _ refl
packed_by_said m [] (o ∷ os) next_hop e is = first_said m o os next_hop is o.wanted refl

-- the packed message withdraws or announces what is owed
pub packed_said : (m : OwedMap) (next_hop : ℕ) → Saying m next_hop (packed (rows m) next_hop)
packed_said m next_hop = packed_by_said m (withdrawals (rows m)) (rows m) next_hop refl refl
