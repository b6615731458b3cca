-- The message of what is owed, by the set of the prefixes that are to be withdrawn and the set of
-- those that are to be announced.
use Rattle.std.proofs.Common.{◌≡◌, ℕ, suc, ◌+◌, ◌-◌, Bool, true, false, cond, List, [], ◌∷◌, length, map, filter, Option, Some, None, refl, sym, ap, ◌∙◌, arith}
use Rattle.std.specs.Prelude.{is_none, is_some, option_and_then, option_map, slice_get}
use Rattle.std.specs.List.{AllByRecursion, fold, list_any}
use Rattle.std.specs.FinMap as fin
use Rattle.std.proofs.lemmas.List.{length-map}
use Rattle.std.proofs.lemmas.Option.{none-some, same_Some}
use Rattle.cn_base.specs.Cidr.{Cidr, same_prefix}
use Rattle.cn_base.specs.declared.ids.Asn.{Asn}
use Rattle.cn_base.specs.declared.ids.Origin.{Origin}
use Rattle.cn_base.specs.declared.route.Attributes.{Attributes}
use Rattle.cn_rib.specs.PrefixMaps.{add_front, picked, picked_entries}
use Rattle.cn_rib.specs.PrefixSet.{PrefixSet}
use Rattle.cn_rib.specs.PrefixSet as set
use Rattle.cn_rib.proofs.Keyed.{get_removed_all, same_set}
use Rattle.cn_rib.proofs.PrefixMaps.{entries-picked, get-picked}
use Rattle.cn_wire.specs.Sizes.{longest_prefix_within}
use Rattle.cn_wire.specs.Writing.{spelled_attrs}
use Rattle.cn_wire.specs.declared.update.Attrs.{Attrs}
use Rattle.cn_pack.specs.Packing.{announced_by, announcing, is_same, likewise, nothing, packed, packed_by, wants, withdrawals, withdrawing}
use Rattle.cn_pack.specs.declared.owed.Owed.{Owed as Row}
use Rattle.cn_core.specs.Owed.{OwedMap, pair_of, row_of, rows, without}
use Rattle.cn_core.proofs.OwedRows.{each_entry}

-- ---- what is owed for a prefix, as a test

-- a withdrawal is owed
abbrev pub is_withdrawn_value : Option (Option Attributes) → Bool
is_withdrawn_value None = false
is_withdrawn_value (Some None) = true
is_withdrawn_value (Some (Some w)) = false

-- a route is owed
abbrev pub is_announced_value : Option (Option Attributes) → Bool
is_announced_value None = false
is_announced_value (Some None) = false
is_announced_value (Some (Some w)) = true

-- what is owed for p is a route with this path and this ORIGIN
abbrev pub is_announced_as : OwedMap → List Asn → Origin → Cidr → Bool
is_announced_as m path origin p =
    is_same path origin (option_and_then (λ w. option_map pair_of w) (fin.get m p))

-- the path attributes of the message that announces these
abbrev pub attrs_with : Attributes → ℕ → Attrs
attrs_with w next_hop = record { origin = w.origin; path = w.path; next_hop = next_hop }

-- ---- the sets, picked from what is owed

abbrev if_withdrawn : Option Attributes → Option (Unit {0})
if_withdrawn None = Some tt
if_withdrawn (Some w) = None

abbrev if_announced : Option Attributes → Option (Unit {0})
if_announced None = None
if_announced (Some w) = Some tt

withdrawn_is : (v : Option (Option Attributes))
    → is_withdrawn_value v ≡ is_some (option_and_then if_withdrawn v)
withdrawn_is None = refl
withdrawn_is (Some None) = refl
withdrawn_is (Some (Some w)) = refl

announced_is : (v : Option (Option Attributes))
    → is_announced_value v ≡ is_some (option_and_then if_announced v)
announced_is None = refl
announced_is (Some None) = refl
announced_is (Some (Some w)) = refl

abbrev keys_picked : (Option Attributes → Option (Unit {0})) → List (Cidr × Option Attributes)
    → List Cidr
keys_picked g es = map (λ (e : Cidr × Unit {0}). e.0) (picked_entries g es)

-- a set that has what g gives of the map has the keys of these
picked_is : (g : Option Attributes → Option (Unit {0})) (m : OwedMap) (s : PrefixSet)
    → ((q : Cidr) → set.contains s q ≡ is_some (option_and_then g (fin.get m q)))
    → fin.keys s ≡ keys_picked g (fin.entries m)
picked_is g m s each =
    ap fin.keys (same_set s (picked g m) (λ q. each q ∙ sym (ap is_some (get-picked g m q))))
    ∙ ap (map (λ (e : Cidr × Unit {0}). e.0)) (entries-picked g m)

-- ---- the prefixes of the rows

abbrev row_prefixes : List Row → List Cidr
row_prefixes os = map (λ o. o.prefix) os

withdrawals_by_keys : (es : List (Cidr × Option Attributes))
    → withdrawals (map row_of es) ≡ keys_picked if_withdrawn es
withdrawals_by_keys [] = refl
withdrawals_by_keys (e ∷ es) =
    elim e.1 as (λ v. row_prefixes (cond (is_none (option_map pair_of v))
    (row_of (e.0, v) ∷ filter (λ (o : Row). is_none o.wanted) (map row_of es))
    (filter (λ (o : Row). is_none o.wanted) (map row_of es)))
    ≡ map (λ (x : Cidr × Unit {0}). x.0)
    (add_front e.0 (if_withdrawn v) (picked_entries if_withdrawn es))) [
      | None ↦ ap (λ ps. e.0 ∷ ps) (withdrawals_by_keys es)
      | Some w ↦ withdrawals_by_keys es
    ]

-- a row is kept by one test exactly where its prefix is kept by another
one_more : (b c : Bool) (o : Row) (os : List Row) (ps : List Cidr) → c ≡ b → row_prefixes os ≡ ps
    → row_prefixes (cond b (o ∷ os) os) ≡ cond c (o.prefix ∷ ps) ps
one_more true c o os ps e rest =
    ap (λ qs. o.prefix ∷ qs) rest ∙ sym (ap (λ x. cond x (o.prefix ∷ ps) ps) e)
one_more false c o os ps e rest = rest ∙ sym (ap (λ x. cond x (o.prefix ∷ ps) ps) e)

module _ (m : OwedMap) (path : List Asn) (origin : Origin) where
  likewise_by_keys : (es : List (Cidr × Option Attributes))
      → AllByRecursion (λ e. fin.get m e.0 ≡ Some e.1) es
      → likewise path origin (map row_of es)
      ≡ filter (is_announced_as m path origin) (keys_picked if_announced es)
  likewise_by_keys [] has = refl
  likewise_by_keys (e ∷ es) has =
      let rest = likewise_by_keys es has.1 in
      let tells : is_announced_as m path origin e.0 ≡ is_same path origin (option_map pair_of e.1) =
      ap (λ o. is_same path origin (option_and_then (λ w. option_map pair_of w) o)) has.0 in
      elim e.1 as (λ v. is_announced_as m path origin e.0
      ≡ is_same path origin (option_map pair_of v)
      → row_prefixes (cond (is_same path origin (option_map pair_of v))
      (row_of (e.0, v) ∷ filter (wants path origin) (map row_of es))
      (filter (wants path origin) (map row_of es)))
      ≡ filter (is_announced_as m path origin) (map (λ (x : Cidr × Unit {0}). x.0)
      (add_front e.0 (if_announced v) (picked_entries if_announced es)))) [
        | None ↦ λ t. rest
        | Some w ↦ λ t.
            one_more (is_same path origin (Some (pair_of w))) (is_announced_as m path origin e.0)
            (row_of (e.0, Some w)) (filter (wants path origin) (map row_of es))
            (filter (is_announced_as m path origin) (keys_picked if_announced es)) t rest
      ] tells

-- ---- how many

counted : (es : List (Cidr × Option Attributes))
    → length es ≡ length (keys_picked if_withdrawn es) + length (keys_picked if_announced es)
counted [] = refl
counted (e ∷ es) =
    let rest = counted es in
    elim e.1 as (λ v. suc (length es)
    ≡ length (map (λ (x : Cidr × Unit {0}). x.0)
    (add_front e.0 (if_withdrawn v) (picked_entries if_withdrawn es)))
    + length (map (λ (x : Cidr × Unit {0}). x.0)
    (add_front e.0 (if_announced v) (picked_entries if_announced es)))) [
      | None ↦ omega (arith, rest)
      | Some w ↦ omega (arith, rest)
    ]

-- ---- the message, by its first row

-- where nothing is to be withdrawn, the first row is the first that is to be announced
first_announced : (m : OwedMap) (es : List (Cidr × Option Attributes)) (q : Cidr) (w : Attributes)
    (next_hop : ℕ)
    → AllByRecursion (λ e. fin.get m e.0 ≡ Some e.1) es → withdrawals (map row_of es) ≡ []
    → slice_get (keys_picked if_announced es) 0 ≡ Some q → fin.get m q ≡ Some (Some w)
    → packed_by [] (map row_of es) next_hop
    ≡ announced_by (Some (pair_of w)) (map row_of es) next_hop
first_announced m [] q w next_hop has none first held = absurd (none-some q first)
first_announced m (e ∷ es) q w next_hop has none first held = by_value e.1 refl
  where
    by_value : (v : Option Attributes) → e.1 ≡ v
        → announced_by (option_map pair_of e.1) (map row_of (e ∷ es)) next_hop
        ≡ announced_by (Some (pair_of w)) (map row_of (e ∷ es)) next_hop
    by_value None is =
        let some : withdrawals (map row_of (e ∷ es)) ≡ e.0 ∷ withdrawals (map row_of es) =
        ap (λ v. row_prefixes (cond (is_none (option_map pair_of v))
        (row_of e ∷ filter (λ (o : Row). is_none o.wanted) (map row_of es))
        (filter (λ (o : Row). is_none o.wanted) (map row_of es)))) is in
        absurd (let never : ⊥ = cc in never)
    by_value (Some x) is =
        let at : slice_get (keys_picked if_announced (e ∷ es)) 0 ≡ Some e.0 =
        ap (λ v. slice_get (map (λ (y : Cidr × Unit {0}). y.0)
        (add_front e.0 (if_announced v) (picked_entries if_announced es))) 0) is in
        let same : e.0 ≡ q = same_Some e.0 q (sym at ∙ first) in
        let value : e.1 ≡ Some w =
        same_Some e.1 (Some w) (sym has.0 ∙ ap (fin.get m) same ∙ held) in
        ap (λ v. announced_by (option_map pair_of v) (map row_of (e ∷ es)) next_hop) value

packed_first : (ps : List Cidr) (os : List Row) (q : Cidr) (next_hop : ℕ) → slice_get ps 0 ≡ Some q
    → packed_by ps os next_hop ≡ withdrawing (longest_prefix_within 4073 ps)
packed_first [] os q next_hop first = absurd (none-some q first)
packed_first (p ∷ ps) os q next_hop first = refl

no_first : (ps : List Cidr) → slice_get ps 0 ≡ None → ps ≡ []
no_first [] e = refl
no_first (p ∷ ps) e = absurd (none-some p (sym e))

no_rows : (es : List (Cidr × Option Attributes)) → length es ≡ 0 → es ≡ []
no_rows [] e = refl
no_rows (e ∷ es) is = absurd (omega arith)

len_by_keys : (s : PrefixSet) → fin.len s ≡ length (fin.keys s)
len_by_keys s = fin.len-entries s ∙ sym (length-map (fin.entries s) (λ e. e.0))

-- ---- by the two sets

module _ (m : OwedMap) (withdrawn announced : PrefixSet)
    (are_withdrawn : (q : Cidr) → set.contains withdrawn q ≡ is_withdrawn_value (fin.get m q))
    (are_announced : (q : Cidr) → set.contains announced q ≡ is_announced_value (fin.get m q)) where
  keys_withdrawn : fin.keys withdrawn ≡ keys_picked if_withdrawn (fin.entries m)
  keys_withdrawn =
      picked_is if_withdrawn m withdrawn (λ q. are_withdrawn q ∙ withdrawn_is (fin.get m q))

  keys_announced : fin.keys announced ≡ keys_picked if_announced (fin.entries m)
  keys_announced =
      picked_is if_announced m announced (λ q. are_announced q ∙ announced_is (fin.get m q))

  has_entries : AllByRecursion (λ e. fin.get m e.0 ≡ Some e.1) (fin.entries m)
  has_entries = each_entry (λ p v. fin.get m p ≡ Some v) m (λ p v h. h)

  -- the prefixes that are to be withdrawn
  pub withdrawals-rows : withdrawals (rows m) ≡ fin.keys withdrawn
  unfolding rows
  withdrawals-rows = withdrawals_by_keys (fin.entries m) ∙ sym keys_withdrawn

  -- the prefixes that are to be announced with this path and this ORIGIN
  pub likewise-rows : (path : List Asn) (origin : Origin)
      → likewise path origin (rows m)
      ≡ filter (is_announced_as m path origin) (fin.keys announced)
  unfolding rows
  likewise-rows path origin =
      likewise_by_keys m path origin (fin.entries m) has_entries
      ∙ ap (filter (is_announced_as m path origin)) (sym keys_announced)

  -- ---- the message

  -- where there is a prefix to be withdrawn, the message withdraws as many as fit
  pub packed-withdrawn : (q : Cidr) (next_hop : ℕ) → set.least withdrawn ≡ Some q
      → packed (rows m) next_hop
      ≡ withdrawing (longest_prefix_within 4073 (fin.keys withdrawn))
  packed-withdrawn q next_hop first =
      ap (λ ps. packed_by ps (rows m) next_hop) withdrawals-rows
      ∙ packed_first (fin.keys withdrawn) (rows m) q next_hop first

  announced-first : (q : Cidr) (w : Attributes) (next_hop : ℕ) → withdrawals (rows m) ≡ []
      → set.least announced ≡ Some q → fin.get m q ≡ Some (Some w)
      → packed_by [] (rows m) next_hop
      ≡ announced_by (Some (pair_of w)) (rows m) next_hop
  unfolding rows
  announced-first q w next_hop none first held =
      first_announced m (fin.entries m) q w next_hop has_entries none
      (ap (λ ps. slice_get ps 0) (sym keys_announced) ∙ first) held

  -- where there is none, it announces as many as fit of those that are to be announced as the
  -- least is
  pub packed-announced : (q : Cidr) (w : Attributes) (next_hop : ℕ) → set.least withdrawn ≡ None
      → set.least announced ≡ Some q → fin.get m q ≡ Some (Some w)
      → packed (rows m) next_hop
      ≡ announcing (attrs_with w next_hop)
      (longest_prefix_within (4073 - length (spelled_attrs (Some (attrs_with w next_hop))))
      (filter (is_announced_as m w.path w.origin) (fin.keys announced)))
  packed-announced q w next_hop none first held =
      let empty : withdrawals (rows m) ≡ [] =
      withdrawals-rows ∙ no_first (fin.keys withdrawn) none in
      ap (λ ps. packed_by ps (rows m) next_hop) empty
      ∙ announced-first q w next_hop empty first held
      ∙ ap (λ ps. announcing (attrs_with w next_hop)
      (longest_prefix_within (4073 - length (spelled_attrs (Some (attrs_with w next_hop)))) ps))
      (likewise-rows w.path w.origin)

  -- what is owed is to be withdrawn or to be announced
  pub len-owed : fin.len m ≡ fin.len withdrawn + fin.len announced
  len-owed =
      fin.len-entries m ∙ counted (fin.entries m)
      ∙ (λ i. length (sym keys_withdrawn i) + length (sym keys_announced i))
      ∙ (λ i. sym (len_by_keys withdrawn) i + sym (len_by_keys announced) i)

  no-row : set.least withdrawn ≡ None → set.least announced ≡ None → rows m ≡ []
  unfolding rows
  no-row none lack =
      let no_withdrawal : keys_picked if_withdrawn (fin.entries m) ≡ [] =
      sym keys_withdrawn ∙ no_first (fin.keys withdrawn) none in
      let no_announcement : keys_picked if_announced (fin.entries m) ≡ [] =
      sym keys_announced ∙ no_first (fin.keys announced) lack in
      ap (map row_of)
      (no_rows (fin.entries m)
      (counted (fin.entries m)
      ∙ (λ i. length (no_withdrawal i) + length (no_announcement i))))

  -- where there is neither, the message is empty
  pub packed-nothing : (next_hop : ℕ) → set.least withdrawn ≡ None → set.least announced ≡ None
      → packed (rows m) next_hop ≡ nothing
  packed-nothing next_hop none lack =
      ap (λ ps. packed_by ps (rows m) next_hop)
      (withdrawals-rows ∙ no_first (fin.keys withdrawn) none)
      ∙ ap (λ os. packed_by [] os next_hop) (no-row none lack)

  -- ---- after prefixes are taken out

  -- those that are to be withdrawn
  pub withdrawn-without : (ps : List Cidr) (q : Cidr)
      → set.contains (fold set.remove withdrawn ps) q
      ≡ is_withdrawn_value (fin.get (without m ps) q)
  withdrawn-without ps q =
      ap is_some (get_removed_all withdrawn ps q)
      ∙ elim (list_any (same_prefix q) ps) as (λ b. is_some (cond b None (fin.get withdrawn q))
      ≡ is_withdrawn_value (cond b None (fin.get m q))) [
        | true ↦ refl
        | false ↦ are_withdrawn q
      ]
      ∙ sym (ap is_withdrawn_value (get_removed_all m ps q))

  -- those that are to be announced
  pub announced-without : (ps : List Cidr) (q : Cidr)
      → set.contains (fold set.remove announced ps) q
      ≡ is_announced_value (fin.get (without m ps) q)
  announced-without ps q =
      ap is_some (get_removed_all announced ps q)
      ∙ elim (list_any (same_prefix q) ps) as (λ b. is_some (cond b None (fin.get announced q))
      ≡ is_announced_value (cond b None (fin.get m q))) [
        | true ↦ refl
        | false ↦ are_announced q
      ]
      ∙ sym (ap is_announced_value (get_removed_all m ps q))
