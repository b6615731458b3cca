-- For what devices hold, there is one list of their tables.
use Rattle.std.proofs.Common.{◌≡◌, Bool, true, false, cond, List, [], ◌∷◌, map, All, Some, None, Less, Equal, Greater, refl, sym, ap, ◌∙◌, subst, arith}
use Rattle.std.specs.Prelude.{option_map}
use Rattle.std.specs.List.{find}
use Rattle.std.specs.Ordering.{on, ordering_reverse}
use Rattle.std.proofs.lemmas.Bool.Decides.{nat_tests}
use Rattle.std.proofs.lemmas.List.Elements.{All-head, All-tail}
use Rattle.std.proofs.lemmas.Map.Keys.{sorted_tail}
use Rattle.std.proofs.lemmas.Map.Views.{All-after_first}
use Rattle.std.proofs.lemmas.Option.{none-some, same_Some}
use Rattle.cn_base.specs.Cidr.{Cidr, same_prefix}
use Rattle.cn_base.specs.Table.{AscendsByPrefix, choice_for, prefix_cmp}
use Rattle.cn_base.specs.declared.ids.DeviceId.{DeviceId}
use Rattle.cn_base.specs.declared.table.TableRow.{TableRow}
use Rattle.cn_net.specs.Network.{Network, IsDevice}
use Rattle.cn_net.specs.OneState.{Agree}
use Rattle.cn_net.specs.Stable.{Assignment}
use Rattle.cn_rib.proofs.Prefixes.{prefix_cmp-IsAntisymmetric, prefix_cmp_total, same_is, same_itself}
use Rattle.cn_core.specs.Tables.{AreTables, IsTableOf}
use Rattle.cn_core.specs.declared.pull.DeviceTable.{DeviceTable}

-- ---- what the first row has, and what the others have

above_differs : (p q : Cidr) → prefix_cmp p q ≡ Less → same_prefix q p ≡ false
above_differs p q h = grind (arith, nat_tests)

module _ (r : TableRow) (rows : List TableRow) where
  at_test : (p : Cidr) (b : Bool) → same_prefix r.prefix p ≡ b → choice_for (r ∷ rows) p
      ≡ option_map (λ (x : TableRow). x.choice)
      (cond b (Some r) (find (λ x. same_prefix x.prefix p) rows))
  at_test p b e =
      ap (λ t. option_map (λ (x : TableRow). x.choice)
      (cond t (Some r) (find (λ x. same_prefix x.prefix p) rows))) e

  choice_of_first : choice_for (r ∷ rows) r.prefix ≡ Some r.choice
  choice_of_first = at_test r.prefix true (same_itself r.prefix)

  choice_behind : (p : Cidr) → same_prefix r.prefix p ≡ false
      → choice_for (r ∷ rows) p ≡ choice_for rows p
  choice_behind p e = at_test p false e

-- the first row is below the second
rises : (r s : TableRow) (rows : List TableRow) → AscendsByPrefix (r ∷ s ∷ rows)
    → prefix_cmp r.prefix s.prefix ≡ Less
rises r s rows up =
    let order = on (λ (x : TableRow). x.prefix) prefix_cmp in
    All-head (λ (x : TableRow). order r x ≡ Less) s rows (All-after_first order r (s ∷ rows) up)

tail_ascends : (r : TableRow) (rows : List TableRow) → AscendsByPrefix (r ∷ rows)
    → AscendsByPrefix rows
tail_ascends r rows up = sorted_tail (on (λ (x : TableRow). x.prefix) prefix_cmp) r rows up

-- ascending rows have nothing for a prefix that is below the first
none_below : (p : Cidr) (r : TableRow) (rows : List TableRow) → AscendsByPrefix (r ∷ rows)
    → prefix_cmp p r.prefix ≡ Less → choice_for (r ∷ rows) p ≡ None
none_below p r [] up low = choice_behind r [] p (above_differs p r.prefix low)
none_below p r (s ∷ rows) up low =
    choice_behind r (s ∷ rows) p (above_differs p r.prefix low)
    ∙ none_below p s rows (tail_ascends r (s ∷ rows) up)
    (prefix_cmp_total.trans p r.prefix s.prefix low (rises r s rows up))

-- the rows behind the first have nothing for its prefix
none_behind : (r : TableRow) (rows : List TableRow) → AscendsByPrefix (r ∷ rows)
    → choice_for rows r.prefix ≡ None
none_behind r [] up = refl
none_behind r (s ∷ rows) up =
    none_below r.prefix s rows (tail_ascends r (s ∷ rows) up) (rises r s rows up)

-- ---- one table

abbrev HaveTheSame : List TableRow → List TableRow → Type 0
HaveTheSame xs ys = (p : Cidr) → choice_for xs p ≡ choice_for ys p

module _ (x y : TableRow) (xs ys : List TableRow) (up : AscendsByPrefix (x ∷ xs))
    (rising : AscendsByPrefix (y ∷ ys)) (same : HaveTheSame (x ∷ xs) (y ∷ ys)) where
  first_prefix : x.prefix ≡ y.prefix
  first_prefix =
      elim (prefix_cmp x.prefix y.prefix) as (λ o. prefix_cmp x.prefix y.prefix ≡ o
      → x.prefix ≡ y.prefix) [
        | Less ↦
            λ e. absurd (none-some x.choice
            (sym (none_below x.prefix y ys rising e) ∙ sym (same x.prefix) ∙ choice_of_first x xs))
        | Equal ↦ λ e. prefix_cmp-IsAntisymmetric x.prefix y.prefix e
        | Greater ↦ λ e.
            let low : prefix_cmp y.prefix x.prefix ≡ Less =
            prefix_cmp_total.antisymm y.prefix x.prefix ∙ ap ordering_reverse e in
            absurd (none-some y.choice
            (sym (none_below y.prefix x xs up low) ∙ same y.prefix ∙ choice_of_first y ys))
      ] refl

  first_choice : x.choice ≡ y.choice
  first_choice =
      same_Some x.choice y.choice
      (sym (choice_of_first x xs) ∙ same x.prefix ∙ ap (choice_for (y ∷ ys)) first_prefix
      ∙ choice_of_first y ys)

  tails_have_the_same : HaveTheSame xs ys
  tails_have_the_same p =
      elim (same_prefix x.prefix p) as (λ b. same_prefix x.prefix p ≡ b
      → choice_for xs p ≡ choice_for ys p) [
        | true ↦ λ e.
            let is = same_is x.prefix p e in
            ap (choice_for xs) (sym is) ∙ none_behind x xs up ∙ sym (none_behind y ys rising)
            ∙ ap (choice_for ys) (sym first_prefix ∙ is)
        | false ↦ λ e.
            let differs : same_prefix y.prefix p ≡ false =
            ap (λ q. same_prefix q p) (sym first_prefix) ∙ e in
            sym (choice_behind x xs p e) ∙ same p ∙ choice_behind y ys p differs
      ] refl

-- ascending rows that have the same for each prefix are equal
pub one_table : (xs ys : List TableRow) → AscendsByPrefix xs → AscendsByPrefix ys
    → HaveTheSame xs ys → xs ≡ ys
one_table [] [] up rising same = refl
one_table [] (y ∷ ys) up rising same =
    absurd (none-some y.choice (same y.prefix ∙ choice_of_first y ys))
one_table (x ∷ xs) [] up rising same =
    absurd (none-some x.choice (sym (same x.prefix) ∙ choice_of_first x xs))
one_table (x ∷ xs) (y ∷ ys) up rising same =
    let prefix = first_prefix x y xs ys up rising same in
    let choice = first_choice x y xs ys up rising same in
    let others =
    one_table xs ys (tail_ascends x xs up) (tail_ascends y ys rising)
    (tails_have_the_same x y xs ys up rising same) in
    λ i. record { prefix = prefix i; choice = choice i } ∷ others i

-- ---- one list of tables

module _ (net : Network) (held wanted : Assignment) (agree : Agree net held wanted) where
  same_table : (t u : DeviceTable) → IsDevice net t.device → t.device ≡ u.device
      → IsTableOf held t → IsTableOf wanted u → t ≡ u
  same_table t u known device is_t is_u =
      let table =
      one_table t.table u.table is_t.ascending is_u.ascending
      (λ p. is_t.exactly p ∙ agree t.device p known ∙ ap (λ d. wanted d p) device
      ∙ sym (is_u.exactly p)) in
      λ i. record { device = device i; table = table i }

  same_tables : (ts us : List DeviceTable) → All (IsDevice net) (map (λ t. t.device) ts)
      → map (λ t. t.device) ts ≡ map (λ t. t.device) us → All (IsTableOf held) ts
      → All (IsTableOf wanted) us → ts ≡ us
  same_tables [] [] known e are_ts are_us = refl
  same_tables [] (u ∷ us) known e are_ts are_us = absurd cc
  same_tables (t ∷ ts) [] known e are_ts are_us = absurd cc
  same_tables (t ∷ ts) (u ∷ us) known e are_ts are_us =
      let device : t.device ≡ u.device = cc in
      let numbers = map (λ (x : DeviceTable). x.device) ts in
      let devices : numbers ≡ map (λ (x : DeviceTable). x.device) us = cc in
      let one =
      same_table t u (All-head (IsDevice net) t.device numbers known) device
      (All-head (IsTableOf held) t ts are_ts) (All-head (IsTableOf wanted) u us are_us) in
      let more =
      same_tables ts us (All-tail (IsDevice net) t.device numbers known) devices
      (All-tail (IsTableOf held) t ts are_ts) (All-tail (IsTableOf wanted) u us are_us) in
      λ i. one i ∷ more i

  -- the tables of devices of the network are the same where what these hold is the same
  pub one_list : (devices : List DeviceId) (ts us : List DeviceTable) → All (IsDevice net) devices
      → AreTables devices held ts → AreTables devices wanted us → ts ≡ us
  one_list devices ts us known are_ts are_us =
      same_tables ts us (subst (All (IsDevice net)) (sym are_ts.each) known)
      (are_ts.each ∙ sym are_us.each) are_ts.exactly are_us.exactly
