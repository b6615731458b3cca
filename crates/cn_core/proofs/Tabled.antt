-- The tables of a pull, and the rows from which they are made.
use Rattle.std.proofs.Common.{◌≡◌, ℕ, ◌+◌, ◌<◌, true, false, cond, List, [], ◌∷◌, ◌++◌, length, get_or, take, map, Option, Some, refl, sym, ap, ◌∙◌}
use Rattle.std.specs.Prelude.{option_map}
use Rattle.std.specs.List.{find}
use Rattle.std.specs.Ordering.{eq_by_cmp}
use Rattle.std.specs.FinMap.{FinMap}
use Rattle.std.specs.FinMap as fin
use Rattle.std.proofs.lemmas.List.{map-append, take_more}
use Rattle.std.proofs.lemmas.List.Elements.{All-nil, All-push}
use Rattle.cn_base.specs.Cidr.{Cidr, same_prefix}
use Rattle.cn_base.specs.Table.{AscendsByPrefix, choice_for, prefix_cmp}
use Rattle.cn_base.specs.declared.ids.Asn.{Asn}
use Rattle.cn_base.specs.declared.ids.DeviceId.{DeviceId}
use Rattle.cn_base.specs.declared.route.Choice.{Choice}
use Rattle.cn_base.specs.declared.table.TableRow.{TableRow}
use Rattle.cn_rib.specs.declared.prefix_map.Row.{Row}
use Rattle.cn_rib.specs.PrefixMaps.{picked_entries}
use Rattle.cn_rib.proofs.Keyed.{keys_of_rows, rows_ascend}
use Rattle.cn_rib.proofs.PrefixMaps.{entries-picked}
use Rattle.cn_rib.proofs.Prefixes.{same_flip, tied_is_same}
use Rattle.cn_net.specs.Stable.{Assignment}
use Rattle.cn_core.specs.declared.best.Best.{Best}
use Rattle.cn_core.specs.declared.pull.DeviceTable.{DeviceTable}
use Rattle.cn_core.specs.Rows.{table_row}
use Rattle.cn_core.specs.Stored.{BestRoutes, choice_under, held_under}
use Rattle.cn_core.specs.Tables.{AreTables, IsTableOf}

choice_found : (rows : List TableRow) (p : Cidr)
    → choice_for rows p ≡ fin.find prefix_cmp p (map (λ r. (r.prefix, r.choice)) rows)
choice_found [] p = refl
choice_found (r ∷ rows) p =
    let test : same_prefix r.prefix p ≡ eq_by_cmp prefix_cmp p r.prefix =
    same_flip r.prefix p ∙ sym (tied_is_same p r.prefix) in
    ap (λ b. option_map (λ (x : TableRow). x.choice)
    (cond b (Some r) (find (λ x. same_prefix x.prefix p) rows))) test
    ∙ elim (eq_by_cmp prefix_cmp p r.prefix) as (λ b. option_map (λ (x : TableRow). x.choice)
    (cond b (Some r) (find (λ x. same_prefix x.prefix p) rows))
    ≡ cond b (Some r.choice) (fin.find prefix_cmp p (map (λ r. (r.prefix, r.choice)) rows))) [
      | true ↦ refl
      | false ↦ choice_found rows p
    ]

pairs_of : (rows : List (Row Choice))
    → map {B = Cidr × Choice} (λ r. (r.prefix, r.choice)) (map table_row rows)
    ≡ map {B = Cidr × Choice} (λ r. (r.prefix, r.value)) rows
pairs_of [] = refl
pairs_of (r ∷ rows) = ap (λ es. (r.prefix, r.value) ∷ es) (pairs_of rows)

module _ (m : FinMap prefix_cmp Choice) (rows : List (Row Choice))
    (is : map (λ r. (r.prefix, r.value)) rows ≡ fin.entries m) where
  pub table_ascends : AscendsByPrefix (map table_row rows)
  table_ascends =
      rows_ascend (λ (r : TableRow). r.prefix) (map table_row rows) m
      (keys_of_rows (λ (r : TableRow). r.prefix) (λ r. r.choice) (map table_row rows) m
      (pairs_of rows ∙ is))

  pub table_exact : (p : Cidr) → choice_for (map table_row rows) p ≡ fin.get m p
  table_exact p =
      choice_found (map table_row rows) p ∙ ap (fin.find prefix_cmp p) (pairs_of rows ∙ is)
      ∙ sym (fin.get-entries m p)

-- ---- the rows of what is held by ids

-- a row with the choice that it stands for
abbrev pub row_under : List (List Asn) → Row Best → Row Choice
row_under pool r = record { prefix = r.prefix; value = choice_under pool r.value }

pub pairs_under : (pool : List (List Asn)) (m : BestRoutes) (rows : List (Row Best))
    → map {B = Cidr × Best} (λ r. (r.prefix, r.value)) rows ≡ fin.entries m
    → map {B = Cidr × Choice} (λ r. (r.prefix, r.value)) (map (row_under pool) rows)
    ≡ fin.entries (held_under pool m)
pairs_under pool m rows is =
    each rows ∙ ap (picked_entries g) is ∙ sym (entries-picked g m)
  where
    g : Best → Option Choice
    g b = Some (choice_under pool b)

    each : (rs : List (Row Best))
        → map {B = Cidr × Choice} (λ r. (r.prefix, r.value)) (map (row_under pool) rs)
        ≡ picked_entries g (map {B = Cidr × Best} (λ r. (r.prefix, r.value)) rs)
    each [] = refl
    each (r ∷ rs) = ap (λ es. (r.prefix, choice_under pool r.value) ∷ es) (each rs)

-- ---- one table after another

pub tables_none : (held : Assignment) → AreTables [] held []
tables_none held = record { each = refl; exactly = All-nil (IsTableOf held) }

pub tables_more : (devices : List DeviceId) (held : Assignment) (tables : List DeviceTable) (i : ℕ)
    (d : DeviceId) (t : DeviceTable)
    → i < length devices → d ≡ get_or devices i d → t.device ≡ d → AscendsByPrefix t.table
    → ((p : Cidr) → choice_for t.table p ≡ held t.device p) → AreTables (take i devices) held tables
    → AreTables (take (i + 1) devices) held (tables ++ t ∷ [])
tables_more devices held tables i d t inside is same ascending exact so = record {
  each =
      map-append (λ (x : DeviceTable). x.device) tables (t ∷ [])
      ∙ (λ j. so.each j ++ (same ∙ is) j ∷ []) ∙ sym (take_more devices i d inside);
  exactly =
      All-push (IsTableOf held) tables t so.exactly
      (record { ascending = ascending; exactly = exact });
}
