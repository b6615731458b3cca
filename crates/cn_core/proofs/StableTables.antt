-- The tables of a stable state: it holds nothing for a prefix that no device originates, so the
-- table of a device is made of what it holds for those that are originated.
use Rattle.std.proofs.Common.{◌≡◌, ℕ, zero, suc, true, false, cond, List, [], ◌∷◌, map, flat_map, Some, None, refl, sym, ap, ◌∙◌, subst, true≢false}
use Rattle.std.specs.Prelude.{All, find, option_and_then, option_map, slice_get}
use Rattle.std.specs.List.{fold, list_any}
use Rattle.std.specs.FinMap.{FinMap}
use Rattle.std.specs.FinMap as fin
use Rattle.std.proofs.lemmas.Bool.{or_parts}
use Rattle.std.proofs.lemmas.List.Elements.{All-cons, All-head, All-tail}
use Rattle.std.proofs.lemmas.List.Folds.{list_any-append}
use Rattle.cn_base.specs.Cidr.{Cidr, same_prefix}
use Rattle.cn_base.specs.Table.{prefix_cmp}
use Rattle.cn_base.specs.declared.ids.DeviceId.{DeviceId}
use Rattle.cn_base.specs.declared.route.Choice.{Choice}
use Rattle.cn_rib.specs.PrefixMaps.{put_at}
use Rattle.cn_rib.specs.declared.prefix_map.Row.{Row}
use Rattle.cn_rib.proofs.Keyed.{get_empty}
use Rattle.cn_rib.proofs.PrefixMaps.{get-put_all}
use Rattle.cn_rib.proofs.Prefixes.{same_flip}
use Rattle.cn_net.specs.Network.{IsDevice, Network, device_of, originated, own_of, own_origin}
use Rattle.cn_net.specs.Stable.{Assignment, IsStable}
use Rattle.cn_net.specs.declared.device.Device.{Device}
use Rattle.cn_net.specs.declared.device.Own.{Own}
use Rattle.cn_net.proofs.Crossing.{crossing}
use Rattle.cn_core.specs.Rows.{table_row}
use Rattle.cn_core.specs.Tables.{AreTables, IsTableOf}
use Rattle.cn_core.specs.declared.pull.DeviceTable.{DeviceTable}
use Rattle.cn_core.proofs.Tabled.{table_ascends, table_exact, tables_none}

-- ---- a prefix that no device originates

module _ (q : Cidr) where
  abbrev prefixes_in : List Own → List Cidr
  prefixes_in own = map (λ o. o.prefix) own

  no_own : (own : List Own) → list_any (same_prefix q) (prefixes_in own) ≡ false
      → option_map (λ (o : Own). o.origin) (find (λ (o : Own). same_prefix o.prefix q) own) ≡ None
  no_own [] none = refl
  no_own (o ∷ own) none =
      let both =
      or_parts (same_prefix q o.prefix) (list_any (same_prefix q) (prefixes_in own)) none in
      ap (λ b. option_map (λ (x : Own). x.origin)
      (cond b (Some o) (find (λ (x : Own). same_prefix x.prefix q) own)))
      (same_flip o.prefix q ∙ both.0)
      ∙ no_own own both.1

  abbrev prefixes_of : List Device → List Cidr
  prefixes_of devices = flat_map (λ d. prefixes_in d.body.own) devices

  first_has_none : (y : Device) (devices : List Device)
      → list_any (same_prefix q) (prefixes_of (y ∷ devices)) ≡ false
      → (list_any (same_prefix q) (prefixes_in y.body.own) ≡ false)
      × (list_any (same_prefix q) (prefixes_of devices) ≡ false)
  first_has_none y devices none =
      or_parts (list_any (same_prefix q) (prefixes_in y.body.own))
      (list_any (same_prefix q) (prefixes_of devices))
      (sym (list_any-append (same_prefix q) (prefixes_in y.body.own) (prefixes_of devices)) ∙ none)

  none_at : (devices : List Device) (k : ℕ) (x : Device)
      → list_any (same_prefix q) (prefixes_of devices) ≡ false
      → slice_get devices k ≡ Some x → own_of x.body q ≡ None
  none_at [] k x none e = cc
  none_at (y ∷ devices) zero x none e =
      let same : y ≡ x = cc in
      subst (λ (z : Device). own_of z.body q ≡ None) same
      (no_own y.body.own (first_has_none y devices none).0)
  none_at (y ∷ devices) (suc k) x none e =
      none_at devices k x (first_has_none y devices none).1 e

  module _ (net : Network) (none : list_any (same_prefix q) (originated net) ≡ false) where
    nobody_originates : (d : DeviceId) → own_origin net d q ≡ None
    nobody_originates d =
        elim (device_of net d) as (λ o. device_of net d ≡ o
        → option_and_then (λ (x : Device). own_of x.body q) o ≡ None) [
          | None ↦ λ o. refl
          | Some x ↦ λ o. none_at net.devices d.0 x none o
        ] refl

    -- a stable state holds nothing for it
    pub nothing_held : (held : Assignment) → IsStable net held → (d : DeviceId) → IsDevice net d
        → held d q ≡ None
    nothing_held held stable d is = elim (held d q) as (λ o. held d q ≡ o → o ≡ None) [
      | None ↦ λ o. refl
      | Some c ↦ λ o.
          let came =
          crossing net (λ _. true) held q (λ b is t. stable b q is)
          (λ x is t. nobody_originates x) d c is refl o in
          absurd (true≢false came.from_elsewhere)
    ] refl

-- ---- tables

abbrev row_of : Cidr × Choice → Row Choice
row_of e = record { prefix = e.0; value = e.1 }

rows_back : (es : List (Cidr × Choice))
    → map {B = Cidr × Choice} (λ r. (r.prefix, r.value)) (map row_of es) ≡ es
rows_back [] = refl
rows_back (e ∷ es) = λ i. e ∷ rows_back es i

module _ (net : Network) (held : Assignment) (stable : IsStable net held) where
  -- what a device holds of the prefixes that are originated
  abbrev held_of : DeviceId → FinMap prefix_cmp Choice
  held_of d = fold (λ m p. put_at m p (held d p)) fin.empty (originated net)

  get-held_of : (d : DeviceId) → IsDevice net d → (q : Cidr) → fin.get (held_of d) q ≡ held d q
  get-held_of d is q =
      get-put_all (held d) fin.empty (originated net) q
      ∙ elim (list_any (same_prefix q) (originated net)) as
      (λ t. list_any (same_prefix q) (originated net) ≡ t
      → cond t (held d q) (fin.get (fin.empty {X = Choice} {R = prefix_cmp}) q) ≡ held d q) [
        | true ↦ λ t. refl
        | false ↦ λ t. get_empty q ∙ sym (nothing_held q net t held stable d is)
      ] refl

  -- what a device holds, as a table
  table_there : (d : DeviceId) → IsDevice net d
      → (t : DeviceTable) × (t.device ≡ d) × IsTableOf held t
  table_there d is =
      let m = held_of d in
      let rows = map row_of (fin.entries m) in
      let are = rows_back (fin.entries m) in (
        record { device = d; table = map table_row rows },
        refl,
        record {
          ascending = table_ascends m rows are;
          exactly = λ p. table_exact m rows are p ∙ get-held_of d is p;
        },
      )

  -- what these devices hold, as tables
  pub tables_there : (devices : List DeviceId) → All (IsDevice net) devices
      → (tables : List DeviceTable) × AreTables devices held tables
  tables_there [] each = ([], tables_none held)
  tables_there (d ∷ ds) each =
      let (t, is, shows) = table_there d (All-head (IsDevice net) d ds each) in
      let (tables, more) = tables_there ds (All-tail (IsDevice net) d ds each) in (
        t ∷ tables,
        record {
          each = λ i. is i ∷ more.each i;
          exactly = All-cons (IsTableOf held) t tables shows more.exactly;
        },
      )
