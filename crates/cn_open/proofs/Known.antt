-- A plan whose names are all known: the devices that it selects, and its rows.
use Rattle.std.proofs.Common.{◌≡◌, ℕ, ◌+◌, ◌<◌, inl, inr, Bool, true, false, not, List, [], ◌∷◌, ◌++◌, get_or, All, Option, Some, None, option_map, unwrap_or, Less, refl, sym, ap, ◌∙◌, arith}
use Rattle.std.specs.Prelude.{find}
use Rattle.std.specs.List.{filter, flat_map}
use Rattle.std.specs.Ordering.{nat_cmp, on}
use Rattle.std.proofs.lemmas.Bool.{false≢true}
use Rattle.std.proofs.lemmas.Bool.Decides.{nat_tests}
use Rattle.std.proofs.lemmas.Cmp.{nat_cmp_total, on_total}
use Rattle.std.proofs.lemmas.List.{get_or_default}
use Rattle.std.proofs.lemmas.List.Elements.{All-cons, All-contains, All-filter, All-nil, filter_passes}
use Rattle.std.proofs.lemmas.List.Kept.{IsStrictlySortedBy-filter}
use Rattle.std.proofs.lemmas.Map.Keys.{sorted_from_all_adjacent}
use Rattle.std.proofs.lemmas.Map.Views.{any-filter_same}
use Rattle.std.proofs.lemmas.Option.{none-some, slice_get_cases, slice_get_past}
use Rattle.cn_base.specs.declared.ids.DeviceId.{DeviceId}
use Rattle.cn_net.specs.Drafted.{draft_of}
use Rattle.cn_net.specs.Islands.{IsAscending, holds_device}
use Rattle.cn_net.specs.Network.{Network, IsDevice, device_ids, name_of, same_device}
use Rattle.cn_net.specs.declared.device.Device.{Device}
use Rattle.cn_net.proofs.Members.{contained, held, same_number}
use Rattle.cn_net.proofs.Peers.{all_devices, devices_ascend, only_devices}
use Rattle.cn_plan.specs.declared.selection.Selection.{Selection}
use Rattle.cn_plan.specs.declared.selection.Selection.TheVariants as devices
use Rattle.cn_readnet.specs.declared.record.RowDraft.{RowDraft}
use Rattle.cn_readnet.specs.declared.selection.NameSelection.{NameSelection}
use Rattle.cn_readnet.specs.declared.selection.NameSelection.TheVariants as names
use Rattle.cn_record.specs.declared.saved.Row.{Row}
use Rattle.cn_open.specs.Emulation.{IsBorne, IsRowOf, IsSender, ReadAs, Selects, is_named, names_device, row_draft}
use Rattle.cn_open.specs.Faults.{is_written, row_names, selection_names, sender_names}
use Rattle.cn_open.specs.Selection.{IsSelectionOf, IsWithin}
use Rattle.cn_open.proofs.Names.{borne, find_behind, find_front, find_no, passed_over}
use Rattle.cn_open.proofs.Selections.{same_from}

-- ---- searches that find nothing

not_false : (b : Bool) → not b ≡ false → b ≡ true
not_false true e = refl
not_false false e = absurd cc

-- where nothing is found in two lists, nothing is in the first
pub find-front_none : {X : Type 0} (p : X → Bool) (xs ys : List X) → find p (xs ++ ys) ≡ None
    → find p xs ≡ None
find-front_none {X} p xs ys none = by (find p xs) refl
  where
    by : (o : Option X) → find p xs ≡ o → o ≡ None
    by None e = refl
    by (Some x) e = absurd (none-some x (sym none ∙ find_front p xs ys x e))

-- ---- the devices that names select

-- numbers that rise are in order
rising : (a b : DeviceId) → a.0 < b.0 → on (λ (d : DeviceId). d.0) nat_cmp a b ≡ Less
rising a b lt = grind (arith, nat_tests)

ids_ascend : (net : Network) → IsAscending (device_ids net)
ids_ascend net =
    sorted_from_all_adjacent (on_total (λ (d : DeviceId). d.0) nat_cmp_total) (device_ids net)
    (record { 0 = 0 }) (λ k lt.
    let d : DeviceId = record { 0 = 0 } in
    rising (get_or (device_ids net) k d) (get_or (device_ids net) (k + 1) d)
    (devices_ascend net k (k + 1) d (omega arith) lt))

module _ (net : Network) where
  -- no device is written under the name
  abbrev pub unborne : List ℕ → Bool
  unborne name = not (is_written (draft_of net) name)

  known_borne : (name : List ℕ) → unborne name ≡ false → IsBorne net name
  known_borne name f = borne net name (not_false (is_written (draft_of net) name) f)

  names_borne : (names : List (List ℕ)) → find unborne names ≡ None → All (IsBorne net) names
  names_borne names none k e lt =
      let name = get_or names k e in
      known_borne name
      (passed_over unborne names name none (k, lt, get_or_default names k name e lt))

  module _ (names : List (List ℕ)) where
    -- the devices that bear these names
    abbrev bearers : List DeviceId
    bearers = filter (names_device net names) (device_ids net)

    bearer_named : (d : DeviceId) → holds_device bearers d ≡ true → names_device net names d ≡ true
    bearer_named d h =
        All-contains (λ x. names_device net names x ≡ true) bearers d
        (filter_passes (names_device net names) (device_ids net)) (contained bearers d h)

    named_device : (d : DeviceId) → names_device net names d ≡ true → IsDevice net d
    named_device d h =
        elim (slice_get_cases net.devices d.0).1 [
          | inl r ↦ r.1
          | inr r ↦
              absurd (false≢true
              (sym (ap (λ (o : Option Device). unwrap_or (option_map (is_named names) o) false)
              (slice_get_past net.devices d.0 r.0))
              ∙ h))
        ]

    named_bearer : (d : DeviceId) → names_device net names d ≡ true → holds_device bearers d ≡ true
    named_bearer d h =
        let p = names_device net names in
        let passes = λ (k : DeviceId) (t : same_device k d ≡ true). ap p (same_number k d t) ∙ h in
        any-filter_same (λ x. same_device x d) p true passes (device_ids net)
        ∙ held (device_ids net) d (all_devices net d (named_device d h))

    bearers_selected : find unborne names ≡ None → Selects net names bearers
    bearers_selected none = record {
      known = names_borne names none;
      exactly =
          λ d. same_from (holds_device bearers d) (names_device net names d) (bearer_named d)
          (named_bearer d);
    }

    bearers_within : All (IsDevice net) bearers × IsAscending bearers
    bearers_within = (
      All-filter (names_device net names) (IsDevice net) (device_ids net) (only_devices net),
      IsStrictlySortedBy-filter (on (λ (d : DeviceId). d.0) nat_cmp) (names_device net names)
          (device_ids net) (ids_ascend net),
    )

  -- the devices that a plan selects, where it names devices alone
  pub selected_there : (selection : NameSelection)
      → find unborne (selection_names selection) ≡ None
      → (s : Selection) × IsSelectionOf net selection s × IsWithin net s
  selected_there (names.Emulate xs) none =
      (devices.Emulate (bearers xs), bearers_selected xs none, bearers_within xs)
  selected_there (names.Must xs) none =
      (devices.Must (bearers xs), bearers_selected xs none, bearers_within xs)

  -- ---- rows

  sender_there : (name : Option (List ℕ)) → find unborne (sender_names name) ≡ None
      → (from : Option DeviceId) × IsSender net from × (option_map (name_of net) from ≡ name)
  sender_there None none = (None, tt, refl)
  sender_there (Some name) none =
      let b = known_borne name (passed_over unborne (name ∷ []) name none (0, omega arith, refl)) in
      (Some b.0, b.1, ap Some b.2)

  row_there : (draft : RowDraft) → find unborne (row_names draft) ≡ None
      → (row : Row) × IsRowOf net row × (row_draft net row ≡ draft)
  row_there draft none =
      let known =
      passed_over unborne (row_names draft) draft.device none (0, omega arith, refl) in
      let device = known_borne draft.device known in
      let from =
      sender_there draft.from
      (sym (find_no unborne draft.device (sender_names draft.from) known) ∙ none) in (
        record {
          device = device.0;
          prefix = draft.prefix;
          choice = record { from = from.0; path = draft.path; origin = draft.origin };
        },
        record { device = device.1; sender = from.1 },
        λ i. record {
          device = device.2 i;
          prefix = draft.prefix;
          path = draft.path;
          origin = draft.origin;
          from = from.2 i;
        },
      )

  -- the rows of a plan, where they name devices alone
  pub rows_there : (drafts : List RowDraft) → find unborne (flat_map row_names drafts) ≡ None
      → (rows : List Row) × ReadAs net drafts rows
  rows_there [] none = ([], record { each = All-nil (IsRowOf net); written = refl })
  rows_there (d ∷ ds) none =
      let here = find-front_none unborne (row_names d) (flat_map row_names ds) none in
      let behind =
      sym (find_behind unborne (row_names d) (flat_map row_names ds) here) ∙ none in
      let (row, is, reads) = row_there d here in
      let (rows, more) = rows_there ds behind in (
        row ∷ rows,
        record {
          each = All-cons (IsRowOf net) row rows is more.each;
          written = λ i. reads i ∷ more.written i;
        },
      )
