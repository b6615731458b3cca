-- The devices that names select, found one name after another.
use Rattle.std.proofs.Common.{◌≡◌, ◌<◌, ◌+◌, ℕ, Bool, true, false, List, [], take, ◌∷◌, ◌++◌, length, get_or, Option, Some, unwrap_or, option_map, refl, sym, ap, subst, ◌∙◌, inl, inr, arith}
use Rattle.std.specs.Str.{bytes_eq}
use Rattle.std.proofs.lemmas.Bool.{cases_lt, false≢true, eqb-true, eq-eqb}
use Rattle.std.proofs.lemmas.List.{get_or_push, get_or_append_left, get_or_default, length-append, map-append, take_more}
use Rattle.std.proofs.lemmas.List.Elements.{All-push}
use Rattle.std.proofs.lemmas.List.Folds.{list_any_at, Any-from_list_any}
use Rattle.std.proofs.lemmas.Option.{slice_get_cases, slice_get_past}
use Rattle.std.proofs.lemmas.Slice.Eq.{bytes_eq-Decides}
use Rattle.cn_base.specs.declared.ids.DeviceId.{DeviceId}
use Rattle.cn_net.specs.declared.device.Device.{Device}
use Rattle.cn_net.specs.Islands.{holds_device}
use Rattle.cn_net.specs.Network.{Network, IsDevice, device_of, name_of, same_device}
use Rattle.cn_net.specs.Valid.{IsValid}
use Rattle.cn_net.proofs.Drafts.{same_name}
use Rattle.cn_readnet.specs.declared.record.RowDraft.{RowDraft}
use Rattle.cn_record.specs.declared.saved.Row.{Row}
use Rattle.cn_open.specs.Emulation.{IsRowOf, ReadAs, Selects, is_named, names_device, row_draft}
use Rattle.cn_open.specs.Selection.{ReadsAs}

abbrev Bears : Network → DeviceId → List ℕ → Type 0
Bears net d name = IsDevice net d × (name_of net d ≡ name)

-- the devices at the first k places bear the names at these places
pub record Found (net : Network) (names : List (List ℕ)) (devices : List DeviceId)
    (k : ℕ) : Type 0 where
  pub size : length devices ≡ k
  pub each : (i : ℕ) (d : DeviceId) → i < k → Bears net (get_or devices i d) (get_or names i [])

pub found_none : (net : Network) (names : List (List ℕ)) (devices : List DeviceId) → devices ≡ []
    → Found net names devices 0
found_none net names devices e =
    record { size = ap length e; each = λ i d lt. absurd (omega arith) }

pub found_more : (net : Network) (names : List (List ℕ)) (before after : List DeviceId) (k : ℕ)
    (d : DeviceId) (name : List ℕ)
    → Found net names before k → after ≡ before ++ d ∷ [] → k < length names
    → name ≡ get_or names k name → Bears net d name → Found net names after (k + 1)
found_more net names before after k d name found is lt at bears =
    subst (λ (xs : List DeviceId). Found net names xs (k + 1)) (sym is) (record {
      size = omega (arith, length-append before (d ∷ []), found.size);
      each = λ i e ik. elim (cases_lt i k) [
        | inl below ↦
            let same : get_or (before ++ d ∷ []) i e ≡ get_or before i e =
            get_or_append_left before (d ∷ []) e i (omega (arith, found.size)) in
            subst (λ (x : DeviceId). Bears net x (get_or names i [])) (sym same)
            (found.each i e below)
        | inr above ↦
            let here : k ≡ i = omega arith in
            let new : get_or (before ++ d ∷ []) k e ≡ d = get_or_push before d e k found.size in
            let named : get_or names k [] ≡ name =
            sym (get_or_default names k name [] lt) ∙ sym at in
            let now : Bears net (get_or (before ++ d ∷ []) k e) (get_or names k []) =
            subst (λ (x : DeviceId). Bears net x (get_or names k [])) (sym new)
            (bears.0, bears.1 ∙ sym named) in
            subst (λ (j : ℕ). Bears net (get_or (before ++ d ∷ []) j e) (get_or names j [])) here
            now
      ];
    })

-- tests of which each passes where the other does are one
pub same_from : (a b : Bool) → (a ≡ true → b ≡ true) → (b ≡ true → a ≡ true) → a ≡ b
same_from true b f g = sym (f refl)
same_from false true f g = g refl
same_from false false f g = refl

module _ (net : Network) (valid : IsValid net) (names : List (List ℕ)) (devices : List DeviceId)
    (found : Found net names devices (length names)) where
  -- the name of a device that is there
  name_at : (d : DeviceId) (x : Device) → device_of net d ≡ Some x → name_of net d ≡ x.name
  name_at d x e = ap (λ (o : Option Device). unwrap_or (option_map (λ (y : Device). y.name) o) []) e

  is_there : (d : DeviceId) → IsDevice net d → (x : Device) × (device_of net d ≡ Some x)
  is_there d is = elim (slice_get_cases net.devices d.0).1 [
    | inl r ↦ (r.0, r.2)
    | inr r ↦ absurd (omega (arith, r.0))
  ]

  names_at : (d : DeviceId) (x : Device) → device_of net d ≡ Some x
      → names_device net names d ≡ is_named names x
  names_at d x e = ap (λ (o : Option Device). unwrap_or (option_map (is_named names) o) false) e

  held_is_named : (d : DeviceId) → holds_device devices d ≡ true → names_device net names d ≡ true
  held_is_named d h =
      let at = Any-from_list_any (λ (x : DeviceId). same_device x d) devices h in
      let number : at.1.0 ≡ d.0 = eqb-true at.1.0 d.0 at.4 in
      let here : get_or devices at.0 at.1 ≡ d = at.3 ∙ (λ i. record { 0 = number i }) in
      let lt : at.0 < length names = omega (arith, at.2, found.size) in
      let bears =
      subst (λ (x : DeviceId). Bears net x (get_or names at.0 [])) here (found.each at.0 at.1 lt) in
      let there = is_there d bears.0 in
      let named : there.0.name ≡ get_or names at.0 [] = sym (name_at d there.0 there.1) ∙ bears.1 in
      names_at d there.0 there.1
      ∙ list_any_at (bytes_eq there.0.name) names at.0 [] lt
      ((bytes_eq-Decides there.0.name (get_or names at.0 [])).1 named)

  named_is_held : (d : DeviceId) → names_device net names d ≡ true → holds_device devices d ≡ true
  named_is_held d h =
      elim (slice_get_cases net.devices d.0).1 [
        | inl r ↦
            let at = Any-from_list_any (bytes_eq r.0.name) names (sym (names_at d r.0 r.2) ∙ h) in
            let bears = found.each at.0 d at.2 in
            let named : name_of net d ≡ get_or names at.0 [] =
            name_at d r.0 r.2 ∙ (bytes_eq-Decides r.0.name at.1).0 at.4 ∙ sym at.3
            ∙ get_or_default names at.0 at.1 [] at.2 in
            let same : get_or devices at.0 d ≡ d =
            same_name net (get_or devices at.0 d) d valid.names bears.0 r.1 (bears.1 ∙ sym named) in
            list_any_at (λ (x : DeviceId). same_device x d) devices at.0 d
            (omega (arith, at.2, found.size))
            (eq-eqb (get_or devices at.0 d).0 d.0 (ap (λ (x : DeviceId). x.0) same))
        | inr r ↦
            absurd (false≢true
            (sym (ap (λ (o : Option Device). unwrap_or (option_map (is_named names) o) false)
            (slice_get_past net.devices d.0 r.0))
            ∙ h))
      ]

  pub selects : (set : List DeviceId)
      → ((d : DeviceId) → holds_device set d ≡ holds_device devices d) → Selects net names set
  selects set same = record {
    known =
        λ k e lt.
        let d = get_or devices k (record { 0 = 0 }) in
        let b = found.each k (record { 0 = 0 }) lt in
        (d, b.0, b.1 ∙ get_or_default names k [] e lt);
    exactly =
        λ d. same d
        ∙ same_from (holds_device devices d) (names_device net names d) (held_is_named d)
        (named_is_held d);
  }

-- ---- rows that are written with names

module _ (net : Network) (drafts : List RowDraft) (i : ℕ) (draft : RowDraft)
    (here : i < length drafts) (is : draft ≡ get_or drafts i draft) where
  pub read_more : (rows rows' : List Row) (row : Row) → ReadAs net (take i drafts) rows
      → ReadsAs net draft row → rows' ≡ rows ++ row ∷ [] → ReadAs net (take (i + 1) drafts) rows'
  read_more rows rows' row h reads e =
      subst (ReadAs net (take (i + 1) drafts)) (sym e) (record {
        each = All-push (IsRowOf net) rows row h.each reads.0;
        written =
            map-append (row_draft net) rows (row ∷ []) ∙ (λ j. h.written j ++ reads.1 j ∷ [])
            ∙ (λ j. take i drafts ++ is j ∷ []) ∙ sym (take_more drafts i draft here);
      })
