-- Names that a network's devices bear, and the first that none does.
use Rattle.std.proofs.Common.{◌≡◌, ◌≢◌, ℕ, zero, suc, ◌+◌, ◌<◌, inl, inr, Bool, true, false, not, List, [], ◌∷◌, ◌++◌, length, get_or, take, drop, Option, Some, None, option_map, unwrap_or, Result, Ok, Err, refl, sym, ap, subst, ◌∙◌, arith}
use Rattle.std.specs.Prelude.{Contains, find, slice_get}
use Rattle.std.specs.List.{flat_map, list_any}
use Rattle.std.specs.Result.{IsErr, IsErrAnd}
use Rattle.std.specs.Str.{bytes_eq}
use Rattle.std.proofs.lemmas.Bool.{cases_Bool, cond-false, cond-true, false_from_ne_true}
use Rattle.std.proofs.lemmas.List.{take-append-drop, take_more}
use Rattle.std.proofs.Math.Seq.{drop-cons}
use Rattle.std.proofs.lemmas.Grind.{flat_map-append}
use Rattle.std.proofs.lemmas.List.Folds.{Any-from_list_any, list_any_at}
use Rattle.std.proofs.lemmas.Option.{none-some, slice_get-get_or, slice_get_cases}
use Rattle.std.proofs.lemmas.Slice.Eq.{bytes_eq-Decides}
use Rattle.cn_base.specs.declared.ids.DeviceId.{DeviceId}
use Rattle.cn_net.proofs.Keys.{list_any-map}
use Rattle.cn_net.specs.Drafted.{device_draft, draft_of}
use Rattle.cn_net.specs.Network.{Network, IsDevice, name_of}
use Rattle.cn_net.specs.declared.device.Device.{Device}
use Rattle.cn_net.specs.declared.draft.DeviceDraft.{DeviceDraft}
use Rattle.cn_open.specs.Emulation.{IsBorne}
use Rattle.cn_open.specs.Faults.{first_unknown, is_written}
use Rattle.cn_open.specs.Steps.{IsFirstUnknown, TellsUnknown}
use Rattle.cn_open.specs.declared.fault.NameAnswer.{NameAnswer}
use Rattle.cn_open.specs.declared.fault.NameAnswer.TheVariants.{Unknown, Memory}

-- ---- a search for the first

module _ {X : Type 0} (p : X → Bool) where
  pub find_yes : (x : X) (xs : List X) → p x ≡ true → find p (x ∷ xs) ≡ Some x
  find_yes x xs t = cond-true (p x) (Some x) (find p xs) t

  pub find_no : (x : X) (xs : List X) → p x ≡ false → find p (x ∷ xs) ≡ find p xs
  find_no x xs f = cond-false (p x) (Some x) (find p xs) f

  pub find_behind : (xs ys : List X) → find p xs ≡ None → find p (xs ++ ys) ≡ find p ys
  find_behind [] ys e = refl
  find_behind (x ∷ xs) ys e =
      elim (cases_Bool (p x)) [
        | inl t ↦ absurd (none-some x (sym e ∙ find_yes x xs t))
        | inr f ↦ find_no x (xs ++ ys) f ∙ find_behind xs ys (sym (find_no x xs f) ∙ e)
      ]

  pub find_front : (xs ys : List X) (y : X) → find p xs ≡ Some y → find p (xs ++ ys) ≡ Some y
  find_front [] ys y e = absurd (none-some y e)
  find_front (x ∷ xs) ys y e =
      elim (cases_Bool (p x)) [
        | inl t ↦ find_yes x (xs ++ ys) t ∙ sym (find_yes x xs t) ∙ e
        | inr f ↦ find_no x (xs ++ ys) f ∙ find_front xs ys y (sym (find_no x xs f) ∙ e)
      ]

  -- what a search passes over doesn't pass the test
  pub passed_over : (xs : List X) (x : X) → find p xs ≡ None → Contains xs x → p x ≡ false
  passed_over [] x e (k, lt, is) = absurd (omega (arith, lt))
  passed_over (y ∷ ys) x e (zero, lt, is) = elim (cases_Bool (p y)) [
    | inl t ↦ absurd (none-some y (sym e ∙ find_yes y ys t))
    | inr f ↦ ap p (sym is) ∙ f
  ]
  passed_over (y ∷ ys) x e (suc k, lt, is) =
      elim (cases_Bool (p y)) [
        | inl t ↦ absurd (none-some y (sym e ∙ find_yes y ys t))
        | inr f ↦ passed_over ys x (sym (find_no y ys f) ∙ e) (k, omega (arith, lt), is)
      ]

  -- what a search finds is there and passes the test
  pub found : (xs : List X) (x : X) → find p xs ≡ Some x → Contains xs x × (p x ≡ true)
  found [] x e = absurd (none-some x e)
  found (y ∷ ys) x e =
      elim (cases_Bool (p y)) [
        | inl t ↦
            let same : y ≡ x = ap (λ (o : Option X). unwrap_or o y) (sym (find_yes y ys t) ∙ e) in
            ((0, omega arith, same), subst (λ z. p z ≡ true) same t)
        | inr f ↦
            let more = found ys x (sym (find_no y ys f) ∙ e) in
            let at = more.0 in ((suc at.0, omega (arith, at.1), at.2), more.1)
      ]

  -- nothing is found in a list whose elements all fail
  pub find_none : (xs : List X) → ((x : X) → Contains xs x → p x ≡ false) → find p xs ≡ None
  find_none [] h = refl
  find_none (x ∷ xs) h =
      find_no x xs (h x (0, omega arith, refl))
      ∙ find_none xs (λ y c. h y (suc c.0, omega (arith, c.1), c.2))

-- ---- one element after another

module _ {X : Type 0} (p : X → Bool) (xs : List X) (k : ℕ) (x : X) (here : k < length xs)
    (is : x ≡ get_or xs k x) (so_far : find p (take k xs) ≡ None) where
  pub none_next : find p (x ∷ []) ≡ None → find p (take (k + 1) xs) ≡ None
  none_next e =
      ap (find p) (take_more xs k x here ∙ (λ i. take k xs ++ sym is i ∷ []))
      ∙ find_behind p (take k xs) (x ∷ []) so_far ∙ e

  pub first_next : (y : X) → find p (x ∷ []) ≡ Some y → find p xs ≡ Some y
  first_next y e =
      ap (find p) (sym (take-append-drop k xs))
      ∙ find_behind p (take k xs) (drop k xs) so_far
      ∙ ap (find p) (drop-cons xs k x here ∙ (λ i. sym is i ∷ drop (suc k) xs))
      ∙ find_front p (x ∷ []) (drop (suc k) xs) y e

-- ---- one list after another, each with some names

module _ {Y : Type 0} (p : List ℕ → Bool) (names : Y → List (List ℕ)) (ys : List Y) (k : ℕ) (y : Y)
    (here : k < length ys) (is : y ≡ get_or ys k y)
    (so_far : find p (flat_map names (take k ys)) ≡ None) where
  pub none_more : find p (names y) ≡ None → find p (flat_map names (take (k + 1) ys)) ≡ None
  none_more e =
      ap (λ (zs : List Y). find p (flat_map names zs))
      (take_more ys k y here ∙ (λ i. take k ys ++ sym is i ∷ []))
      ∙ ap (find p) (flat_map-append names (take k ys) (y ∷ []))
      ∙ find_behind p (flat_map names (take k ys)) (flat_map names (y ∷ [])) so_far
      ∙ find_behind p (names y) [] e

  pub first_here : (name : List ℕ) → find p (names y) ≡ Some name
      → find p (flat_map names ys) ≡ Some name
  first_here name e =
      ap (λ (zs : List Y). find p (flat_map names zs)) (sym (take-append-drop k ys))
      ∙ ap (find p) (flat_map-append names (take k ys) (drop k ys))
      ∙ find_behind p (flat_map names (take k ys)) (flat_map names (drop k ys)) so_far
      ∙ ap (λ (zs : List Y). find p (flat_map names zs))
      (drop-cons ys k y here ∙ (λ i. sym is i ∷ drop (suc k) ys))
      ∙ find_front p (names y) (flat_map names (drop (suc k) ys)) name e

-- ---- names and devices

name_at : (net : Network) (d : DeviceId) (x : Device) → slice_get net.devices d.0 ≡ Some x
    → name_of net d ≡ x.name
name_at net d x e =
    ap (λ (o : Option Device). unwrap_or (option_map (λ (y : Device). y.name) o) []) e

module _ (net : Network) (name : List ℕ) where
  bears : Device → Bool
  bears x = bytes_eq x.name name

  by_devices : is_written (draft_of net) name ≡ list_any bears net.devices
  unfolding bears
  by_devices =
      list_any-map (λ (d : DeviceDraft). bytes_eq d.name name) (device_draft net) net.devices

  pub written : (d : DeviceId) → IsDevice net d → name_of net d ≡ name
      → is_written (draft_of net) name ≡ true
  unfolding bears
  written d is e =
      elim (slice_get_cases net.devices d.0).1 [
        | inl r ↦
            let x = r.0 in
            let one : bears x ≡ true =
            (bytes_eq-Decides x.name name).1 (sym (name_at net d x r.2) ∙ e) in
            by_devices ∙ list_any_at bears net.devices d.0 x r.1 (ap bears r.3 ∙ one)
        | inr r ↦ absurd (omega (arith, r.0, is))
      ]

  -- what is written is the name of a device
  pub borne : is_written (draft_of net) name ≡ true → IsBorne net name
  unfolding bears
  borne t =
      let at = Any-from_list_any bears net.devices (sym by_devices ∙ t) in
      let d : DeviceId = record { 0 = at.0 } in
      let e : slice_get net.devices at.0 ≡ Some at.1 =
      slice_get-get_or net.devices at.0 at.1 at.2 ∙ ap Some at.3 in
      (d, at.2, name_at net d at.1 e ∙ (bytes_eq-Decides at.1.name name).0 at.4)

  pub unwritten : ((d : DeviceId) → IsDevice net d → name_of net d ≢ name)
      → is_written (draft_of net) name ≡ false
  unwritten none =
      false_from_ne_true (is_written (draft_of net) name)
      (λ t. let b = borne t in none b.0 b.1 b.2)

-- what a look for one name tells
module _ (net : Network) (name : List ℕ) where
  pub one_known : (d : DeviceId) → IsDevice net d → name_of net d ≡ name
      → first_unknown (draft_of net) (name ∷ []) ≡ None
  one_known d is e =
      find_no (λ n. not (is_written (draft_of net) n)) name [] (ap not (written net name d is e))

  pub one_unknown : ((d : DeviceId) → IsDevice net d → name_of net d ≢ name)
      → first_unknown (draft_of net) (name ∷ []) ≡ Some name
  one_unknown none =
      find_yes (λ n. not (is_written (draft_of net) n)) name [] (ap not (unwritten net name none))

-- ---- an unknown name that is handed on

lifted : (small all : Option (List ℕ)) (e : NameAnswer)
    → ((name : List ℕ) → small ≡ Some name → all ≡ Some name) → IsFirstUnknown small e
    → IsFirstUnknown all e
lifted small all (Unknown name) f u = f name u
lifted small all Memory f u = tt

pub handed_on : {T : Type 0} (r : Result T NameAnswer) (e : NameAnswer)
    (small all : Option (List ℕ))
    → IsErr r → IsErrAnd r (λ x. x ≡ e) → ((name : List ℕ) → small ≡ Some name → all ≡ Some name)
    → IsFirstUnknown small e → TellsUnknown all r
handed_on (Ok x) e small all h k f u = absurd (cc h)
handed_on (Err x) e small all h k f u = subst (IsFirstUnknown all) (sym k) (lifted small all e f u)
