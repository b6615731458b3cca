-- Devices of an island, entries of devices that are reset, and marks.
use Rattle.std.proofs.Common.{◌≡◌, ◌<◌, ◌++◌, ◌⊎◌, Bool, true, false, List, [], ◌∷◌, length, get_or, set, Option, Some, None, refl, sym, ap, subst, ◌∙◌, inl, inr, arith, eq-eqb}
use Rattle.std.specs.Prelude.{Contains}
use Rattle.std.specs.Option.{option_eq}
use Rattle.std.proofs.lemmas.Bool.{cases_eq, false≢true}
use Rattle.std.proofs.lemmas.List.{get_or-set_other, get_or-set_same, get_or_default, length-set}
use Rattle.std.proofs.lemmas.List.Elements.{Contains-append_left, Contains-push, Contains-push_cases}
use Rattle.cn_base.specs.declared.ids.DeviceId.{DeviceId}
use Rattle.cn_lists.proofs.Finding.{Contains-cons_cases, not_Contains-nil}
use Rattle.cn_net.specs.Network.{same_device}
use Rattle.cn_net.proofs.Members.{same_number}
use Rattle.cn_record.specs.Places.{AddsDevices, is_inside}
use Rattle.cn_record.specs.Rounds.{AreAll, AreMarked, reset}

-- ---- the devices of an island

-- a label that ties with i is i
pub labelled : (o : Option DeviceId) (i : DeviceId) → option_eq same_device o (Some i) ≡ true
    → o ≡ Some i
labelled None i t = absurd (false≢true t)
labelled (Some d) i t = ap Some (same_number d i t)

-- a test of the label says that it is i
pub inside_label : (label : DeviceId → Option DeviceId) (i d : DeviceId)
    → is_inside label i d ≡ true
    → label d ≡ Some i
inside_label label i d t = labelled (label d) i t

-- and holds where it is
pub label_inside : (label : DeviceId → Option DeviceId) (i d : DeviceId) → label d ≡ Some i
    → is_inside label i d ≡ true
label_inside label i d l =
    ap (λ (o : Option DeviceId). option_eq same_device o (Some i)) l ∙ eq-eqb i.0 i.0 refl

-- ---- devices that are added

-- a device is put at the end
pub adds_pushed : (y : DeviceId) (old : List DeviceId)
    → AddsDevices (λ x. y ≡ x) (λ x. y ≡ x) old (old ++ y ∷ [])
adds_pushed y old = record {
  kept = λ x h. Contains-append_left old (y ∷ []) x h;
  added = λ x is. subst (Contains (old ++ y ∷ [])) is (Contains-push old y);
  only = λ x h. Contains-push_cases old y x h;
}

module _ (Is In : DeviceId → Type 0) where
  pub adds_none : (old : List DeviceId) → AddsDevices (λ x. Contains [] x × Is x) In old old
  adds_none old = record {
    kept = λ x h. h;
    added = λ x h. absurd (not_Contains-nil x h.0);
    only = λ x h. inl h;
  }

  -- one more of these devices, which is added
  pub adds_more : (ds all : List DeviceId) (y : DeviceId) (old new newer : List DeviceId)
      → all ≡ ds ++ y ∷ [] → AddsDevices (λ x. Contains ds x × Is x) In old new → In y
      → AddsDevices (λ x. y ≡ x) (λ x. y ≡ x) new newer
      → AddsDevices (λ x. Contains all x × Is x) In old newer
  adds_more ds all y old new newer is so in_y adds = record {
    kept = λ x h. adds.kept x (so.kept x h);
    added = λ x h. elim (Contains-push_cases ds y x (subst (λ zs. Contains zs x) is h.0)) [
      | inl before ↦ adds.kept x (so.added x (before, h.1))
      | inr last ↦ adds.added x last
    ];
    only = λ x h. elim (adds.only x h) [
      | inl before ↦ so.only x before
      | inr last ↦ inr (subst In last in_y)
    ];
  }

  -- one more of these devices, of which Is doesn't hold
  pub adds_passed : (ds all : List DeviceId) (y : DeviceId) (old new : List DeviceId)
      → all ≡ ds ++ y ∷ [] → AddsDevices (λ x. Contains ds x × Is x) In old new → (Is y → ⊥)
      → AddsDevices (λ x. Contains all x × Is x) In old new
  adds_passed ds all y old new is so never = record {
    kept = so.kept;
    added = λ x h. elim (Contains-push_cases ds y x (subst (λ zs. Contains zs x) is h.0)) [
      | inl before ↦ so.added x (before, h.1)
      | inr last ↦ absurd (never (subst Is (sym last) h.1))
    ];
    only = so.only;
  }

-- ---- entries that are reset

module _ {X : Type 0} (value : X) where
  pub length-reset : (ds : List DeviceId) (xs : List X) → length (reset value ds xs) ≡ length xs
  length-reset [] xs = refl
  length-reset (d ∷ ds) xs = length-reset ds (set xs d.0 value) ∙ length-set xs d.0 value

  reset_at : (ds : List DeviceId) (xs : List X) (e : DeviceId) → e.0 < length xs
      → (get_or xs e.0 value ≡ value) ⊎ Contains ds e
      → get_or (reset value ds xs) e.0 value ≡ value
  reset_at [] xs e within (inl h) = h
  reset_at [] xs e within (inr h) = absurd (not_Contains-nil e h)
  reset_at (d ∷ ds) xs e within h =
      let next = set xs d.0 value in
      let size = length-set xs d.0 value in
      elim (cases_eq e.0 d.0) [
        | inl q ↦
            reset_at ds next e (omega arith)
            (inl
            (ap (λ k. get_or next k value) q
            ∙ get_or-set_same xs d.0 value value (omega arith)))
        | inr other ↦ reset_at ds next e (omega arith) (elim h [
          | inl none ↦ inl (get_or-set_other xs d.0 e.0 value value other ∙ none)
          | inr c ↦ elim (Contains-cons_cases d ds e c) [
            | inl is ↦ absurd (other (ap (λ (z : DeviceId). z.0) (sym is)))
            | inr later ↦ inr later
          ]
        ])
      ]

  -- when all entries are reset that have another value, each has this one
  pub All-reset : (ds : List DeviceId) (xs : List X)
      → ((d : DeviceId) → d.0 < length xs → (get_or xs d.0 value ≡ value) ⊎ Contains ds d)
      → AreAll value (reset value ds xs)
  All-reset ds xs others k x lt =
      let size = length-reset ds xs in
      let e : DeviceId = record { 0 = k } in
      get_or_default (reset value ds xs) k x value lt
      ∙ reset_at ds xs e (omega arith) (others e (omega arith))

-- ---- marks

marked_or : (b : Bool) (P : Type 0) → (b ≡ true → P) → (b ≡ false) ⊎ P
marked_or true P f = inr (f refl)
marked_or false P f = inl refl

pub unmarked_all : (marks : List Bool) (ds : List DeviceId) → AreMarked marks ds
    → AreAll false (reset false ds marks)
unmarked_all marks ds are =
    All-reset false ds marks (λ d lt. marked_or (get_or marks d.0 false) (Contains ds d) (are d lt))
