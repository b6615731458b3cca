-- The members that were found so far: what one more changes.
use Rattle.std.proofs.Common.{◌≡◌, ℕ, suc, zero, ◌<◌, ◌≤◌, ◌++◌, ◌⊎◌, Bool, true, false, List, [], ◌∷◌, length, get_or, take, refl, sym, ◌∙◌, ap, subst, inl, inr, arith, All}
use Rattle.std.specs.List.{Contains}
use Rattle.std.proofs.lemmas.Bool.{cases_Bool, cases_lt, cond-true, cond-false, false≢true}
use Rattle.std.proofs.lemmas.List.{get_or_default, get_or_past, get_or-take, length-take, take-append-le}
use Rattle.std.proofs.lemmas.List.Elements.{Contains-append_cases, Contains-append_left, Contains-append_right}
use Rattle.cn_base.specs.declared.ids.DeviceId.{DeviceId}
use Rattle.cn_net.specs.Islands.{holds_device}
use Rattle.cn_net.proofs.Members.{contained, held}
use Rattle.cn_grow.specs.Members.{IsExtended, IsMarked, with_member}

-- ---- one member more

with_cases : (d : DeviceId) (xs : List DeviceId)
    → ((with_member d xs ≡ xs) × (holds_device xs d ≡ true)) ⊎ (with_member d xs ≡ xs ++ d ∷ [])
with_cases d xs =
    elim (cases_Bool (holds_device xs d)) [
      | inl t ↦ inl (cond-true (holds_device xs d) xs (xs ++ d ∷ []) t, t)
      | inr f ↦ inr (cond-false (holds_device xs d) xs (xs ++ d ∷ []) f)
    ]

only_one : (d b : DeviceId) → Contains (d ∷ []) b → b ≡ d
only_one d b (zero, lt, is) = sym is
only_one d b (suc k, lt, is) = absurd (omega arith)

pub holds_with : (d b : DeviceId) (xs : List DeviceId) → holds_device xs b ≡ true
    → holds_device (with_member d xs) b ≡ true
holds_with d b xs h =
    elim (with_cases d xs) [
      | inl e ↦ ap (λ z. holds_device z b) e.0 ∙ h
      | inr e ↦ ap (λ z. holds_device z b) e
          ∙ held (xs ++ d ∷ []) b (Contains-append_left xs (d ∷ []) b (contained xs b h))
    ]

pub holds_this : (d : DeviceId) (xs : List DeviceId) → holds_device (with_member d xs) d ≡ true
holds_this d xs =
    elim (with_cases d xs) [
      | inl e ↦ ap (λ z. holds_device z d) e.0 ∙ e.1
      | inr e ↦ ap (λ z. holds_device z d) e
          ∙ held (xs ++ d ∷ []) d (Contains-append_right xs (d ∷ []) d (0, omega arith, refl))
    ]

pub holds_cases : (d b : DeviceId) (xs : List DeviceId) → holds_device (with_member d xs) b ≡ true
    → (holds_device xs b ≡ true) ⊎ (b ≡ d)
holds_cases d b xs h =
    elim (with_cases d xs) [
      | inl e ↦ inl (sym (ap (λ z. holds_device z b) e.0) ∙ h)
      | inr e ↦ elim (Contains-append_cases xs (d ∷ []) b
          (contained (xs ++ d ∷ []) b (sym (ap (λ z. holds_device z b) e) ∙ h))) [
            | inl c ↦ inl (held xs b c)
            | inr c ↦ inr (only_one d b c)
          ]
    ]

front_with : (d : DeviceId) (from to : List DeviceId) → take (length from) to ≡ from
    → take (length from) (with_member d to) ≡ from
front_with d from to h =
    let short : length from ≤ length to =
    omega (arith, sym (ap length h) ∙ length-take (length from) to) in
    elim (with_cases d to) [
      | inl e ↦ ap (take (length from)) e.0 ∙ h
      | inr e ↦ ap (take (length from)) e ∙ take-append-le (length from) to (d ∷ []) short ∙ h
    ]

-- ---- extended lists

pub extended_same : (P Q : DeviceId → Type 0) (from to : List DeviceId) → IsExtended P from to
    → ((x : DeviceId) → P x → Q x) → ((x : DeviceId) → Q x → P x) → IsExtended Q from to
extended_same P Q from to h f g = record {
  front = h.front;
  all = λ x q. h.all x (g x q);
  only = λ x t. elim (h.only x t) [ inl o ↦ inl o | inr p ↦ inr (f x p) ];
}

pub extended_more : (P Q : DeviceId → Type 0) (from to to' : List DeviceId) (d : DeviceId)
    → to' ≡ with_member d to → IsExtended P from to → Q d → ((x : DeviceId) → P x → Q x)
    → ((x : DeviceId) → Q x → P x ⊎ (x ≡ d)) → IsExtended Q from to'
extended_more P Q from to to' d is h here f g = subst (IsExtended Q from) (sym is) (record {
  front = front_with d from to h.front;
  all = λ x q. elim (g x q) [
    | inl p ↦ holds_with d x to (h.all x p)
    | inr e ↦ subst (λ z. holds_device (with_member d to) z ≡ true) (sym e) (holds_this d to)
  ];
  only = λ x t. elim (holds_cases d x to t) [
    | inl o ↦ elim (h.only x o) [ inl w ↦ inl w | inr p ↦ inr (f x p) ]
    | inr e ↦ inr (subst Q (sym e) here)
  ];
})

pub extended_holds : (P : DeviceId → Type 0) (from to : List DeviceId) (x : DeviceId)
    → IsExtended P from to → holds_device from x ≡ true → holds_device to x ≡ true
extended_holds P from to x h t =
    let c = contained from x t in
    held to x (
      c.0,
      omega (arith, c.1, sym (ap length h.front) ∙ length-take (length from) to),
      sym (get_or-take (length from) to c.0 x c.1) ∙ ap (λ z. get_or z c.0 x) h.front ∙ c.2,
    )

pub extended_longer : (P : DeviceId → Type 0) (from to : List DeviceId) → IsExtended P from to
    → length from ≤ length to
extended_longer P from to h = omega (arith, sym (ap length h.front) ∙ length-take (length from) to)

pub extended_front : (P : DeviceId → Type 0) (from to : List DeviceId) (k : ℕ) (d : DeviceId)
    → IsExtended P from to → k < length from → get_or to k d ≡ get_or from k d
extended_front P from to k d h lt = sym (get_or-take (length from) to k d lt)
    ∙ ap (λ z. get_or z k d) h.front

-- ---- marks

pub marked_within : (marks : List Bool) (members : List DeviceId) → IsMarked marks members
    → All (λ d. d.0 < length marks) members
marked_within marks members h k d lt =
    let x = get_or members k d in
    let t : holds_device members x ≡ true =
    held members x (k, lt, sym (get_or_default members k d x lt)) in
    elim (cases_lt x.0 (length marks)) [
      | inl w ↦ w
      | inr le ↦ absurd (false≢true (sym (get_or_past marks x.0 false le) ∙ h.marked x ∙ t))
    ]
