-- How labels spread: from one device to the next ones, and on.
use Rattle.std.proofs.Common.{◌≡◌, ◌≢◌, ℕ, zero, suc, ◌+◌, ◌<◌, ◌++◌, ◌⊎◌, ◌↔◌, Bool, true, false, not, List, [], ◌∷◌, cond, Option, Some, None, is_some, length, get_or, set, refl, sym, ◌∙◌, ap, inl, inr, arith}
use Rattle.std.specs.List.{Any, Contains, count_by}
use Rattle.std.proofs.lemmas.Bool.{cases_Bool, cases_lt, false≢true}
use Rattle.std.proofs.Math.ListN.{get_or-append}
use Rattle.std.proofs.Math.Seq.{get_or-append_seam}
use Rattle.std.proofs.lemmas.List.{get_or_default, get_or-set_other, get_or-set_same, length-append}
use Rattle.std.proofs.lemmas.List.Elements.{Contains-append_cases, Contains-append_left, Contains-append_right}
use Rattle.std.proofs.lemmas.List.Sums.{sum_by-set}
use Rattle.std.proofs.lemmas.Option.{none-some, same_Some, unwrap_or-slice_get}
use Rattle.cn_base.specs.declared.ids.DeviceId.{DeviceId}
use Rattle.cn_net.specs.Islands.{holds_device, label_of}
use Rattle.cn_net.specs.Network.{Network, IsDevice, IsLinked}
use Rattle.cn_net.specs.Valid.{IsValid}
use Rattle.cn_net.specs.declared.neighbours.Neighbour.{Neighbour}
use Rattle.cn_net.proofs.Members.{contained, held}
use Rattle.cn_net.proofs.Peers.{linked_devices}
use Rattle.cn_island.specs.Found.{IsFound, IsSpread}

-- ---- labels

pub some_label : (o : Option DeviceId) → is_some o ≡ true → (i : DeviceId) × (o ≡ Some i)
some_label None h = absurd (false≢true h)
some_label (Some i) h = (i, refl)

pub label_cases : (o : Option DeviceId) → (o ≡ None) ⊎ ((i : DeviceId) × (o ≡ Some i))
label_cases None = inl refl
label_cases (Some i) = inr (i, refl)

label_at : (labels : List (Option DeviceId)) (d : DeviceId)
    → label_of labels d ≡ get_or labels d.0 None
label_at labels d = unwrap_or-slice_get labels d.0 None

-- what a test of an entry says of the label
pub unlabelled : (labels : List (Option DeviceId)) (d : DeviceId) (t : Bool)
    → is_some (get_or labels d.0 None) ≡ not t → t ≡ true → label_of labels d ≡ None
unlabelled labels d t is h =
    elim (label_cases (label_of labels d)) [
      | inl n ↦ n
      | inr i ↦ absurd (false≢true (sym (is ∙ ap not h)
          ∙ ap is_some (sym (label_at labels d) ∙ i.1)))
    ]

pub labelled : (labels : List (Option DeviceId)) (d : DeviceId) (t : Bool)
    → is_some (get_or labels d.0 None) ≡ not t → t ≡ false → is_some (label_of labels d) ≡ true
labelled labels d t is h = ap is_some (label_at labels d) ∙ is ∙ ap not h

pub labelled_there : (labels : List (Option DeviceId)) (d : DeviceId) (x : Option DeviceId)
    (t : Bool) → d.0 < length labels → x ≡ get_or labels d.0 x → is_some x ≡ not t → t ≡ false
    → is_some (label_of labels d) ≡ true
labelled_there labels d x t lt at is h =
    labelled labels d t (ap is_some (sym (at ∙ get_or_default labels d.0 x None lt)) ∙ is) h

-- ---- the spread along a test

pub spread_none : (P : DeviceId → Type 0) (island : DeviceId) (labels : List (Option DeviceId))
    (found : List DeviceId) → ((d : DeviceId) → P d → is_some (label_of labels d) ≡ true)
    → IsSpread P island labels labels found found
spread_none P island labels found all = record {
  longer = omega arith;
  front = λ k d lt. refl;
  behind = λ k d le lt. absurd (omega arith);
  kept = λ d i e. e;
  all = all;
  only = λ d i e. inl e;
}

pub spread_same : (P Q : DeviceId → Type 0) (island : DeviceId)
    (labels labels' : List (Option DeviceId)) (found found' : List DeviceId)
    → IsSpread P island labels labels' found found' → ((d : DeviceId) → P d → Q d)
    → ((d : DeviceId) → Q d → P d) → IsSpread Q island labels labels' found found'
spread_same P Q island labels labels' found found' h f g = record {
  longer = h.longer;
  front = h.front;
  behind = h.behind;
  kept = h.kept;
  all = λ d q. h.all d (g d q);
  only = λ d i e. elim (h.only d i e) [ inl o ↦ inl o | inr w ↦ inr (w.0, f d w.1, w.2) ];
}

pub spread_on : (P R Q : DeviceId → Type 0) (island : DeviceId) (a b c : List (Option DeviceId))
    (x y z : List DeviceId) → IsSpread P island a b x y → IsSpread R island b c y z
    → ((d : DeviceId) → P d → Q d) → ((d : DeviceId) → R d → Q d)
    → ((d : DeviceId) → Q d → P d ⊎ R d) → IsSpread Q island a c x z
spread_on P R Q island a b c x y z h g p r q = record {
  longer = omega (arith, h.longer, g.longer);
  front = λ k d lt. let m : k < length y = omega (arith, h.longer) in g.front k d m
      ∙ h.front k d lt;
  behind = λ k d le lt. elim (cases_lt k (length y)) [
    | inl m ↦ ap (label_of c) (g.front k d m) ∙ g.kept (get_or y k d) island (h.behind k d le m)
    | inr m ↦ g.behind k d m lt
  ];
  kept = λ d i e. g.kept d i (h.kept d i e);
  all = λ d w. elim (q d w) [
    | inl u ↦ let s = some_label (label_of b d) (h.all d u) in ap is_some (g.kept d s.0 s.1)
    | inr u ↦ g.all d u
  ];
  only = λ d i e. elim (g.only d i e) [
    | inl o ↦ elim (h.only d i o) [ inl w ↦ inl w | inr w ↦ inr (w.0, p d w.1, w.2) ]
    | inr w ↦ elim (label_cases (label_of a d)) [
      | inl n ↦ inr (n, r d w.1, w.2)
      | inr s ↦ absurd (none-some s.0 (sym w.0 ∙ h.kept d s.0 s.1))
    ]
  ];
}

-- ---- one device

set_this : (labels : List (Option DeviceId)) (d : DeviceId) (v : Option DeviceId)
    → d.0 < length labels → label_of (set labels d.0 v) d ≡ v
set_this labels d v lt = label_at (set labels d.0 v) d ∙ get_or-set_same labels d.0 v None lt

set_other : (labels : List (Option DeviceId)) (d x : DeviceId) (v : Option DeviceId) → x.0 ≢ d.0
    → label_of (set labels d.0 v) x ≡ label_of labels x
set_other labels d x v ne = label_at (set labels d.0 v) x
    ∙ get_or-set_other labels d.0 x.0 v None ne ∙ sym (label_at labels x)

-- two numbers are one, or not
same_or_not : (x d : DeviceId) → (x ≡ d) ⊎ (x.0 ≢ d.0)
same_or_not x d =
    elim (cases_lt x.0 d.0) [
      | inl l ↦ inr (λ e. omega (arith, l, e))
      | inr l ↦ elim (cases_lt d.0 x.0) [
        | inl m ↦ inr (λ e. omega (arith, m, e))
        | inr m ↦ let e : x.0 ≡ d.0 = omega (arith, l, m) in inl (λ i. record { 0 = e i })
      ]
    ]

only_one : (d b : DeviceId) → Contains (d ∷ []) b → b ≡ d
only_one d b (zero, lt, is) = sym is
only_one d b (suc k, lt, is) = absurd (omega arith)

pub spread_one : (labels : List (Option DeviceId)) (found : List DeviceId) (d island : DeviceId)
    → d.0 < length labels → label_of labels d ≡ None
    → IsSpread (λ x. x ≡ d) island labels (set labels d.0 (Some island)) found (found ++ d ∷ [])
spread_one labels found d island lt none = record {
  longer = simp length-append (omega arith);
  front = λ k e k_in. get_or-append found (d ∷ []) e k k_in;
  behind = λ k e le k_in.
      let last : k ≡ length found = omega (arith, simp length-append at k_in, le) in
      let here : get_or (found ++ d ∷ []) k e ≡ d = ap (λ i. get_or (found ++ d ∷ []) i e) last
      ∙ get_or-append_seam found d [] e in
      ap (label_of (set labels d.0 (Some island))) here ∙ set_this labels d (Some island) lt;
  kept = λ x i e. elim (same_or_not x d) [
    | inl s ↦ absurd (none-some i (sym none ∙ ap (label_of labels) (sym s) ∙ e))
    | inr n ↦ set_other labels d x (Some island) n ∙ e
  ];
  all = λ x s. ap (λ w. is_some (label_of (set labels d.0 (Some island)) w)) s
      ∙ ap is_some (set_this labels d (Some island) lt);
  only = λ x i e. elim (same_or_not x d) [
    | inl s ↦ inr (
      ap (label_of labels) s
          ∙ none,
      s,
      same_Some i island (sym e ∙ ap (label_of (set labels d.0 (Some island))) s
          ∙ set_this labels d (Some island) lt),
    )
    | inr n ↦ inl (sym (set_other labels d x (Some island) n) ∙ e)
  ];
}

pub found_one : (labels : List (Option DeviceId)) (found : List DeviceId) (d island : DeviceId)
    → d.0 < length labels → label_of labels d ≡ None → IsFound labels found
    → IsFound (set labels d.0 (Some island)) (found ++ d ∷ [])
found_one labels found d island lt none h = record {
  labelled = λ x. elim (same_or_not x d) [
    | inl s ↦ ap (λ w. is_some (label_of (set labels d.0 (Some island)) w)) s
        ∙ ap is_some (set_this labels d (Some island) lt)
        ∙ sym (ap (holds_device (found ++ d ∷ [])) s
        ∙ held (found ++ d ∷ []) d (Contains-append_right found (d ∷ []) d (0, omega arith, refl)))
    | inr n ↦ ap is_some (set_other labels d x (Some island) n) ∙ h.labelled x ∙ unmoved x n
  ];
  once =
      let e : get_or labels d.0 None ≡ None = sym (label_at labels d) ∙ none in
      let c : count_by is_some (set labels d.0 (Some island)) + 0 ≡ count_by is_some labels + 1 =
      sym (ap (λ o. count_by is_some (set labels d.0 (Some island)) + count_one o) e)
      ∙ sum_by-set count_one labels d.0 (Some island) None lt in
      simp length-append (omega (arith, h.once, c));
}
  where
    count_one : Option DeviceId → ℕ
    count_one o = cond (is_some o) 1 0

    unmoved : (x : DeviceId) → x.0 ≢ d.0 → holds_device found x ≡ holds_device (found ++ d ∷ []) x
    unmoved x n = elim (cases_Bool (holds_device found x)) [
      | inl t ↦ t ∙ sym (held (found ++ d ∷ []) x
          (Contains-append_left found (d ∷ []) x (contained found x t)))
      | inr f ↦ elim (cases_Bool (holds_device (found ++ d ∷ []) x)) [
        | inr g ↦ f ∙ sym g
        | inl t ↦ elim (Contains-append_cases found (d ∷ []) x (contained (found ++ d ∷ []) x t)) [
          | inl c ↦ absurd (false≢true (sym f ∙ held found x c))
          | inr c ↦ absurd (n (ap (λ (z : DeviceId). z.0) (only_one d x c)))
        ]
      ]
    ]

-- ---- the neighbours of one device

-- one of the first k neighbours is b, and b is outside
abbrev pub IsSeen : (DeviceId → Bool) → List Neighbour → ℕ → DeviceId → Type 0
IsSeen outside ns k b = (i : ℕ) × (n : Neighbour) × (i < k) × (i < length ns) × (n ≡ get_or ns i n)
    × (n.device ≡ b) × (outside b ≡ true)

seen_later : (outside : DeviceId → Bool) (ns : List Neighbour) (k : ℕ) (x : DeviceId)
    → IsSeen outside ns k x → IsSeen outside ns (k + 1) x
seen_later outside ns k x s = (s.0, s.1, omega (arith, s.2), s.3, s.4, s.5, s.6)

seen_cases : (outside : DeviceId → Bool) (ns : List Neighbour) (k : ℕ) (e : Neighbour)
    (x : DeviceId) → k < length ns → IsSeen outside ns (k + 1) x → IsSeen outside ns k x
    ⊎ (x ≡ (get_or ns k e).device)
seen_cases outside ns k e x lt s =
    elim (cases_lt s.0 k) [
      | inl w ↦ inl (s.0, s.1, w, s.3, s.4, s.5, s.6)
      | inr le ↦
          let q : s.0 ≡ k = omega (arith, s.2, le) in
          let same : s.1 ≡ get_or ns k e = s.4 ∙ ap (λ i. get_or ns i s.1) q
          ∙ get_or_default ns k s.1 e lt in
          inr (sym s.5 ∙ ap (λ (m : Neighbour). m.device) same)
    ]

-- an outside neighbour
pub seen_taken : (outside : DeviceId → Bool) (ns : List Neighbour) (k : ℕ) (e : Neighbour)
    (island : DeviceId) (a b c : List (Option DeviceId)) (x y z : List DeviceId) → k < length ns
    → outside (get_or ns k e).device ≡ true
    → IsSpread (λ w. w ≡ (get_or ns k e).device) island b c y z
    → IsSpread (IsSeen outside ns k) island a b x y
    → IsSpread (IsSeen outside ns (k + 1)) island a c x z
seen_taken outside ns k e island a b c x y z lt o one h =
    let n = get_or ns k e in
    spread_on (IsSeen outside ns k) (λ w. w ≡ n.device)
    (IsSeen outside ns (k + 1)) island a b c x y z h one (seen_later outside ns k)
    (λ w s. (k, n, omega arith, lt, get_or_default ns k e n lt, sym s, ap outside s ∙ o))
    (λ w s. seen_cases outside ns k e w lt s)

-- an emulated neighbour
pub seen_passed : (outside : DeviceId → Bool) (ns : List Neighbour) (k : ℕ) (e : Neighbour)
    (island : DeviceId) (a b : List (Option DeviceId)) (x y : List DeviceId) → k < length ns
    → outside (get_or ns k e).device ≡ false → IsSpread (IsSeen outside ns k) island a b x y
    → IsSpread (IsSeen outside ns (k + 1)) island a b x y
seen_passed outside ns k e island a b x y lt o h =
    spread_same (IsSeen outside ns k)
    (IsSeen outside ns (k + 1)) island a b x y h (seen_later outside ns k) (λ w s.
    elim (seen_cases outside ns k e w lt s) [
      | inl u ↦ u
      | inr q ↦ absurd (false≢true (sym o ∙ ap outside (sym q) ∙ s.6))
    ])

pub neighbour_device : (net : Network) (d : DeviceId) (ns : List Neighbour) (k : ℕ) (e : Neighbour)
    → IsValid net → k < length ns → ((b : DeviceId) → Any (λ n. n.device ≡ b) ns ↔ IsLinked net d b)
    → IsDevice net (get_or ns k e).device
neighbour_device net d ns k e valid lt linked =
    let n = get_or ns k e in
    (linked_devices net d n.device valid
    ((linked n.device).0 (k, n, lt, sym (get_or_default ns k e n lt), refl))).1
