-- The search upwards: what holds of the members once the first ones were visited, and that in the
-- end they are the grown set.
use Rattle.std.proofs.Common.{◌≡◌, ℕ, ◌+◌, ◌<◌, ◌≤◌, ◌⊎◌, Bool, true, List, length, get_or, refl, sym, ◌∙◌, ap, subst, inl, inr, arith, All}
use Rattle.std.proofs.lemmas.Bool.{cases_lt}
use Rattle.std.proofs.lemmas.List.{get_or_default}
use Rattle.cn_base.specs.declared.ids.DeviceId.{DeviceId}
use Rattle.cn_net.specs.Islands.{holds_device}
use Rattle.cn_net.specs.Network.{Network, IsDevice}
use Rattle.cn_net.specs.declared.neighbours.Neighbour.{Neighbour}
use Rattle.cn_net.proofs.Members.{contained, held}
use Rattle.cn_grow.specs.Growth.{IsAbove, IsClosed, IsGrown, IsPartOf, layer_of}
use Rattle.cn_grow.specs.Members.{IsExtended, IsMarked, with_member}
use Rattle.cn_grow.proofs.Marked.{extended_front, extended_holds, extended_longer, extended_more, extended_same, marked_within}

-- ---- the neighbours of one device

-- one of the first k neighbours is b, and b has a greater layer than d
abbrev pub IsSeenAbove : Network → DeviceId → List Neighbour → ℕ → DeviceId → Type 0
IsSeenAbove net d ns k b = (i : ℕ) × (n : Neighbour) × (i < k) × (i < length ns)
    × (n ≡ get_or ns i n) × (n.device ≡ b) × (layer_of net d < layer_of net b)

seen_later : (net : Network) (d : DeviceId) (ns : List Neighbour) (k : ℕ) (x : DeviceId)
    → IsSeenAbove net d ns k x → IsSeenAbove net d ns (k + 1) x
seen_later net d ns k x s = (s.0, s.1, omega (arith, s.2), s.3, s.4, s.5, s.6)

seen_cases : (net : Network) (d : DeviceId) (ns : List Neighbour) (k : ℕ) (n : Neighbour)
    (x : DeviceId) → k < length ns → n ≡ get_or ns k n → IsSeenAbove net d ns (k + 1) x
    → IsSeenAbove net d ns k x ⊎ (x ≡ n.device)
seen_cases net d ns k n x lt is s =
    elim (cases_lt s.0 k) [
      | inl w ↦ inl (s.0, s.1, w, s.3, s.4, s.5, s.6)
      | inr le ↦
          let e : s.0 ≡ k = omega (arith, s.2, le) in
          let same : s.1 ≡ n = s.4 ∙ ap (λ i. get_or ns i s.1) e ∙ get_or_default ns k s.1 n lt
          ∙ sym is in
          inr (sym s.5 ∙ ap (λ (m : Neighbour). m.device) same)
    ]

-- a neighbour with a greater layer
pub seen_taken : (net : Network) (d : DeviceId) (ns : List Neighbour) (k : ℕ) (e : Neighbour)
    (from to to' : List DeviceId) → k < length ns
    → layer_of net d < layer_of net (get_or ns k e).device
    → to' ≡ with_member (get_or ns k e).device to → IsExtended (IsSeenAbove net d ns k) from to
    → IsExtended (IsSeenAbove net d ns (k + 1)) from to'
seen_taken net d ns k e from to to' lt above new h =
    let n = get_or ns k e in
    let is : n ≡ get_or ns k n = get_or_default ns k e n lt in
    extended_more (IsSeenAbove net d ns k)
    (IsSeenAbove net d ns (k + 1)) from to to' n.device new h (
      k,
      n,
      omega arith,
      lt,
      is,
      refl,
      above,
    ) (seen_later net d ns k) (λ x s. seen_cases net d ns k n x lt is s)

-- any other neighbour
pub seen_passed : (net : Network) (d : DeviceId) (ns : List Neighbour) (k : ℕ) (e : Neighbour)
    (from to : List DeviceId) → k < length ns → layer_of net (get_or ns k e).device ≤ layer_of net d
    → IsExtended (IsSeenAbove net d ns k) from to
    → IsExtended (IsSeenAbove net d ns (k + 1)) from to
seen_passed net d ns k e from to lt below h =
    let n = get_or ns k e in
    let is : n ≡ get_or ns k n = get_or_default ns k e n lt in
    extended_same (IsSeenAbove net d ns k)
    (IsSeenAbove net d ns (k + 1)) from to h (seen_later net d ns k) (λ x s.
    elim (seen_cases net d ns k n x lt is s) [
      | inl w ↦ w
      | inr q ↦ let same : layer_of net x ≡ layer_of net n.device = ap (layer_of net) q in
          absurd (omega (arith, s.6, same, below))
    ])

-- ---- the whole search

-- the first members were visited: whatever is above them are members too; and no device is a member
-- in vain
pub record IsSearched (net : Network) (must members : List DeviceId) (marks : List Bool)
    (next : ℕ) : Type 0 where
  pub size : length marks ≡ length net.devices
  pub marked : IsMarked marks members
  pub inside : next ≤ length members
  pub given : IsPartOf must members
  pub least : (other : List DeviceId) → IsPartOf must other → IsClosed net other
      → IsPartOf members other
  pub above : (k : ℕ) (d b : DeviceId) → k < next → IsAbove net (get_or members k d) b
      → holds_device members b ≡ true

pub searched_more : (net : Network) (must members members' : List DeviceId)
    (marks marks' : List Bool) (next : ℕ) (d : DeviceId) → IsSearched net must members marks next
    → next < length members → d ≡ get_or members next d → length marks' ≡ length net.devices
    → IsMarked marks' members' → IsExtended (IsAbove net d) members members'
    → IsSearched net must members' marks' (next + 1)
searched_more net must members members' marks marks' next d s lt is size marked h = record {
  size = size;
  marked = marked;
  inside = omega (arith, extended_longer (IsAbove net d) members members' h);
  given = λ x m. extended_holds (IsAbove net d) members members' x h (s.given x m);
  least = λ other given closed x t. elim (h.only x t) [
    | inl w ↦ s.least other given closed x w
    | inr a ↦ closed d x (s.least other given closed d (held members d (next, lt, sym is))) a
  ];
  above = λ k e b k_in a. elim (cases_lt k next) [
    | inl w ↦
        let before : k < length members = omega arith in
        extended_holds (IsAbove net d) members members' b h
        (s.above k e b w (subst (λ z. IsAbove net z b)
        (extended_front (IsAbove net d) members members' k e h before) a))
    | inr le ↦
        let same : k ≡ next = omega arith in
        let here : get_or members' k e ≡ d = ap (λ i. get_or members' i e) same
        ∙ extended_front (IsAbove net d) members members' next e h lt
        ∙ get_or_default members next e d lt ∙ sym is in
        h.all b (subst (λ z. IsAbove net z b) here a)
  ];
}

pub searched_within : (net : Network) (must members : List DeviceId) (marks : List Bool) (next : ℕ)
    → IsSearched net must members marks next → All (IsDevice net) members
searched_within net must members marks next s k d lt =
    omega (arith, marked_within marks members s.marked k d lt, s.size)

pub searched_grown : (net : Network) (must members set : List DeviceId) (marks : List Bool)
    (next : ℕ) → IsSearched net must members marks next → length members ≤ next
    → ((d : DeviceId) → holds_device set d ≡ holds_device members d) → IsGrown net must set
searched_grown net must members set marks next s done same = record {
  given = λ d m. same d ∙ s.given d m;
  closed = λ a b t up.
      let c = contained members a (sym (same a) ∙ t) in
      same b ∙ s.above c.0 a b (omega (arith, c.1)) (subst (λ z. IsAbove net z b) (sym c.2) up);
  least = λ other given closed d t. s.least other given closed d (sym (same d) ∙ t);
}
