-- The search for islands: what holds once the first devices were looked at, and that in the end the
-- labels are those of the islands.
use Rattle.std.proofs.Common.{◌≡◌, ℕ, ◌+◌, ◌<◌, ◌≤◌, Bool, true, List, [], cond, Option, Some, None, is_some, length, get_or, sym, ◌∙◌, ap, subst, inl, inr, arith}
use Rattle.std.specs.List.{Contains}
use Rattle.std.proofs.Math.ListN.{replicate}
use Rattle.std.proofs.lemmas.Bool.{cases_lt, false≢true}
use Rattle.std.proofs.lemmas.List.{get_or_default, get_or_past, get_or-replicate, length-replicate}
use Rattle.std.proofs.lemmas.List.Folds.{sum_by-replicate}
use Rattle.std.proofs.lemmas.Option.{none-some, unwrap_or-slice_get}
use Rattle.cn_base.specs.declared.ids.DeviceId.{DeviceId}
use Rattle.cn_net.specs.Islands.{IsIslands, IsJoined, label_of}
use Rattle.cn_net.specs.Islands.IsJoined.{itself, link}
use Rattle.cn_net.specs.Network.{Network, IsDevice, IsLinked}
use Rattle.cn_net.proofs.Chains.{joined_back, linked_back}
use Rattle.cn_net.proofs.Members.{contained, held}
use Rattle.cn_island.specs.Found.{IsFound, IsNext, IsSearched, IsSpread}
use Rattle.cn_island.proofs.Spreading.{label_cases, some_label}

-- the devices that were found, but not yet looked at, have the label of the island that is searched
pub record IsPending (labels : List (Option DeviceId)) (found : List DeviceId) (next : ℕ)
    (island : DeviceId) : Type 0 where
  pub waiting : (k : ℕ) (d : DeviceId) → next ≤ k → k < length found
      → label_of labels (get_or found k d) ≡ Some island

-- the place of a device with a label
place : (labels : List (Option DeviceId)) (found : List DeviceId) (d i : DeviceId)
    → IsFound labels found → label_of labels d ≡ Some i → Contains found d
place labels found d i h e = contained found d (sym (h.labelled d) ∙ ap is_some e)

-- the label of a device that was found
its_label : (labels : List (Option DeviceId)) (found : List DeviceId) (k : ℕ) (d : DeviceId)
    → IsFound labels found → k < length found → (i : DeviceId)
    × (label_of labels (get_or found k d) ≡ Some i)
its_label labels found k d h lt =
    let x = get_or found k d in
    some_label (label_of labels x)
    (h.labelled x ∙ held found x (k, lt, sym (get_or_default found k d x lt)))

-- ---- a step of the search

module _ (net : Network) (outside : DeviceId → Bool) (P : DeviceId → Type 0) (island : DeviceId)
    (labels labels' : List (Option DeviceId)) (found found' : List DeviceId) (next low : ℕ)
    (s : IsSearched net outside labels found next low)
    (h : IsSpread P island labels labels' found found') where
  -- two devices with one label keep one
  still : (x b i : DeviceId) → label_of labels x ≡ Some i → label_of labels b ≡ label_of labels x
      → label_of labels' b ≡ label_of labels' x
  still x b i e same = h.kept b i (same ∙ e) ∙ sym (h.kept x i e)

  still_spread : (k : ℕ) (d b : DeviceId) → k < next → IsNext net outside (get_or found' k d) b
      → label_of labels' b ≡ label_of labels' (get_or found' k d)
  still_spread k d b lt n =
      let k_in : k < length found = omega (arith, s.inside) in
      let x = get_or found k d in
      let at : get_or found' k d ≡ x = h.front k d k_in in
      let i = its_label labels found k d s.listed k_in in
      still x b i.0 i.1 (s.spread k d b lt (subst (λ z. IsNext net outside z b) at n))
      ∙ sym (ap (label_of labels') at)

  still_below : (d : DeviceId) → d.0 < low → d.0 < length net.devices → outside d ≡ true
      → is_some (label_of labels' d) ≡ true
  still_below d lt is o = let i = some_label (label_of labels d) (s.below d lt is o) in
      ap is_some (h.kept d i.0 i.1)

  -- a device that had no label is no less than those that all have one
  above_low : (d : DeviceId) → IsDevice net d → outside d ≡ true → label_of labels d ≡ None
      → low ≤ d.0
  above_low d is o n =
      elim (cases_lt d.0 low) [
        | inl lt ↦ absurd (false≢true (sym (ap is_some n) ∙ s.below d lt is o))
        | inr le ↦ le
      ]

-- the next device was looked at
module _ (net : Network) (outside : DeviceId → Bool) (root : DeviceId)
    (labels labels' : List (Option DeviceId)) (found found' : List DeviceId) (next low : ℕ)
    (d : DeviceId) (s : IsSearched net outside labels found next low)
    (w : IsPending labels found next root)
    (h : IsSpread (IsNext net outside d) root labels labels' found found')
    (lt : next < length found) (is : d ≡ get_or found next d) (below : root.0 < low)
    (size : length labels' ≡ length net.devices) (listed : IsFound labels' found')
    (devices : (b : DeviceId) → IsLinked net d b → IsDevice net b) where
  labelled_root : label_of labels d ≡ Some root
  labelled_root = ap (label_of labels) is ∙ w.waiting next d (omega arith) lt

  next_joined : (b i : DeviceId) → label_of labels' b ≡ Some i → IsJoined net outside b i
  next_joined b i e = elim (h.only b i e) [
    | inl o ↦ s.joined b i o
    | inr v ↦
        let back = joined_back net outside d root (s.joined d root labelled_root) in
        subst (IsJoined net outside b) (sym v.2)
        (joined_back net outside root b (link back (s.outer d root labelled_root) v.1.1 v.1.0))
  ]

  next_label : (b : DeviceId) → IsNext net outside d b → label_of labels' b ≡ Some root
  next_label b n =
      let i = some_label (label_of labels' b) (h.all b n) in
      elim (h.only b i.0 i.1) [
        | inr v ↦ i.1 ∙ ap Some v.2
        | inl o ↦
            let p = place labels found b i.0 s.listed o in
            elim (cases_lt p.0 next) [
              | inl early ↦
                  let back : IsNext net outside (get_or found p.0 b) d =
                  subst (λ z. IsNext net outside z d) (sym p.2)
                  (linked_back net d b n.0, s.outer d root labelled_root) in
                  h.kept b root (sym (ap (label_of labels) p.2) ∙ sym (s.spread p.0 b d early back)
                  ∙ labelled_root)
              | inr late ↦ h.kept b root (sym (ap (label_of labels) p.2) ∙ w.waiting p.0 b late p.1)
            ]
      ]

  next_spread : (k : ℕ) (e b : DeviceId) → k < next + 1 → IsNext net outside (get_or found' k e) b
      → label_of labels' b ≡ label_of labels' (get_or found' k e)
  next_spread k e b k_in n = elim (cases_lt k next) [
    | inl early ↦ still_spread net outside (IsNext net outside d) root labels labels'
        found found' next low s h k e b early n
    | inr late ↦
        let same : k ≡ next = omega arith in
        let at : get_or found' k e ≡ d = ap (λ i. get_or found' i e) same ∙ h.front next e lt
        ∙ get_or_default found next e d lt ∙ sym is in
        next_label b (subst (λ z. IsNext net outside z b) at n)
        ∙ sym (ap (label_of labels') at ∙ h.kept d root labelled_root)
  ]

  pub next_searched : IsSearched net outside labels' found' (next + 1) low
  next_searched = record {
    size = size;
    listed = listed;
    inside = omega (arith, h.longer);
    outer = λ b i e. elim (h.only b i e) [ inl o ↦ s.outer b i o | inr v ↦ v.1.1 ];
    joined = next_joined;
    least = λ b i e. elim (h.only b i e) [
      | inl o ↦ s.least b i o
      | inr v ↦
          let q : i.0 ≡ root.0 = ap (λ (z : DeviceId). z.0) v.2 in
          omega (
            arith,
            above_low net outside (IsNext net outside d) root labels labels'
                found found' next low s h b (devices b v.1.0) v.1.1 v.0,
          )
    ];
    below = still_below net outside (IsNext net outside d) root labels labels' found found' next
        low s h;
    spread = next_spread;
  }

  pub next_pending : IsPending labels' found' (next + 1) root
  next_pending = record {
    waiting = λ k e le k_in. elim (cases_lt k (length found)) [
      | inl old ↦ ap (label_of labels') (h.front k e old)
          ∙ h.kept (get_or found k e) root (w.waiting k e (omega arith) old)
      | inr new ↦ h.behind k e new k_in
    ];
  }

-- the search for an island begins at its least device
module _ (net : Network) (outside : DeviceId → Bool) (root : DeviceId)
    (labels labels' : List (Option DeviceId)) (found found' : List DeviceId)
    (s : IsSearched net outside labels found (length found) root.0)
    (h : IsSpread (λ x. x ≡ root) root labels labels' found found') (o : outside root ≡ true)
    (size : length labels' ≡ length net.devices) (listed : IsFound labels' found') where
  pub first_searched : IsSearched net outside labels' found' (length found) (root.0 + 1)
  first_searched = record {
    size = size;
    listed = listed;
    inside = h.longer;
    outer = λ b i e. elim (h.only b i e) [ inl q ↦ s.outer b i q | inr v ↦ ap outside v.1 ∙ o ];
    joined = λ b i e. elim (h.only b i e) [
      | inl q ↦ s.joined b i q
      | inr v ↦ subst (IsJoined net outside b) (v.1 ∙ sym v.2) itself
    ];
    least = λ b i e. elim (h.only b i e) [
      | inl q ↦ s.least b i q
      | inr v ↦ let q : i.0 ≡ b.0 = ap (λ (z : DeviceId). z.0) (v.2 ∙ sym v.1) in omega arith
    ];
    below = λ d lt is od. elim (cases_lt d.0 root.0) [
      | inl early ↦ still_below net outside (λ x. x ≡ root) root labels labels' found found'
          (length found) root.0 s h d early is od
      | inr late ↦ let e : d.0 ≡ root.0 = omega arith in h.all d (λ i. record { 0 = e i })
    ];
    spread = still_spread net outside (λ x. x ≡ root) root labels labels' found found'
        (length found) root.0 s h;
  }

  pub first_pending : IsPending labels' found' (length found) root
  first_pending = record { waiting = h.behind }

-- ---- between searches

-- a device that needs no search
pub passed_searched : (net : Network) (outside : DeviceId → Bool) (labels : List (Option DeviceId))
    (found : List DeviceId) (next : ℕ) (d : DeviceId) → IsSearched net outside labels found next d.0
    → (outside d ≡ true → is_some (label_of labels d) ≡ true)
    → IsSearched net outside labels found next (d.0 + 1)
passed_searched net outside labels found next d s labelled = record {
  size = s.size;
  listed = s.listed;
  inside = s.inside;
  outer = s.outer;
  joined = s.joined;
  least = s.least;
  below = λ x lt is o. elim (cases_lt x.0 d.0) [
    | inl early ↦ s.below x early is o
    | inr late ↦
        let e : d.0 ≡ x.0 = omega arith in
        let same : d ≡ x = λ i. record { 0 = e i } in
        subst (λ z. is_some (label_of labels z) ≡ true) same (labelled (ap outside same ∙ o))
  ];
  spread = s.spread;
}

no_label : (n : ℕ) (d : DeviceId) → label_of (replicate n None) d ≡ None
no_label n d = unwrap_or-slice_get (replicate n None) d.0 None ∙ elim (cases_lt d.0 n) [
  | inl lt ↦ get_or-replicate n d.0 None None lt
  | inr le ↦ get_or_past (replicate n None) d.0 None (simp length-replicate le)
]

pub start_searched : (net : Network) (outside : DeviceId → Bool)
    → IsSearched net outside (replicate (length net.devices) None) [] 0 0
start_searched net outside =
    let n = length net.devices in
    record {
      size = length-replicate n None;
      listed = record {
        labelled = λ d. ap is_some (no_label n d);
        once = sym (sum_by-replicate (λ (o : Option DeviceId). cond (is_some o) 1 0) n None
            ∙ omega arith);
      };
      inside = omega arith;
      outer = λ d i e. absurd (none-some i (sym (no_label n d) ∙ e));
      joined = λ d i e. absurd (none-some i (sym (no_label n d) ∙ e));
      least = λ d i e. absurd (none-some i (sym (no_label n d) ∙ e));
      below = λ d lt. absurd (omega arith);
      spread = λ k d b lt. absurd (omega arith);
    }

-- ---- the end

module _ (net : Network) (outside : DeviceId → Bool) (labels : List (Option DeviceId))
    (found : List DeviceId) (low : ℕ) (s : IsSearched net outside labels found (length found) low)
    (done : length net.devices ≤ low) where
  same_label : (d i x : DeviceId) → label_of labels d ≡ Some i → IsJoined net outside d x
      → label_of labels x ≡ Some i
  same_label d i x e itself = e
  same_label d i x e (link {b = c} r oc ox l) =
      let ec = same_label d i c e r in
      let p = place labels found c i s.listed ec in
      s.spread p.0 c x p.1 (subst (λ z. IsNext net outside z x) (sym p.2) (l, ox))
      ∙ ap (label_of labels) p.2 ∙ ec

  pub all_islands : IsIslands net outside (label_of labels)
  all_islands = record {
    emulated = λ d is f. elim (label_cases (label_of labels d)) [
      | inl n ↦ n
      | inr i ↦ absurd (false≢true (sym f ∙ s.outer d i.0 i.1))
    ];
    labelled = λ d is o. some_label (label_of labels d) (s.below d (omega arith) is o);
    joined = λ d i is e. s.joined d i e;
    least = λ d i x is e r. s.least x i (same_label d i x e r);
  }
