-- One more device decides, in a round over a table, and those of its neighbours that may decide
-- otherwise wait for the next round.
use Rattle.std.proofs.Common.{◌≡◌, ℕ, ◌+◌, ◌<◌, ◌≤◌, ◌++◌, ◌⊎◌, Bool, true, false, not, ◌&&◌, List, [], ◌∷◌, length, get_or, set, take, is_some, Option, Some, None, refl, sym, ap, subst, ◌∙◌, inl, inr, arith}
use Rattle.std.specs.Prelude.{All, Contains, IsSome}
use Rattle.std.proofs.lemmas.Bool.{and_parts, cases_Bool, cases_eq, false≢true}
use Rattle.std.proofs.lemmas.List.{get_or_default, set-get_or, take_more}
use Rattle.std.proofs.lemmas.List.Elements.{All-contains, All-push, All-weaker, Contains-append_left, Contains-get_or, Contains-push}
use Rattle.std.proofs.lemmas.List.Sums.{fold_push}
use Rattle.cn_base.specs.Cidr.{Cidr}
use Rattle.cn_base.specs.declared.ids.DeviceId.{DeviceId}
use Rattle.cn_base.specs.declared.route.Choice.{Choice}
use Rattle.cn_lists.proofs.Finding.{None-from_is_some}
use Rattle.cn_net.specs.Network.{Network, HasDistinctIds, IsDevice, is_linked, own_origin}
use Rattle.cn_net.proofs.Chains.{linked_back}
use Rattle.cn_net.proofs.Members.{held}
use Rattle.cn_record.specs.Places.{AddsDevices, IsInside, is_inside}
use Rattle.cn_record.specs.Rounds.{AreHolders, IsConverged, IsFixpoint, RestsBut, Wakes, is_deaf, is_woken}
use Rattle.cn_record.specs.Tables.{decided, candidate_from, held_of, round_of, turn}
use Rattle.cn_record.proofs.Converging.{IsNear, empty_at, fixpoint_last, fixpoint_still, near_first, near_next, turn_elsewhere, turn_here}
use Rattle.cn_record.proofs.Hearing.{candidate_from-deaf, decided_apart, decided_first, candidate_from-unlinked}
use Rattle.cn_record.proofs.Inside.{inside_label, label_inside}

-- ---- what a device hears of one that decides otherwise

not_woken : (b c : Bool) → (not b && c) ≡ false → c ≡ true → b ≡ true
not_woken true c f t = refl
not_woken false c f t = absurd (false≢true (sym f ∙ t))

-- a device of the island is woken, or hears the same as before
hears_same : (net : Network) (label : DeviceId → Option DeviceId) (i : DeviceId) (p : Cidr)
    (table : List (Option Choice)) (d b : DeviceId) → d.0 < length table → label b ≡ Some i
    → is_woken net label i (held_of table d p) (decided net p table d) b ≡ false
    → candidate_from net p (turn net p table d) b d ≡ candidate_from net p table b d
hears_same net label i p table d b within l asleep =
    let before = held_of table d p in
    let after = decided net p table d in
    let deaf =
    and_parts (is_deaf net b before) (is_deaf net b after)
    (not_woken (is_deaf net b before && is_deaf net b after) (is_inside label i b) asleep
    (label_inside label i b l)) in
    candidate_from-deaf net p (turn net p table d) b d
    (ap (is_deaf net b) (turn_here net p table d within) ∙ deaf.1)
    ∙ sym (candidate_from-deaf net p table b d deaf.0)

unlinked_back : (net : Network) (d b : DeviceId) → is_linked net d b ≡ false
    → is_linked net b d ≡ false
unlinked_back net d b f = elim (cases_Bool (is_linked net b d)) [
  | inl t ↦ absurd (false≢true (sym f ∙ linked_back net b d t))
  | inr g ↦ g
]

-- ---- one more turn

-- d stands in the list at the place k or later
pub record Waits (waiting : List DeviceId) (k : ℕ) (d : DeviceId) : Type 0 where
  pub place : ℕ
  pub from : k ≤ place
  pub within : place < length waiting
  pub is : get_or waiting place d ≡ d

-- From the first table the first k of the waiting devices have decided. Of the island each device
-- holds what it decides, but for those that wait still, and those that wait for the next round.
pub record HaveDecided (net : Network) (label : DeviceId → Option DeviceId) (i : DeviceId)
    (p : Cidr)
    (first now : List (Option Choice)) (waiting : List DeviceId) (k : ℕ) (next : List DeviceId)
    (holders : List DeviceId) : Type 0 where
  pub after : now ≡ round_of net p first (take k waiting)
  pub inside : All (IsInside net label i) next
  pub rests : (d : DeviceId) → IsDevice net d → label d ≡ Some i
      → Waits waiting k d ⊎ (Contains next d ⊎ (decided net p now d ≡ held_of now d p))
  pub holds : AreHolders net p now holders
  pub held_inside : All (IsInside net label i) holders

-- all are devices of the island where only such devices are added
pub inside_more : (net : Network) (label : DeviceId → Option DeviceId) (i : DeviceId)
    (Is : DeviceId → Type 0) (old new : List DeviceId)
    → AddsDevices Is (IsInside net label i) old new → All (IsInside net label i) old
    → All (IsInside net label i) new
inside_more net label i Is old new adds all k e lt =
    let d = get_or new k e in
    elim (adds.only d (Contains-get_or new k e lt)) [
      | inl before ↦ All-contains (IsInside net label i) old d all before
      | inr now ↦ now
    ]

module _ (net : Network) (label : DeviceId → Option DeviceId) (i : DeviceId) (p : Cidr)
    (first now : List (Option Choice)) (waiting : List DeviceId) (k : ℕ) (e : DeviceId)
    (within : k < length waiting) (choice x : Option Choice)
    (decides : choice ≡ decided net p now (get_or waiting k e))
    (inside : (get_or waiting k e).0 < length now)
    (at : x ≡ get_or now (get_or waiting k e).0 x) (next holders : List DeviceId)
    (so : HaveDecided net label i p first now waiting k next holders) where
  after_more : set now (get_or waiting k e).0 choice ≡ round_of net p first (take (k + 1) waiting)
  after_more =
      let d = get_or waiting k e in
      ap (set now d.0) decides
      ∙ ap (λ t. turn net p t d) so.after
      ∙ sym (ap (round_of net p first) (take_more waiting k e within)
      ∙ fold_push (turn net p) first (take k waiting) d)

  -- the one at the place k, or later
  waits_or : (b : DeviceId) → Waits waiting k b
      → (get_or waiting k e ≡ b) ⊎ Waits waiting (k + 1) b
  waits_or b w =
      elim (cases_eq w.place k) [
        | inl q ↦
            inl (get_or_default waiting k e b within
            ∙ ap (λ m. get_or waiting m b) (sym q) ∙ w.is)
        | inr other ↦
            inr (record {
              place = w.place;
              from = let lt = w.from in omega arith;
              within = w.within;
              is = w.is;
            })
      ]

  pub decided_as_before : x ≡ choice
      → HaveDecided net label i p first (set now (get_or waiting k e).0 choice) waiting (k + 1) next
      holders
  decided_as_before is =
      let d = get_or waiting k e in
      let here : x ≡ held_of now d p = at ∙ get_or_default now d.0 x None inside in
      let same : set now d.0 choice ≡ now =
      ap (set now d.0) (sym is ∙ at) ∙ set-get_or now d.0 x in
      record {
        after = after_more;
        inside = so.inside;
        rests = subst (λ t. (b : DeviceId) → IsDevice net b → label b ≡ Some i
            → Waits waiting (k + 1) b ⊎ (Contains next b ⊎ (decided net p t b ≡ held_of t b p)))
            (sym same) (λ b is_b l. elim (so.rests b is_b l) [
              | inl w ↦ elim (waits_or b w) [
                | inl q ↦
                    inr (inr (subst (λ z. decided net p now z ≡ held_of now z p) q
                    (sym decides ∙ sym is ∙ here)))
                | inr later ↦ inl later
              ]
              | inr r ↦ inr r
            ]);
        holds = subst (λ t. AreHolders net p t holders) (sym same) so.holds;
        held_inside = so.held_inside;
      }

  module _ (more held : List DeviceId) (in_island : IsInside net label i (get_or waiting k e))
      (wakes : Wakes net label i (get_or waiting k e) x choice next more)
      (more_held : held ≡ holders ++ get_or waiting k e ∷ []) where
    rests_otherwise : (b : DeviceId) → IsDevice net b → label b ≡ Some i
        → Waits waiting (k + 1) b
        ⊎ (Contains more b ⊎ (decided net p (turn net p now (get_or waiting k e)) b
        ≡ held_of (turn net p now (get_or waiting k e)) b p))
    rests_otherwise b is_b l =
        let d = get_or waiting k e in
        let here : x ≡ held_of now d p = at ∙ get_or_default now d.0 x None inside in
        let woken_as : is_woken net label i x choice b
        ≡ is_woken net label i (held_of now d p) (decided net p now d) b =
        (λ j. is_woken net label i (here j) (decides j) b) in
        let unwoken : candidate_from net p (turn net p now d) b d ≡ candidate_from net p now b d
        → Waits waiting (k + 1) b
        ⊎ (Contains more b ⊎ (decided net p (turn net p now d) b
        ≡ held_of (turn net p now d) b p)) =
        λ same. elim (cases_eq b.0 d.0) [
          | inl q ↦
              let is : d ≡ b = λ j. record { 0 = sym q j } in
              inr (inr (decided_apart net p now d b same ∙ ap (decided net p now) (sym is)
              ∙ sym (turn_here net p now d inside)
              ∙ ap (λ z. held_of (turn net p now d) z p) is))
          | inr other ↦ elim (so.rests b is_b l) [
            | inl w ↦ elim (waits_or b w) [
              | inl q ↦ absurd (other (ap (λ (z : DeviceId). z.0) (sym q)))
              | inr later ↦ inl later
            ]
            | inr r ↦ elim r [
              | inl c ↦ inr (inl (wakes.kept b c))
              | inr h ↦
                  inr (inr (decided_apart net p now d b same ∙ h
                  ∙ sym (turn_elsewhere net p now d b other)))
            ]
          ]
        ] in
        elim (cases_Bool (is_linked net d b)) [
          | inl t ↦ elim (cases_Bool (is_woken net label i x choice b)) [
            | inl w ↦ inr (inl (wakes.added b (t, w)))
            | inr f ↦
                unwoken (hears_same net label i p now d b inside l (sym woken_as ∙ f))
          ]
          | inr f ↦
              let back : is_linked net b d ≡ false = unlinked_back net d b f in
              unwoken (candidate_from-unlinked net p (turn net p now d) b d back
              ∙ sym (candidate_from-unlinked net p now b d back))
        ]

    holders_otherwise : AreHolders net p (turn net p now (get_or waiting k e))
        (holders ++ get_or waiting k e ∷ [])
    holders_otherwise b is_b =
        let d = get_or waiting k e in
        elim (cases_eq b.0 d.0) [
          | inl q ↦
              let is : d ≡ b = λ j. record { 0 = sym q j } in
              inr (subst (Contains (holders ++ d ∷ [])) is (Contains-push holders d))
          | inr other ↦ elim (so.holds b is_b) [
            | inl none ↦ inl (turn_elsewhere net p now d b other ∙ none)
            | inr c ↦ inr (Contains-append_left holders (d ∷ []) b c)
          ]
        ]

    pub decided_otherwise :
        HaveDecided net label i p first (set now (get_or waiting k e).0 choice) waiting (k + 1) more
        held
    decided_otherwise =
        let d = get_or waiting k e in
        let same : turn net p now d ≡ set now d.0 choice = ap (set now d.0) (sym decides) in
        record {
          after = after_more;
          inside = inside_more net label i _ next more wakes so.inside;
          rests = subst (λ t. (b : DeviceId) → IsDevice net b → label b ≡ Some i
              → Waits waiting (k + 1) b ⊎ (Contains more b ⊎ (decided net p t b ≡ held_of t b p)))
              same rests_otherwise;
          holds = subst (λ (h : List DeviceId). AreHolders net p (set now d.0 choice) h)
              (sym more_held)
              (subst (λ t. AreHolders net p t (holders ++ d ∷ [])) same holders_otherwise);
          held_inside = subst (All (IsInside net label i)) (sym more_held)
              (All-push (IsInside net label i) holders d so.held_inside in_island);
        }

-- ---- round after round

-- After k rounds: the table is near, and of the island each device holds what it decides, but for
-- those that wait.
pub record IsConverging (net : Network) (label : DeviceId → Option DeviceId) (i : DeviceId)
    (p : Cidr)
    (table : List (Option Choice)) (waiting holders : List DeviceId) (k : ℕ) : Type 0 where
  pub near : IsNear net (is_inside label i) p table k
  pub inside : All (IsInside net label i) waiting
  pub rests : RestsBut net label i p table waiting
  pub holds : AreHolders net p table holders
  pub held_inside : All (IsInside net label i) holders

module _ (net : Network) (label : DeviceId → Option DeviceId) (i : DeviceId) (p : Cidr) where
  pub converging_first : (table : List (Option Choice)) (waiting : List DeviceId)
      → length table ≡ length net.devices → All (λ o. o ≡ None) table
      → All (IsInside net label i) waiting
      → ((d : DeviceId) → IsInside net label i d → IsSome (own_origin net d p) → Contains waiting d)
      → IsConverging net label i p table waiting [] 0
  converging_first table waiting size empty inside has = record {
    near = near_first net (is_inside label i) p table size empty;
    inside = inside;
    rests = λ d is l. elim (cases_Bool (is_some (own_origin net d p))) [
      | inl t ↦ inl (has d (is, l) t)
      | inr f ↦
          inr (decided_first net p table d (None-from_is_some (own_origin net d p) f) size empty
          ∙ sym (empty_at table empty d p (omega arith)))
    ];
    holds = λ d is. inl (empty_at table empty d p (omega arith));
    held_inside = λ k e lt. absurd (omega arith);
  }

  pub converging_next : (table now : List (Option Choice))
      (waiting next holders more : List DeviceId)
      (k : ℕ) → HasDistinctIds net → now ≡ round_of net p table waiting
      → All (IsInside net label i) next → RestsBut net label i p now next
      → AreHolders net p now more → All (IsInside net label i) more
      → IsConverging net label i p table waiting holders k
      → IsConverging net label i p now next more (k + 1)
  converging_next table now waiting next holders more k ids after inside rests are held_in s =
      record {
        near =
            near_next net (is_inside label i) p waiting
            (All-weaker (IsInside net label i) (IsDevice net) (λ d h. h.0) waiting s.inside)
            (All-weaker (IsInside net label i) (λ d. is_inside label i d ≡ true)
            (λ d h. label_inside label i d h.1) waiting s.inside)
            table now k ids
            (λ d is_d t f. elim (s.rests d is_d (inside_label label i d t)) [
              | inl c ↦ absurd (false≢true (sym f ∙ held waiting d c))
              | inr h ↦ h
            ])
            after s.near;
        inside = inside;
        rests = rests;
        holds = are;
        held_inside = held_in;
      }

  converged : (table : List (Option Choice)) (waiting holders : List DeviceId) (k : ℕ)
      → IsConverging net label i p table waiting holders k
      → IsFixpoint net (is_inside label i) p table → IsConverged net label i p table holders
  converged table waiting holders k s fixpoint =
      record { fixpoint = fixpoint; holders = s.holds; inside = s.held_inside }

  -- nobody waits any more
  pub converging_still : (table : List (Option Choice)) (waiting holders : List DeviceId) (k : ℕ)
      → length waiting ≡ 0 → IsConverging net label i p table waiting holders k
      → IsConverged net label i p table holders
  converging_still table waiting holders k none s =
      converged table waiting holders k s
      (fixpoint_still net (is_inside label i) p table k s.near (λ d is t.
      elim (s.rests d is (inside_label label i d t)) [
        | inl c ↦ absurd (let lt = c.1 in omega arith)
        | inr h ↦ h
      ]))

  pub converging_last : (table : List (Option Choice)) (waiting holders : List DeviceId) (k : ℕ)
      → HasDistinctIds net → 255 < k → IsConverging net label i p table waiting holders k
      → IsConverged net label i p table holders
  converging_last table waiting holders k ids many s =
      converged table waiting holders k s
      (fixpoint_last net (is_inside label i) p table k ids many s.near)
