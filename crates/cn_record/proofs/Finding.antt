-- What differs of one prefix, and the first of what differs of all of them.
use Rattle.std.proofs.Common.{◌≡◌, ℕ, ◌+◌, ◌<◌, ◌≤◌, ◌++◌, ◌⊎◌, true, false, List, [], ◌∷◌, length, get_or, take, nat_lt, Option, Some, None, Less, sym, ap, subst, ◌∙◌, inl, inr, arith}
use Rattle.std.specs.Prelude.{All, Contains, MatchOption}
use Rattle.std.specs.Ordering.{on}
use Rattle.std.proofs.lemmas.Bool.{cases_Bool, cases_lt, cond-false, cond-true, ltb-false, ltb-true}
use Rattle.std.proofs.lemmas.Bool.Decides.{nat_tests}
use Rattle.std.proofs.lemmas.List.{get_or-take, get_or_default, length-take-le, take_more}
use Rattle.std.proofs.lemmas.List.Elements.{All-contains, All-push, All-take, Contains-append_left, Contains-push, Contains-push_cases}
use Rattle.std.proofs.lemmas.Map.Keys.{Less-from_sorted}
use Rattle.std.proofs.lemmas.Option.{same_Some}
use Rattle.cn_base.specs.Cidr.{Cidr}
use Rattle.cn_base.specs.Table.{prefix_cmp}
use Rattle.cn_base.specs.declared.ids.DeviceId.{DeviceId}
use Rattle.cn_base.specs.declared.route.Choice.{Choice}
use Rattle.cn_net.specs.Islands.{label_of, outside_of}
use Rattle.cn_net.specs.Network.{IsDevice}
use Rattle.cn_net.specs.OneState.{HasOneStableState}
use Rattle.cn_net.specs.Opening.{IsOpening, Opening}
use Rattle.cn_net.specs.Records.{IsOfIsland}
use Rattle.cn_net.specs.Restriction.{restricted}
use Rattle.cn_net.specs.Stable.{Assignment}
use Rattle.cn_net.proofs.Apart.{distinct_ids}
use Rattle.cn_net.proofs.Restricted.{distinct_restricted}
use Rattle.cn_net.proofs.States.{has_one_state}
use Rattle.cn_record.specs.Steps.{AgreesAt, AgreesFor, CoversApart, IsFirstAmong, IsFirstFor, TellsLeast, earlier_of, is_behind}
use Rattle.cn_record.specs.Grouped.{AreIslandPrefixes, AreOfIsland, of_island}
use Rattle.cn_record.specs.Recorded.{SaysSound}
use Rattle.cn_record.specs.Rows.{StandsBefore, row_for}
use Rattle.cn_record.specs.Said.{said_by}
use Rattle.cn_record.specs.Places.{IsInside, is_inside}
use Rattle.cn_record.specs.Rounds.{IsFixpoint}
use Rattle.cn_record.specs.Tables.{held_of}
use Rattle.cn_record.specs.Unsound.{IsFirstUnsound, IsOutsideState, IsUnsound}
use Rattle.cn_record.specs.declared.islands.IslandPrefix.{IslandPrefix}
use Rattle.cn_record.specs.declared.islands.Member.{Member}
use Rattle.cn_record.specs.declared.saved.Row.{Row}
use Rattle.cn_record.specs.declared.soundness.Difference.{Difference}
use Rattle.cn_record.proofs.Alone.{settled_alone}
use Rattle.cn_record.proofs.Inside.{inside_label, label_inside}
use Rattle.cn_record.proofs.Members.{is_behind_all}
use Rattle.cn_record.proofs.Saying.{says_row}

-- ---- the state of the outside devices

module _ (o : Opening) (opening : IsOpening o) (rows : List Row) where
  -- there is one
  alone : HasOneStableState (restricted o.net (outside_of o.emulated))
  alone = has_one_state (restricted o.net (outside_of o.emulated))
      (distinct_restricted o.net (outside_of o.emulated) (distinct_ids o.net opening.valid))

  one_island : (i j : DeviceId) (p : Cidr) → IsOfIsland o.net (label_of o.labels) i p
      → IsOfIsland o.net (label_of o.labels) j p → j ≡ i
  one_island i j p x y =
      same_Some j i
      (sym y.in_island
      ∙ (opening.certified.island i).origins x.device y.device p x.in_island x.originates
      y.originates)

  -- where the devices of an island say of a prefix what they hold, none of it is unsound
  agreed : (x : IslandPrefix) → IsOfIsland o.net (label_of o.labels) x.island x.prefix
      → AgreesFor o rows x → (d : DeviceId) → IsUnsound o rows d x.prefix → ⊥
  agreed x own agrees d u =
      u.differs alone.state alone.stable
      (agrees alone.state alone.stable d u.is_device
      (u.in_island ∙ ap Some (one_island x.island u.island x.prefix own u.of_island)))

  -- ---- what differs of one prefix

  module _ (x : IslandPrefix) (own : IsOfIsland o.net (label_of o.labels) x.island x.prefix)
      (table : List (Option Choice))
      (fixpoint : IsFixpoint o.net (is_inside (label_of o.labels) x.island) x.prefix table)
      (devices : List DeviceId)
      (covers : CoversApart o.net (label_of o.labels) x.island rows x.prefix table devices) where
    -- a device of the island holds in the table what it holds in the state of the outside devices
    held_alone : (state : Assignment) → IsOutsideState o state → (d : DeviceId) → IsDevice o.net d
        → label_of o.labels d ≡ Some x.island → held_of table d x.prefix ≡ state d x.prefix
    held_alone state stable d is l =
        settled_alone o.net (outside_of o.emulated) (label_of o.labels) opening.labelling x.island
        (is_inside (label_of o.labels) x.island)
        (λ b _ t. inside_label (label_of o.labels) x.island b t)
        (λ b _ e. label_inside (label_of o.labels) x.island b e) x.prefix (held_of table)
        fixpoint.others state (distinct_ids o.net opening.valid) fixpoint.stable stable d is
        (label_inside (label_of o.labels) x.island d l)

    says : (d : DeviceId) → IsDevice o.net d → label_of o.labels d ≡ Some x.island
        → said_by o rows d x.prefix ≡ row_for rows d x.prefix
    says d is l = says_row o.net (label_of o.labels) d x.prefix rows x.island is l own

    none_apart : All (AgreesAt rows x.prefix table) devices → AgreesFor o rows x
    none_apart all state stable d is l =
        let agrees : AgreesAt rows x.prefix table d = elim (covers.others d (is, l)) [
          | inl c ↦ All-contains (AgreesAt rows x.prefix table) devices d all c
          | inr h ↦ h
        ] in
        says d is l ∙ agrees ∙ held_alone state stable d is l

    one_apart : (y : Difference) → TellsLeast rows x.prefix table devices y → IsFirstFor o rows x y
    one_apart y t =
        let inside =
        All-contains (IsInside o.net (label_of o.labels) x.island) devices y.device covers.inside
        t.least.contained in
        let is = inside.0 in
        let l = inside.1 in
        record {
          prefix = t.prefix;
          tells = record {
            unsound = subst (IsUnsound o rows y.device) (sym t.prefix) (record {
              is_device = is;
              island = x.island;
              in_island = l;
              of_island = own;
              differs = λ state stable same.
                  t.least.apart
                  (sym (says y.device is l) ∙ same ∙ sym (held_alone state stable y.device is l));
            });
            held = t.held ∙ ap (row_for rows y.device) (sym t.prefix);
            wanted = λ state stable.
                t.wanted ∙ held_alone state stable y.device is l
                ∙ ap (state y.device) (sym t.prefix);
          };
          least = λ d u less.
              let l_d = u.in_island
              ∙ ap Some (one_island x.island u.island x.prefix own u.of_island) in
              let agrees : AgreesAt rows x.prefix table d =
              elim (covers.others d (u.is_device, l_d)) [
                | inl c ↦
                    All-contains (λ z. z.0 < y.device.0 → AgreesAt rows x.prefix table z) devices d
                    t.least.before c less
                | inr h ↦ h
              ] in
              u.differs alone.state alone.stable
              (says d u.is_device l_d ∙ agrees
              ∙ held_alone alone.state alone.stable d u.is_device l_d);
        }

    pub found_apart : (found : Option Difference)
        → MatchOption found (All (AgreesAt rows x.prefix table) devices)
        (TellsLeast rows x.prefix table devices)
        → MatchOption found (AgreesFor o rows x) (IsFirstFor o rows x)
    found_apart None h = none_apart h
    found_apart (Some y) h = one_apart y h

  -- ---- the first of all

  before_cases : (d y : DeviceId) (p q : Cidr) → StandsBefore d p y q
      → (d.0 < y.0) ⊎ ((d.0 ≡ y.0) × (prefix_cmp p q ≡ Less))
  before_cases d y p q h =
      elim
      (cases_lt d.0 y.0) [
        | inl less ↦ inl less
        | inr more ↦
            inr (same d y p q h more, lower d y p q h more)
      ]
    where
      same : (d y : DeviceId) (p q : Cidr) → StandsBefore d p y q → y.0 ≤ d.0 → d.0 ≡ y.0
      same d y p q h more = grind (arith, nat_tests)

      lower : (d y : DeviceId) (p q : Cidr) → StandsBefore d p y q → y.0 ≤ d.0
          → prefix_cmp p q ≡ Less
      lower d y p q h more = grind (arith, nat_tests)

  -- nothing stands before a prefix with itself
  device_less : (d y : DeviceId) (p q : Cidr) → p ≡ q → StandsBefore d p y q → d.0 < y.0
  device_less d y p q e h = at d y q (subst (λ z. StandsBefore d z y q) e h)
    where
      at : (d y : DeviceId) (q : Cidr) → StandsBefore d q y q → d.0 < y.0
      at d y q h = grind (arith, nat_tests)

  less_before : (d y : DeviceId) (p q : Cidr) → d.0 < y.0 → StandsBefore d p y q
  less_before d y p q less = grind (arith, nat_tests)

  not_back : (p q : Cidr) → prefix_cmp p q ≡ Less → prefix_cmp q p ≡ Less → ⊥
  not_back p q h k = grind (arith, nat_tests)

  module _ (list : List IslandPrefix) (x : IslandPrefix)
      (each : All (λ z. IsOfIsland o.net (label_of o.labels) z.island z.prefix) list)
      (own : IsOfIsland o.net (label_of o.labels) x.island x.prefix)
      (below : (z : IslandPrefix) → Contains list z
      → prefix_cmp z.prefix x.prefix ≡ Less) where
    only_last : (y : Difference) → All (AgreesFor o rows) list → IsFirstFor o rows x y
        → IsFirstAmong o rows (list ++ x ∷ []) y
    only_last y all f = record {
      among = x;
      contained = Contains-push list x;
      prefix = f.prefix;
      tells = f.tells;
      first = λ z h d u before. elim (Contains-push_cases list x z h) [
        | inl old ↦
            agreed z
            (All-contains
            (λ w. IsOfIsland o.net (label_of o.labels) w.island w.prefix) list z each old)
            (All-contains (AgreesFor o rows) list z all old) d u
        | inr last ↦
            let at : z.prefix ≡ x.prefix = ap (λ (w : IslandPrefix). w.prefix) (sym last) in
            f.least d (subst (IsUnsound o rows d) at u)
            (device_less d y.device z.prefix y.prefix (at ∙ sym f.prefix) before)
      ];
    }

    not_last : (y : Difference) → IsFirstAmong o rows list y → AgreesFor o rows x
        → IsFirstAmong o rows (list ++ x ∷ []) y
    not_last y f agrees = record {
      among = f.among;
      contained = Contains-append_left list (x ∷ []) f.among f.contained;
      prefix = f.prefix;
      tells = f.tells;
      first = λ z h d u before. elim (Contains-push_cases list x z h) [
        | inl old ↦ f.first z old d u before
        | inr last ↦
            agreed x own agrees d
            (subst (λ (w : IslandPrefix). IsUnsound o rows d w.prefix) (sym last) u)
      ];
    }

    later_less : (y w : Difference) → IsFirstAmong o rows list y → IsFirstFor o rows x w
        → w.device.0 < y.device.0 → IsFirstAmong o rows (list ++ x ∷ []) w
    later_less y w f g less = record {
      among = x;
      contained = Contains-push list x;
      prefix = g.prefix;
      tells = g.tells;
      first = λ z h d u before. elim (Contains-push_cases list x z h) [
        | inl old ↦
            let low : d.0 < y.device.0 =
            elim
            (before_cases d w.device z.prefix w.prefix before) [
              | inl l ↦
                  omega arith
              | inr e ↦ let same = e.0 in omega arith
            ] in
            f.first z old d u (less_before d y.device z.prefix y.prefix low)
        | inr last ↦
            let at : z.prefix ≡ x.prefix = ap (λ (v : IslandPrefix). v.prefix) (sym last) in
            g.least d (subst (IsUnsound o rows d) at u)
            (device_less d w.device z.prefix w.prefix (at ∙ sym g.prefix) before)
      ];
    }

    earlier_kept : (y w : Difference) → IsFirstAmong o rows list y → IsFirstFor o rows x w
        → y.device.0 ≤ w.device.0 → IsFirstAmong o rows (list ++ x ∷ []) y
    earlier_kept y w f g le = record {
      among = f.among;
      contained = Contains-append_left list (x ∷ []) f.among f.contained;
      prefix = f.prefix;
      tells = f.tells;
      first = λ z h d u before. elim (Contains-push_cases list x z h) [
        | inl old ↦ f.first z old d u before
        | inr last ↦
            let at : z.prefix ≡ x.prefix = ap (λ (v : IslandPrefix). v.prefix) (sym last) in
            elim (before_cases d y.device z.prefix y.prefix before) [
              | inl less ↦ g.least d (subst (IsUnsound o rows d) at u) (omega arith)
              | inr tie ↦
                  absurd
                  (not_back f.among.prefix x.prefix (below f.among f.contained)
                  ((λ i. prefix_cmp (sym at i) (sym f.prefix i)) ∙ tie.1))
            ]
      ];
    }

    -- no device of the island comes before what differs already
    passed : (y : Difference) (part : List Member)
        → AreOfIsland o.net (label_of o.labels) x.island part → is_behind (Some y) part ≡ true
        → IsFirstAmong o rows list y → IsFirstAmong o rows (list ++ x ∷ []) y
    passed y part are behind f = record {
      among = f.among;
      contained = Contains-append_left list (x ∷ []) f.among f.contained;
      prefix = f.prefix;
      tells = f.tells;
      first = λ z h d u before. elim (Contains-push_cases list x z h) [
        | inl old ↦ f.first z old d u before
        | inr last ↦
            let at : z.prefix ≡ x.prefix = ap (λ (v : IslandPrefix). v.prefix) (sym last) in
            let u' = subst (IsUnsound o rows d) at u in
            let low =
            is_behind_all o.net (label_of o.labels) x.island part are y behind d u'.is_device
            (u'.in_island
            ∙ ap Some (one_island x.island u'.island x.prefix own u'.of_island)) in
            elim (before_cases d y.device z.prefix y.prefix before) [
              | inl less ↦ absurd (omega arith)
              | inr tie ↦
                  absurd
                  (not_back f.among.prefix x.prefix (below f.among f.contained)
                  ((λ i. prefix_cmp (sym at i) (sym f.prefix i)) ∙ tie.1))
            ]
      ];
    }

    found_passed : (first : Option Difference) (part : List Member)
        → AreOfIsland o.net (label_of o.labels) x.island part → is_behind first part ≡ true
        → MatchOption first (All (AgreesFor o rows) list) (IsFirstAmong o rows list)
        → MatchOption first (All (AgreesFor o rows) (list ++ x ∷ []))
        (IsFirstAmong o rows (list ++ x ∷ []))
    found_passed None part are behind a = absurd (let never : false ≡ true = behind in cc)
    found_passed (Some y) part are behind a = passed y part are behind a

    found_more : (first next : Option Difference)
        → MatchOption first (All (AgreesFor o rows) list) (IsFirstAmong o rows list)
        → MatchOption next (AgreesFor o rows x) (IsFirstFor o rows x)
        → MatchOption (earlier_of first next) (All (AgreesFor o rows) (list ++ x ∷ []))
        (IsFirstAmong o rows (list ++ x ∷ []))
    found_more None None a b = All-push (AgreesFor o rows) list x a b
    found_more None (Some w) a b = only_last w a b
    found_more (Some y) None a b = not_last y a b
    found_more (Some y) (Some w) a b =
        elim (cases_Bool (nat_lt w.device.0 y.device.0)) [
          | inl t ↦
              subst
              (λ r. MatchOption r (All (AgreesFor o rows) (list ++ x ∷ []))
              (IsFirstAmong o rows (list ++ x ∷ [])))
              (sym (cond-true (nat_lt w.device.0 y.device.0) (Some w) (Some y) t))
              (later_less y w a b (ltb-true w.device.0 y.device.0 t))
          | inr f ↦
              subst
              (λ r. MatchOption r (All (AgreesFor o rows) (list ++ x ∷ []))
              (IsFirstAmong o rows (list ++ x ∷ [])))
              (sym (cond-false (nat_lt w.device.0 y.device.0) (Some w) (Some y) f))
              (earlier_kept y w a b (ltb-false w.device.0 y.device.0 f))
        ]

  -- the prefixes before a place stand below the one there
  prefixes_below : (prefixes : List IslandPrefix) (k : ℕ) (e : IslandPrefix)
      → AreIslandPrefixes o.net (label_of o.labels) prefixes → k < length prefixes
      → (z : IslandPrefix) → Contains (take k prefixes) z
      → prefix_cmp z.prefix (get_or prefixes k e).prefix ≡ Less
  prefixes_below prefixes k e are within z h =
      let x = get_or prefixes k e in
      let short = length-take-le k prefixes (omega arith) in
      let j : ℕ = h.0 in
      let low : j < k = omega (arith, h.1, short) in
      let at : get_or prefixes j e ≡ z = get_or_default prefixes j e z (omega arith)
      ∙ sym (get_or-take k prefixes j z low) ∙ h.2 in
      subst (λ (w : IslandPrefix). prefix_cmp w.prefix x.prefix ≡ Less) at
      (Less-from_sorted
      (on (λ (w : IslandPrefix).
      w.prefix) prefix_cmp) prefixes j k e are.ascending low within)

  -- one more prefix
  module _ (prefixes : List IslandPrefix) (k : ℕ) (e : IslandPrefix)
      (are : AreIslandPrefixes o.net (label_of o.labels) prefixes)
      (within : k < length prefixes) where
    pub first_more : (first next : Option Difference)
        → MatchOption first (All (AgreesFor o rows) (take k prefixes))
        (IsFirstAmong o rows (take k prefixes))
        → MatchOption next (AgreesFor o rows (get_or prefixes k e))
        (IsFirstFor o rows (get_or prefixes k e))
        → MatchOption (earlier_of first next) (All (AgreesFor o rows) (take (k + 1) prefixes))
        (IsFirstAmong o rows (take (k + 1) prefixes))
    first_more first next a b =
        subst
        (λ ps. MatchOption (earlier_of first next) (All (AgreesFor o rows) ps)
        (IsFirstAmong o rows ps)) (sym (take_more prefixes k e within))
        (found_more (take k prefixes) (get_or prefixes k e)
        (All-take
        (λ z. IsOfIsland o.net (label_of o.labels) z.island z.prefix) k prefixes are.each)
        (are.each k e within) (prefixes_below prefixes k e are within) first next a b)

    pub first_passed : (first : Option Difference) (part : List Member)
        → AreOfIsland o.net (label_of o.labels) (get_or prefixes k e).island part
        → is_behind first part ≡ true
        → MatchOption first (All (AgreesFor o rows) (take k prefixes))
        (IsFirstAmong o rows (take k prefixes))
        → MatchOption first (All (AgreesFor o rows) (take (k + 1) prefixes))
        (IsFirstAmong o rows (take (k + 1) prefixes))
    first_passed first part of behind a =
        subst (λ ps. MatchOption first (All (AgreesFor o rows) ps) (IsFirstAmong o rows ps))
        (sym (take_more prefixes k e within))
        (found_passed (take k prefixes) (get_or prefixes k e)
        (All-take
        (λ z. IsOfIsland o.net (label_of o.labels) z.island z.prefix) k prefixes are.each)
        (are.each k e within)
        (prefixes_below prefixes k e are within) first part of behind a)

  -- ---- all prefixes

  sound_from : (prefixes : List IslandPrefix) → AreIslandPrefixes o.net (label_of o.labels) prefixes
      → All (AgreesFor o rows) prefixes → SaysSound o rows
  sound_from prefixes are all state stable d i p is l own =
      All-contains (AgreesFor o rows) prefixes (of_island i p) all
      (are.all i p own) state stable d is l

  unsound_from : (prefixes : List IslandPrefix)
      → AreIslandPrefixes o.net (label_of o.labels) prefixes → (y : Difference)
      → IsFirstAmong o rows prefixes y → IsFirstUnsound o rows y.device y.prefix y.held y.wanted
  unsound_from prefixes are y f = record {
    unsound = f.tells.unsound;
    first = λ x q u before. f.first (of_island u.island q)
        (are.all u.island q u.of_island) x u before;
    held_is = f.tells.held;
    wanted_is = f.tells.wanted;
  }

  -- the answer of the loop over all prefixes
  pub all_found : (prefixes : List IslandPrefix)
      → AreIslandPrefixes o.net (label_of o.labels) prefixes → (found : Option Difference)
      → MatchOption found (All (AgreesFor o rows) prefixes) (IsFirstAmong o rows prefixes)
      → MatchOption found (SaysSound o rows)
      (λ y. IsFirstUnsound o rows y.device y.prefix y.held y.wanted)
  all_found prefixes are None h = sound_from prefixes are h
  all_found prefixes are (Some y) h = unsound_from prefixes are y h
