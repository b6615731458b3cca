-- The first refusal of all, from the first of each kind.
use Rattle.std.proofs.Common.{◌≡◌, ℕ, ◌+◌, ◌<◌, ◌⊎◌, Bool, nat_lt, Option, Some, None, refl, sym, subst, ◌∙◌, inl, inr, arith}
use Rattle.std.proofs.lemmas.Bool.{cases_Bool, cond-true, cond-false, ltb-true, ltb-false}
use Rattle.std.proofs.lemmas.Option.{none-some}
use Rattle.std.specs.Prelude.{MatchOption}
use Rattle.cn_base.specs.Cidr.{Cidr}
use Rattle.cn_base.specs.declared.ids.DeviceId.{DeviceId}
use Rattle.cn_net.specs.Certificate.{HasCertificate, HasOwnPrefixes, HaveOneSystem, IsCertified}
use Rattle.cn_net.specs.Network.{Network}
use Rattle.cn_cert.specs.Refusal.{Faces, IsFacingRefusal, IsOriginsRefusal, IsRefusal, Refuses, ComesBefore, island_of, kind_place, side_place}
use Rattle.cn_cert.specs.Steps.{HaveOwnPrefixes, IsCleanSide, IsFirstNamed, IsFirstOfKind, earlier_of}
use Rattle.cn_cert.specs.declared.refusal.Refusal.{Refusal}
use Rattle.cn_cert.specs.declared.refusal.Refusal.TheVariants.{Facing, Origins}
use Rattle.cn_cert.specs.declared.refusal.Side.{Side}
use Rattle.cn_cert.specs.declared.refusal.Side.TheVariants.{Emulated, Outside}
use Rattle.cn_cert.proofs.Systems.{same_side, no_side}

module _ (net : Network) (outside : DeviceId → Bool) (label : DeviceId → Option DeviceId) where
  one_system_is_not_refused : (side : Side) (island a b : DeviceId)
      → HaveOneSystem net (Faces net outside label side island)
      → IsFacingRefusal net outside label side island a b → ⊥
  one_system_is_not_refused side island a b one r =
      r.other.one.1 (one b a r.other.one.0 r.least.one)

  own_prefixes_are_not_refused : (island : DeviceId) (p : Cidr) (inside elsewhere : DeviceId)
      → HasOwnPrefixes net label island → IsOriginsRefusal net label island p inside elsewhere → ⊥
  own_prefixes_are_not_refused island p inside elsewhere own r =
      let i = r.inside_least.one in
      let e = r.elsewhere_least.one in
      e.label_is_not (own inside elsewhere p i.label_is i.originates e.originates)

  -- an island with its certificate isn't refused
  certificate_is_not_refused : (island : DeviceId) (r : Refusal)
      → HasCertificate net outside label island
      → Refuses net outside label island r → ⊥
  certificate_is_not_refused island (Facing Emulated named a a_asn b b_asn) c r =
      one_system_is_not_refused Emulated island a b c.emulated_side r.0
  certificate_is_not_refused island (Facing Outside named a a_asn b b_asn) c r =
      one_system_is_not_refused Outside island a b c.outside_side r.0
  certificate_is_not_refused island (Origins named p inside elsewhere) c r =
      own_prefixes_are_not_refused island p inside elsewhere c.origins r

  pub certified_is_refused_nowhere : (r : Refusal) → IsRefusal net outside label r
      → IsCertified net outside label → ⊥
  certified_is_refused_nowhere r h c =
      certificate_is_not_refused h.island r (c.island h.island) h.refuses

-- ---- islands by their least devices

module _ (net : Network) (outside : DeviceId → Bool) (name : DeviceId → Option DeviceId) where
  -- the refusal is one of the island that it names
  abbrev IsHere : Refusal → Type 0
  IsHere s = Refuses net outside name (island_of s) s

  -- where a kind is clean, it has no refusal

  no_facing : (side : Side) → IsCleanSide net outside name side → (s : Refusal) → IsHere s
      → kind_place s ≡ side_place side → ⊥
  no_facing side clean (Facing t island a a_asn b b_asn) r k =
      one_system_is_not_refused net outside name side island a b (clean island)
      (subst (λ z. IsFacingRefusal net outside name z island a b) (same_side t side k) r.0)
  no_facing side clean (Origins island p inside elsewhere) r k = no_side side k

  no_origins : HaveOwnPrefixes net name → (s : Refusal) → IsHere s → kind_place s ≡ 2 → ⊥
  no_origins own (Facing t island a a_asn b b_asn) r k = no_side t (sym k)
  no_origins own (Origins island p inside elsewhere) r k =
      own_prefixes_are_not_refused net outside name island p inside elsewhere (own island) r

  -- ---- the first of some kinds

  -- r is the first of the refusals of the kinds below n
  record IsFirstBelow (n : ℕ) (r : Refusal) : Type 0 where
    refuses : IsHere r
    kind : kind_place r < n
    first : (s : Refusal) → IsHere s → kind_place s < n → ComesBefore s r → ⊥

  abbrev FirstBelow : ℕ → Option Refusal → Type 0
  FirstBelow n None = (s : Refusal) → IsHere s → kind_place s < n → ⊥
  FirstBelow n (Some r) = IsFirstBelow n r

  below_or : (i n : ℕ) → i < n + 1 → (i < n) ⊎ (i ≡ n)
  below_or i n h = grind arith

  alone : (n : ℕ) (Clean : Type 0) → (Clean → (s : Refusal) → IsHere s → kind_place s ≡ n → ⊥)
      → (y : Option Refusal) → MatchOption y Clean (IsFirstOfKind net outside name n)
      → FirstBelow n None → FirstBelow (n + 1) y
  alone n Clean nowhere None c h =
      λ s q k. elim (below_or (kind_place s) n k) [ inl lt ↦ h s q lt | inr e ↦ nowhere c s q e ]
  alone n Clean nowhere (Some r) f h = record {
    refuses = f.refuses;
    kind = (let e = f.kind_is in omega arith);
    first = λ s q k b. elim (below_or (kind_place s) n k) [
      | inl lt ↦ h s q lt
      | inr e ↦
          let le = f.first s q e in
          let g = f.kind_is in
          elim b [ inl u ↦ omega arith | inr u ↦ let v = u.1 in omega arith ]
    ];
  }

  both : (n : ℕ) (Clean : Type 0) → (Clean → (s : Refusal) → IsHere s → kind_place s ≡ n → ⊥)
      → (r : Refusal) → IsFirstBelow n r → (y : Option Refusal)
      → MatchOption y Clean (IsFirstOfKind net outside name n)
      → FirstBelow (n + 1) (earlier_of (Some r) y)
  both n Clean nowhere r h None c = record {
    refuses = h.refuses;
    kind = (let e = h.kind in omega arith);
    first =
        λ s q k b.
        elim (below_or (kind_place s) n k) [ inl lt ↦ h.first s q lt b | inr e ↦ nowhere c s q e ];
  }
  both n Clean nowhere r h (Some t) f =
      elim (cases_Bool (nat_lt (island_of t).0 (island_of r).0)) [
        | inl l ↦
            subst (FirstBelow (n + 1))
            (sym (cond-true (nat_lt (island_of t).0 (island_of r).0) (Some t) (Some r) l)) (record {
              refuses = f.refuses;
              kind = (let e = f.kind_is in omega arith);
              first = λ s q k b.
                  let less = ltb-true (island_of t).0 (island_of r).0 l in
                  elim (below_or (kind_place s) n k) [
                    | inl lt ↦
                        h.first s q lt (elim b [
                          | inl u ↦ inl (omega arith)
                          | inr u ↦ let v = u.0 in inl (omega arith)
                        ])
                    | inr e ↦
                        let le = f.first s q e in
                        let g = f.kind_is in
                        elim b [ inl u ↦ omega arith | inr u ↦ let v = u.1 in omega arith ]
                  ];
            })
        | inr m ↦
            subst (FirstBelow (n + 1))
            (sym (cond-false (nat_lt (island_of t).0 (island_of r).0) (Some t) (Some r) m))
            (record {
              refuses = h.refuses;
              kind = (let e = h.kind in omega arith);
              first = λ s q k b.
                  let low = ltb-false (island_of t).0 (island_of r).0 m in
                  elim (below_or (kind_place s) n k) [
                    | inl lt ↦ h.first s q lt b
                    | inr e ↦
                        let le = f.first s q e in
                        let g = h.kind in
                        elim b [ inl u ↦ omega arith | inr u ↦ let v = u.1 in omega arith ]
                  ];
            })
      ]

  one_more : (n : ℕ) (Clean : Type 0) → (Clean → (s : Refusal) → IsHere s → kind_place s ≡ n → ⊥)
      → (x y : Option Refusal) → FirstBelow n x
      → MatchOption y Clean (IsFirstOfKind net outside name n) → FirstBelow (n + 1) (earlier_of x y)
  one_more n Clean nowhere None y h c = alone n Clean nowhere y c h
  one_more n Clean nowhere (Some r) y h c = both n Clean nowhere r h y c

  kind_small : (s : Refusal) → kind_place s < 3
  kind_small (Facing Emulated island a a_asn b b_asn) = omega arith
  kind_small (Facing Outside island a a_asn b b_asn) = omega arith
  kind_small (Origins island p inside elsewhere) = omega arith

  earlier_none : (x y : Option Refusal) → earlier_of x y ≡ None → (x ≡ None) × (y ≡ None)
  earlier_none None y e = (refl, e)
  earlier_none (Some x) None e = absurd (none-some x (sym e))
  earlier_none (Some x) (Some y) e =
      elim (cases_Bool (nat_lt (island_of y).0 (island_of x).0)) [
        | inl t ↦
            absurd (none-some y
            (sym e ∙ cond-true (nat_lt (island_of y).0 (island_of x).0) (Some y) (Some x) t))
        | inr f ↦
            absurd (none-some x
            (sym e ∙ cond-false (nat_lt (island_of y).0 (island_of x).0) (Some y) (Some x) f))
      ]

  pub first_of_all : (x y z : Option Refusal)
      → MatchOption x (IsCleanSide net outside name Emulated) (IsFirstOfKind net outside name 0)
      → MatchOption y (IsCleanSide net outside name Outside) (IsFirstOfKind net outside name 1)
      → MatchOption z (HaveOwnPrefixes net name) (IsFirstOfKind net outside name 2)
      → (r : Option Refusal) → r ≡ earlier_of (earlier_of x y) z
      → MatchOption r (IsCertified net outside name) (IsFirstNamed net outside name)
  first_of_all x y z hx hy hz r e =
      subst (λ w. MatchOption w (IsCertified net outside name) (IsFirstNamed net outside name))
      (sym e) (go (earlier_of (earlier_of x y) z) refl)
    where
      start : FirstBelow 0 None
      start = λ s q k. omega arith

      one : FirstBelow 1 x
      one = alone 0 (IsCleanSide net outside name Emulated) (no_facing Emulated) x hx start

      two : FirstBelow 2 (earlier_of x y)
      two = one_more 1 (IsCleanSide net outside name Outside) (no_facing Outside) x y one hy

      three : FirstBelow 3 (earlier_of (earlier_of x y) z)
      three = one_more 2 (HaveOwnPrefixes net name) no_origins (earlier_of x y) z two hz

      go : (w : Option Refusal) → earlier_of (earlier_of x y) z ≡ w
          → MatchOption w (IsCertified net outside name) (IsFirstNamed net outside name)
      go None n =
          let p = earlier_none (earlier_of x y) z n in
          let q = earlier_none x y p.0 in
          let emulated =
          subst (λ w.
          MatchOption w (IsCleanSide net outside name Emulated) (IsFirstOfKind net outside name 0))
          q.0 hx in
          let facing =
          subst (λ w.
          MatchOption w (IsCleanSide net outside name Outside) (IsFirstOfKind net outside name 1))
          q.1 hy in
          let origins =
          subst (λ w. MatchOption w (HaveOwnPrefixes net name) (IsFirstOfKind net outside name 2))
          p.1 hz in
          record {
            island = λ i.
                record { emulated_side = emulated i; outside_side = facing i; origins = origins i };
          }
      go (Some t) s =
          let h = subst (FirstBelow 3) s three in
          record { refuses = h.refuses; first = λ u q b. h.first u q (kind_small u) b }
