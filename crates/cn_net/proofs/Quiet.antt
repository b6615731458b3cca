-- Emulated devices that hold their best, where the outside devices say what they say, hold the
-- stable state of the whole network.
use Rattle.std.proofs.Common.{◌≡◌, ℕ, suc, zero, ◌<◌, ◌⊎◌, ◌&&◌, Bool, true, false, not, cond, Option, Some, None, is_some, length, inl, inr, sym, subst, ◌∙◌, arith}
use Rattle.std.proofs.lemmas.Bool.{cases_Bool, cases_lt, cond-true, cond-false, and_parts, and_from, true≢false, not-true, not-false}
use Rattle.cn_base.specs.Cidr.{Cidr}
use Rattle.cn_base.specs.declared.ids.DeviceId.{DeviceId}
use Rattle.cn_base.specs.declared.route.Choice.{Choice}
use Rattle.cn_net.specs.Boundary.{AgreeInside, IsBounded, IsStableInside, OutsideAsRecorded}
use Rattle.cn_net.specs.Candidates.{IsCandidate, IsBest}
use Rattle.cn_net.specs.Network.{Network, IsDevice, own_origin}
use Rattle.cn_net.specs.Records.{AreSound, IsOfIsland, SaysItsOwn}
use Rattle.cn_net.specs.Stable.{Assignment, offers_to}
use Rattle.cn_net.proofs.Apart.{distinct_ids}
use Rattle.cn_net.proofs.Boundary.{held_as_recorded, in_island, in_island-same, in_island-true, refused_by_emulated}
use Rattle.cn_net.proofs.Offering.{offer_of-back}
use Rattle.cn_net.proofs.OneState.{learnt_with, one_state_for, source_of}

-- ---- whether an island originates a prefix

some_below : (test : ℕ → Bool) (n : ℕ)
    → ((k : ℕ) × (k < n) × (test k ≡ true)) ⊎ ((k : ℕ) → k < n → test k ≡ false)
some_below test zero = inr (λ k l. absurd (omega arith))
some_below test (suc n) =
    elim (cases_Bool (test n)) [
      | inl t ↦ inl (n, omega arith, t)
      | inr f ↦ elim (some_below test n) [
        | inl x ↦ inl (x.0, omega (arith, x.1), x.2)
        | inr none ↦ inr (λ k l. elim (cases_lt k n) [
          | inl lt ↦ none k lt
          | inr ge ↦ let e : n ≡ k = omega arith in subst (λ z. test z ≡ false) e f
        ])
      ]
    ]

pub of_island_or_not : (net : Network) (label : DeviceId → Option DeviceId) (i : DeviceId)
    (p : Cidr)
    → IsOfIsland net label i p ⊎ (IsOfIsland net label i p → ⊥)
of_island_or_not net label i p =
    let test : ℕ → Bool =
    λ k. in_island label i (record { 0 = k }) && is_some (own_origin net (record { 0 = k }) p) in
    elim (some_below test (length net.devices)) [
      | inl x ↦
          let q = and_parts _ _ x.2 in
          inl (record {
            device = record { 0 = x.0 };
            in_island = in_island-true label i (record { 0 = x.0 }) q.0;
            originates = (x.1, q.1);
          })
      | inr none ↦
          inr (λ o. true≢false
          (sym (and_from _ _ (in_island-same label i o.device o.in_island) o.originates.1)
          ∙ none o.device.0 o.originates.0))
    ]

module _ (net : Network) (outside : DeviceId → Bool) (label : DeviceId → Option DeviceId)
    (said held state : Assignment) (bounded : IsBounded net outside label state)
    (sound : AreSound net outside label said) (own : SaysItsOwn net label said)
    (quiet : IsStableInside net outside said held) where
  -- held by emulated devices, the state outside
  whole : Assignment
  whole d p = cond (outside d) (state d p) (held d p)

  whole_out : (d : DeviceId) (p : Cidr) → outside d ≡ true → whole d p ≡ state d p
  unfolding whole
  whole_out d p t = cond-true (outside d) _ _ t

  whole_in : (d : DeviceId) (p : Cidr) → outside d ≡ false → whole d p ≡ held d p
  unfolding whole
  whole_in d p f = cond-false (outside d) _ _ f

  state_said : OutsideAsRecorded net label said state
  state_said =
      held_as_recorded net outside label said state (distinct_ids net bounded.valid)
      bounded.labelling bounded.certified bounded.stable sound

  into_whole : (b : DeviceId) (p : Cidr) (c : Choice)
      → IsCandidate net (offers_to net held b p) b p c
      → IsCandidate net (offers_to net whole b p) b p c
  into_whole b p c (inl u) = inl u
  into_whole b p c (inr u) =
      let o = source_of net held b p c u in
      inr (learnt_with net held whole b p c u (elim (cases_Bool (outside u.sender)) [
        | inl t ↦
            let i = bounded.labelling.labelled u.sender u.is_device t in
            let heard : said u.sender p ≡ Some o.source =
            sym (quiet.heard u.sender p u.is_device t) ∙ o.holds in
            whole_out u.sender p t
            ∙ state_said u.sender i.0 p u.is_device i.1
            (own u.sender i.0 p o.source u.is_device i.1 heard) ∙ heard
        | inr f ↦ whole_in u.sender p f ∙ o.holds
      ]))

  from_whole : (b : DeviceId) (p : Cidr) (c : Choice) → IsDevice net b → outside b ≡ false
      → IsCandidate net (offers_to net whole b p) b p c
      → IsCandidate net (offers_to net held b p) b p c
  from_whole b p c is emulated (inl u) = inl u
  from_whole b p c is emulated (inr u) =
      let o = source_of net whole b p c u in
      inr (learnt_with net whole held b p c u (elim (cases_Bool (outside u.sender)) [
        | inl t ↦
            let i = bounded.labelling.labelled u.sender u.is_device t in
            let holds : state u.sender p ≡ Some o.source = sym (whole_out u.sender p t) ∙ o.holds in
            elim (of_island_or_not net label i.0 p) [
              | inl of_i ↦
                  quiet.heard u.sender p u.is_device t
                  ∙ sym (state_said u.sender i.0 p u.is_device i.1 of_i) ∙ holds
              | inr other ↦
                  let offered =
                  offer_of-back net u.sender b p (state u.sender p) o.source u.route holds
                  o.offered in
                  absurd (true≢false
                  (sym u.accepted
                  ∙ refused_by_emulated net outside label bounded.labelling bounded.certified state
                  bounded.stable u.sender b i.0 p u.route u.is_device is emulated i.1 other
                  offered))
            ]
        | inr f ↦ sym (whole_in u.sender p f) ∙ o.holds
      ]))

  best_whole : (b : DeviceId) (p : Cidr) → IsDevice net b → outside b ≡ false → (o : Option Choice)
      → IsBest net (offers_to net held b p) b p o → IsBest net (offers_to net whole b p) b p o
  best_whole b p is f None h = λ c u. h c (from_whole b p c is f u)
  best_whole b p is f (Some x) h = (into_whole b p x h.0, λ c u. h.1 c (from_whole b p c is f u))

  pub quiet_agrees : AgreeInside net outside held state
  quiet_agrees d p is f =
      let s : DeviceId → Bool = λ x. not (outside x) in
      let mine = λ (b : DeviceId) (is_b : IsDevice net b) (t : s b ≡ true).
      let e = not-true _ t in
      subst (IsBest net (offers_to net whole b p) b p) (sym (whole_in b p e))
      (best_whole b p is_b e (held b p) (quiet.best b p is_b e)) in
      sym (whole_in d p f)
      ∙ one_state_for net s p whole state (distinct_ids net bounded.valid)
      (λ b is_b t. whole_out b p (not-false _ t)) mine (λ b is_b t. bounded.stable b p is_b) d is
