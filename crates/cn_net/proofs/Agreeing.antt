-- Labellings that are islands of the same devices, and what they say alike.
use Rattle.std.proofs.Common.{◌≡◌, Bool, Option, Some, None, inl, inr, refl, sym, ap, ◌∙◌, arith}
use Rattle.std.proofs.lemmas.Bool.{cases_Bool}
use Rattle.std.proofs.lemmas.Option.{none-some}
use Rattle.cn_base.specs.declared.ids.DeviceId.{DeviceId}
use Rattle.cn_net.specs.Certificate.{IsCertified, IsEmulatedFacing, IsOutsideFacing}
use Rattle.cn_net.specs.Islands.{HaveSameIslands, IsIslands}
use Rattle.cn_net.specs.Network.{Network, IsDevice}

pub islands_agree : (net : Network) (outside : DeviceId → Bool) (x y : DeviceId → Option DeviceId)
    → IsIslands net outside x → IsIslands net outside y
    → (d : DeviceId) → IsDevice net d → x d ≡ y d
islands_agree net outside x y hx hy d is =
    elim (cases_Bool (outside d)) [
      | inl t ↦
          let i = hx.labelled d is t in
          let j = hy.labelled d is t in
          let ij = hx.least d i.0 j.0 is i.1 (hy.joined d j.0 is j.1) in
          let ji = hy.least d j.0 i.0 is j.1 (hx.joined d i.0 is i.1) in
          let e : i.0.0 ≡ j.0.0 = omega (arith, ij, ji) in
          i.1 ∙ ap Some (λ k. record { 0 = e k }) ∙ sym j.1
      | inr f ↦ hx.emulated d is f ∙ sym (hy.emulated d is f)
    ]

-- labellings that agree on all devices have the same islands
pub same_islands : (net : Network) (x y : DeviceId → Option DeviceId)
    → ((d : DeviceId) → IsDevice net d → x d ≡ y d) → HaveSameIslands net x y
same_islands net x y agree = record {
  labelled = λ d is. (λ e. sym (agree d is) ∙ e, λ e. agree d is ∙ e);
  together = λ a b is_a is_b. (
    λ e. sym (agree a is_a) ∙ e ∙ agree b is_b,
    λ e. agree a is_a ∙ e ∙ sym (agree b is_b),
  );
}

pub same_islands_back : (net : Network) (x y : DeviceId → Option DeviceId)
    → HaveSameIslands net x y → HaveSameIslands net y x
same_islands_back net x y same = record {
  labelled = λ d is. ((same.labelled d is).1, (same.labelled d is).0);
  together = λ a b is_a is_b. ((same.together a b is_a is_b).1, (same.together a b is_a is_b).0);
}

module _ (net : Network) (x y : DeviceId → Option DeviceId) (same : HaveSameIslands net x y) where
  -- what y labels, x labels too
  pub labelled_too : (d j : DeviceId) → IsDevice net d → y d ≡ Some j
      → (i : DeviceId) × (x d ≡ Some i)
  labelled_too d j is e = go (x d) refl
    where
      go : (o : Option DeviceId) → x d ≡ o → (i : DeviceId) × (x d ≡ Some i)
      go None q = absurd (none-some j (sym ((same.labelled d is).0 q) ∙ e))
      go (Some i) q = (i, q)

  -- what is in one island of y is in one island of x
  pub island_too : (a b i j : DeviceId) → IsDevice net a → IsDevice net b
      → y a ≡ Some j → y b ≡ Some j → x a ≡ Some i → x b ≡ Some i
  island_too a b i j is_a is_b in_a in_b e =
      sym ((same.together a b is_a is_b).1 (in_a ∙ sym in_b)) ∙ e

  module _ (outside : DeviceId → Bool) where
    -- what faces an island of y faces that of x in which the peer is
    pub emulated_facing : (j e : DeviceId) (h : IsEmulatedFacing net outside y j e) (i : DeviceId)
        → x h.peer ≡ Some i → IsEmulatedFacing net outside x i e
    emulated_facing j e h i is = record {
      is_device = h.is_device;
      emulated = h.emulated;
      peer = h.peer;
      peer_is_device = h.peer_is_device;
      in_island = is;
      linked = h.linked;
    }

    pub outside_facing : (j d : DeviceId) (h : IsOutsideFacing net outside y j d) (i : DeviceId)
        → x d ≡ Some i → IsOutsideFacing net outside x i d
    outside_facing j d h i is = record {
      is_device = h.is_device;
      in_island = is;
      peer = h.peer;
      peer_is_device = h.peer_is_device;
      emulated = h.emulated;
      linked = h.linked;
    }

    pub certificate_agrees : IsCertified net outside x → IsCertified net outside y
    certificate_agrees h = record {
      island = λ j. record {
        emulated_side = λ a b fa fb.
            let i = labelled_too fa.peer j fa.peer_is_device fa.in_island in
            let b_in = island_too fa.peer fb.peer i.0 j fa.peer_is_device fb.peer_is_device
            fa.in_island fb.in_island i.1 in
            (h.island i.0).emulated_side a b
            (emulated_facing j a fa i.0 i.1) (emulated_facing j b fb i.0 b_in);
        outside_side = λ a b fa fb.
            let i = labelled_too a j fa.is_device fa.in_island in
            let b_in = island_too a b i.0 j fa.is_device fb.is_device
            fa.in_island fb.in_island i.1 in
            (h.island i.0).outside_side a b
            (outside_facing j a fa i.0 i.1) (outside_facing j b fb i.0 b_in);
        origins = λ d e p is od oe.
            let i = labelled_too d j od.0 is in
            let e_in = (h.island i.0).origins d e p i.1 od oe in
            sym ((same.together d e od.0 oe.0).0 (i.1 ∙ sym e_in)) ∙ is;
      };
    }
