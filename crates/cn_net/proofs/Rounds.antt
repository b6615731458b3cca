-- A stable state is reached from any start when each device has decided 256 times.
use Rattle.std.proofs.Common.{◌≡◌, ℕ, suc, zero, ◌<◌, Bool, true, false, cond, length, Option, Some, None, inl, inr, refl, sym, ap, subst, ◌∙◌, arith}
use Rattle.std.proofs.lemmas.Option.{none-some, same_Some}
use Rattle.std.proofs.lemmas.Bool.{cases_Bool, cond-true, cond-false}
use Rattle.cn_base.specs.Cidr.{Cidr}
use Rattle.cn_base.specs.declared.ids.DeviceId.{DeviceId}
use Rattle.cn_base.specs.declared.route.Choice.{Choice}
use Rattle.cn_net.specs.Candidates.{IsCandidate, IsBest, best_of}
use Rattle.cn_net.specs.Network.{Network, HasDistinctIds}
use Rattle.cn_net.specs.OneState.{IsStableFor}
use Rattle.cn_net.specs.Stable.{Assignment, offers_to, route_of}
use Rattle.cn_net.proofs.Candidates.{best_of_is_best}
use Rattle.cn_net.proofs.Offering.{offer-gives}
use Rattle.cn_net.proofs.OneState.{HasShorter, best_followed, same_option, source_of}

-- what b decides where the others hold this
abbrev pub decided : Network → Assignment → DeviceId → Cidr → Option Choice
decided net held b p = best_of net (offers_to net held b p) b p

pub decided_best : (net : Network) (held : Assignment) (b : DeviceId) (p : Cidr)
    → IsBest net (offers_to net held b p) b p (decided net held b p)
decided_best net held b p = best_of_is_best net (offers_to net held b p) b p

-- each device of s decides
next_round : Network → (DeviceId → Bool) → Assignment → Assignment
next_round net s held b p = cond (s b) (decided net held b p) (held b p)

rounds : Network → (DeviceId → Bool) → Assignment → ℕ → Assignment
rounds net s start zero = start
rounds net s start (suc k) = next_round net s (rounds net s start k)

-- a candidate has at most 255 numbers
candidate_short : (net : Network) (held : Assignment) (b : DeviceId) (p : Cidr) (c : Choice)
    → IsCandidate net (offers_to net held b p) b p c → length c.path < 256
candidate_short net held b p c (inl u) =
    let f : length c.path ≡ 0 = ap length u.empty in omega arith
candidate_short net held b p c (inr u) =
    let f : length c.path ≡ length u.route.path = ap (λ (z : Choice). length z.path) u.is in
    let o = source_of net held b p c u in
    let g = (offer-gives net u.sender b (route_of p o.source) u.route o.offered).short in
    omega arith

pub best_short : (net : Network) (held : Assignment) (b : DeviceId) (p : Cidr) (o : Option Choice)
    → IsBest net (offers_to net held b p) b p o → (c : Choice) → o ≡ Some c → length c.path < 256
best_short net held b p None h c e = absurd (none-some c e)
best_short net held b p (Some d) h c e =
    subst (λ (z : Choice). length z.path < 256) (same_Some d c e)
    (candidate_short net held b p d h.0)

module _ (net : Network) (s : DeviceId → Bool) where
  round_inside : (held : Assignment) (b : DeviceId) (p : Cidr) → s b ≡ true
      → next_round net s held b p ≡ decided net held b p
  unfolding next_round
  round_inside held b p t = cond-true (s b) _ _ t

  round_outside : (held : Assignment) (b : DeviceId) (p : Cidr) → s b ≡ false
      → next_round net s held b p ≡ held b p
  unfolding next_round
  round_outside held b p t = cond-false (s b) _ _ t

  -- one round of two assignments that agree on all routes shorter than k gives two that agree on
  -- all no longer than k
  round_followed : HasDistinctIds net → (p : Cidr) (k : ℕ) (x y : Assignment)
      → HasShorter net p k x y → HasShorter net p k y x
      → ((b : DeviceId) → s b ≡ false → x b p ≡ y b p)
      → HasShorter net p (suc k) (next_round net s x) (next_round net s y)
  round_followed ids p k x y f g same b c d l e =
      elim (cases_Bool (s b)) [
        | inl t ↦
            round_inside y b p t
            ∙ best_followed net k x y b p ids f g _ _ (decided_best net x b p)
            (decided_best net y b p) c l (sym (round_inside x b p t) ∙ e)
        | inr t ↦ round_outside y b p t ∙ sym (same b t) ∙ sym (round_outside x b p t) ∙ e
      ]

  rounds_outside : (start : Assignment) (k : ℕ) (b : DeviceId) (p : Cidr) → s b ≡ false
      → rounds net s start k b p ≡ start b p
  unfolding rounds
  rounds_outside start zero b p t = refl
  rounds_outside start (suc k) b p t = round_outside _ b p t ∙ rounds_outside start k b p t

  rounds_followed : HasDistinctIds net → (start : Assignment) (p : Cidr) (k : ℕ)
      → HasShorter net p k (rounds net s start k) (rounds net s start (suc k))
      × HasShorter net p k (rounds net s start (suc k)) (rounds net s start k)
  unfolding rounds
  rounds_followed ids start p zero =
      (λ b c d l e. absurd (omega arith), λ b c d l e. absurd (omega arith))
  rounds_followed ids start p (suc k) =
      let ih = rounds_followed ids start p k in
      let same =
      λ (b : DeviceId) (t : s b ≡ false). sym (round_outside (rounds net s start k) b p t) in (
        round_followed ids p k (rounds net s start k)
            (next_round net s (rounds net s start k)) ih.0 ih.1 same,
        round_followed ids p k (next_round net s (rounds net s start k))
            (rounds net s start k) ih.1 ih.0 (λ b t. sym (same b t)),
      )

  settled : HasDistinctIds net → (start : Assignment) (m k : ℕ) → k ≡ suc m → 255 < k → (p : Cidr)
      → IsStableFor net s p (rounds net s start k)
  unfolding rounds
  settled ids start m k mk big p b d t =
      let x = rounds net s start k in
      let f = rounds_followed ids start p k in
      let later = best_short net x b p _ (decided_best net x b p) in
      let earlier =
      best_short net (rounds net s start m) b p _ (decided_best net (rounds net s start m) b p) in
      let last : rounds net s start k b p ≡ decided net (rounds net s start m) b p =
      ap (λ z. rounds net s start z b p) mk ∙ round_inside (rounds net s start m) b p t in
      let same : decided net x b p ≡ x b p =
      same_option (decided net x b p) (x b p)
      (λ c e. let l = later c e in f.1 b c d (omega arith) (round_inside x b p t ∙ e))
      (λ c e. let l = earlier c (sym last ∙ e) in sym (round_inside x b p t) ∙ f.0 b c d
      (omega arith) e) in
      subst (IsBest net (offers_to net x b p) b p) same (decided_best net x b p)

  -- where the choices outside s are given, some assignment to s is stable
  pub some_state_for : HasDistinctIds net → (start : Assignment)
      → (held : Assignment) × ((b : DeviceId) (p : Cidr) → s b ≡ false → held b p ≡ start b p)
      × ((p : Cidr) → IsStableFor net s p held)
  some_state_for ids start = (
    rounds net s start 256,
    rounds_outside start 256,
    settled ids start 255 256 refl
        (omega arith),
  )
