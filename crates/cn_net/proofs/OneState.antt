-- At most one assignment to some devices is stable there, where the others' choices are given.
use Rattle.std.proofs.Common.{◌≡◌, ℕ, suc, zero, ◌<◌, Bool, length, Option, Some, None, inl, inr, refl, sym, ap, subst, ◌∙◌, arith}
use Rattle.std.proofs.lemmas.Option.{none-some, same_Some}
use Rattle.std.proofs.lemmas.Bool.{cases_Bool}
use Rattle.cn_base.specs.Cidr.{Cidr}
use Rattle.cn_base.specs.declared.ids.DeviceId.{DeviceId}
use Rattle.cn_base.specs.declared.route.Choice.{Choice}
use Rattle.cn_net.specs.Candidates.{IsLearnt, IsCandidate, IsBest}
use Rattle.cn_net.specs.Network.{Network, HasDistinctIds, IsDevice}
use Rattle.cn_net.specs.OneState.{AgreeElsewhere, AgreeFor, IsStableFor}
use Rattle.cn_net.specs.Stable.{Assignment, offers_to, route_of}
use Rattle.cn_net.proofs.Offering.{IsHeldOffer, offer-gives, offer-longer, offer_of-back, offer_of-gives}
use Rattle.cn_net.proofs.Ranks.{no_longer, one_candidate}

-- y has each route of x to the prefix that is shorter than k
abbrev pub HasShorter : Network → Cidr → ℕ → Assignment → Assignment → Type 0
HasShorter net p k x y =
    (b : DeviceId) (c : Choice) → IsDevice net b → length c.path < k → x b p ≡ Some c
    → y b p ≡ Some c

-- what the sender of a learnt choice holds
pub source_of : (net : Network) (held : Assignment) (b : DeviceId) (p : Cidr) (c : Choice)
    (u : IsLearnt net (offers_to net held b p) b c)
    → IsHeldOffer net u.sender b p (held u.sender p) u.route
source_of net held b p c u = offer_of-gives net u.sender b p (held u.sender p) u.route u.came_in

-- a learnt choice is longer than what its sender holds
pub source_shorter : (net : Network) (held : Assignment) (b : DeviceId) (p : Cidr) (c : Choice)
    (u : IsLearnt net (offers_to net held b p) b c)
    → length (source_of net held b p c u).source.path < length c.path
source_shorter net held b p c u =
    let s = source_of net held b p c u in
    let e : length c.path ≡ length u.route.path = ap (λ (x : Choice). length x.path) u.is in
    let l : length s.source.path < length u.route.path = offer-longer net u.sender b
    (route_of p s.source) u.route (offer-gives net u.sender b (route_of p s.source) u.route
    s.offered) in
    omega arith

-- a learnt choice stays one where its sender holds the same
pub learnt_with : (net : Network) (x y : Assignment) (b : DeviceId) (p : Cidr) (c : Choice)
    (u : IsLearnt net (offers_to net x b p) b c)
    → y u.sender p ≡ Some (source_of net x b p c u).source → IsLearnt net (offers_to net y b p) b c
learnt_with net x y b p c u e =
    let s = source_of net x b p c u in
    record {
      sender = u.sender;
      route = u.route;
      is_device = u.is_device;
      came_in = offer_of-back net u.sender b p (y u.sender p) s.source u.route e s.offered;
      accepted = u.accepted;
      is = u.is;
    }

-- a candidate stays one under an assignment that has each shorter route
still_candidate : (net : Network) (k : ℕ) (x y : Assignment) (b : DeviceId) (p : Cidr) (c : Choice)
    → HasShorter net p k x y → length c.path < suc k → IsCandidate net (offers_to net x b p) b p c
    → IsCandidate net (offers_to net y b p) b p c
still_candidate net k x y b p c f l (inl u) = inl u
still_candidate net k x y b p c f l (inr u) =
    let o = source_of net x b p c u in
    let s = source_shorter net x b p c u in
    let short : length o.source.path < k = omega arith in
    inr (learnt_with net x y b p c u (f u.sender o.source u.is_device short o.holds))

-- The best under two assignments that agree on all routes shorter than k agree where they are no
-- longer than k.
pub best_followed : (net : Network) (k : ℕ) (x y : Assignment) (b : DeviceId) (p : Cidr)
    → HasDistinctIds net → HasShorter net p k x y → HasShorter net p k y x → (o q : Option Choice)
    → IsBest net (offers_to net x b p) b p o → IsBest net (offers_to net y b p) b p q
    → (c : Choice) → length c.path < suc k → o ≡ Some c → q ≡ Some c
best_followed net k x y b p ids f g None q best best' c l e = absurd (none-some c e)
best_followed net k x y b p ids f g (Some d) None best best' c l e =
    let de : d ≡ c = same_Some d c e in
    let short : length d.path < suc k = subst (λ (z : Choice). length z.path < suc k) (sym de) l in
    absurd (best' d (still_candidate net k x y b p d f short best.0))
best_followed net k x y b p ids f g (Some d) (Some d') best best' c l e =
    let de : d ≡ c = same_Some d c e in
    let short : length d.path < suc k = subst (λ (z : Choice). length z.path < suc k) (sym de) l in
    let in_y = still_candidate net k x y b p d f short best.0 in
    let first = best'.1 d in_y in
    let no_more = no_longer net (offers_to net y b p) b p d d' best'.0 first in
    let short' : length d'.path < suc k = omega arith in
    let in_x = still_candidate net k y x b p d' g short' best'.0 in
    let second = best.1 d' in_x in
    ap Some (sym (one_candidate net (offers_to net x b p) b p d d' ids best.0 in_x first second))
    ∙ e

pub same_option : (o q : Option Choice) → ((c : Choice) → o ≡ Some c → q ≡ Some c)
    → ((c : Choice) → q ≡ Some c → o ≡ Some c) → o ≡ q
same_option None None f g = refl
same_option None (Some d) f g = g d refl
same_option (Some c) q f g = sym (f c refl)

-- two assignments that are stable on s and the same elsewhere agree on all routes shorter than k
stable_followed : (net : Network) (s : DeviceId → Bool) (p : Cidr) (x y : Assignment)
    → HasDistinctIds net → AgreeElsewhere net s p x y → IsStableFor net s p x
    → IsStableFor net s p y → (k : ℕ) → HasShorter net p k x y × HasShorter net p k y x
stable_followed net s p x y ids same sx sy zero =
    (λ b c d l e. absurd (omega arith), λ b c d l e. absurd (omega arith))
stable_followed net s p x y ids same sx sy (suc k) =
    let ih = stable_followed net s p x y ids same sx sy k in (
      λ b c d l e. elim (cases_Bool (s b)) [
        | inl t ↦
            best_followed net k x y b p ids ih.0 ih.1 (x b p) (y b p) (sx b d t) (sy b d t) c l e
        | inr t ↦ sym (same b d t) ∙ e
      ],
      λ b c d l e. elim (cases_Bool (s b)) [
        | inl t ↦
            best_followed net k y x b p ids ih.1 ih.0 (y b p) (x b p) (sy b d t) (sx b d t) c l e
        | inr t ↦ same b d t ∙ e
      ],
    )

-- where the choices outside s are given, at most one assignment to s is stable
pub one_state_for : (net : Network) (s : DeviceId → Bool) (p : Cidr) (x y : Assignment)
    → HasDistinctIds net → AgreeElsewhere net s p x y → IsStableFor net s p x
    → IsStableFor net s p y → AgreeFor net p x y
one_state_for net s p x y ids same sx sy b d =
    same_option (x b p) (y b p)
    (λ c e. (stable_followed net s p x y ids same sx sy (suc (length c.path))).0 b c d
    (omega arith) e)
    (λ c e. (stable_followed net s p x y ids same sx sy (suc (length c.path))).1 b c d
    (omega arith) e)
