-- Rounds over a table come to rest: the devices then hold their best of what they offer each other.
use Rattle.std.proofs.Common.{◌≡◌, ℕ, suc, ◌+◌, ◌<◌, Bool, true, false, List, [], ◌∷◌, length, get_or, Option, Some, None, inl, inr, refl, sym, ap, subst, ◌∙◌, arith}
use Rattle.std.proofs.Math.Numerals.{add-one}
use Rattle.std.specs.Prelude.{All}
use Rattle.std.proofs.lemmas.Bool.{cases_Bool, cases_eq, false≢true, or_cases, or_parts, eqb-false}
use Rattle.std.proofs.lemmas.List.{get_or-set_other, get_or-set_same, length-set}
use Rattle.std.proofs.lemmas.List.Elements.{All-contains, All-head, All-tail}
use Rattle.std.proofs.lemmas.Option.{none-some}
use Rattle.cn_base.specs.Cidr.{Cidr}
use Rattle.cn_base.specs.declared.ids.DeviceId.{DeviceId}
use Rattle.cn_base.specs.declared.route.Choice.{Choice}
use Rattle.cn_base.specs.declared.route.Route.{Route}
use Rattle.cn_net.specs.Candidates.{IsBest, IsCandidate}
use Rattle.cn_net.specs.Islands.{holds_device}
use Rattle.cn_net.specs.Network.{Network, HasDistinctIds, IsDevice, same_device}
use Rattle.cn_net.specs.OneState.{IsStableFor}
use Rattle.cn_net.specs.Stable.{Assignment, offer_of, offers_to}
use Rattle.cn_net.proofs.Candidates.{best_where}
use Rattle.cn_net.proofs.Members.{contained, same_number}
use Rattle.cn_net.proofs.OneState.{HasShorter, best_followed, same_option}
use Rattle.cn_net.proofs.Rounds.{best_short, decided_best}
use Rattle.cn_net.proofs.States.{has_one_state_for}
use Rattle.cn_record.specs.Rounds.{IsFixpoint}
use Rattle.cn_record.specs.Tables.{decided, held_of, round_of, turn}

-- ---- the best of what is offered depends on nothing else

candidate_alike : (net : Network) (came came' : DeviceId → Option Route) (b : DeviceId) (p : Cidr)
    → ((a : DeviceId) → IsDevice net a → came a ≡ came' a) → (c : Choice)
    → IsCandidate net came b p c → IsCandidate net came' b p c
candidate_alike net came came' b p same c (inl u) = inl u
candidate_alike net came came' b p same c (inr u) =
    inr (record {
      sender = u.sender;
      route = u.route;
      is_device = u.is_device;
      came_in =
          sym (same u.sender u.is_device) ∙ u.came_in;
      accepted = u.accepted;
      is = u.is;
    })

best_alike : (net : Network) (came came' : DeviceId → Option Route) (b : DeviceId) (p : Cidr)
    (o : Option Choice) → ((a : DeviceId) → IsDevice net a → came a ≡ came' a)
    → IsBest net came b p o → IsBest net came' b p o
best_alike net came came' b p o same h =
    best_where net (IsCandidate net came b p) (IsCandidate net came' b p)
    (candidate_alike net came came' b p same)
    (candidate_alike net came' came b p (λ a is. sym (same a is))) o h

-- ---- one turn

not_number : (a b : DeviceId) → same_device a b ≡ false → b.0 ≡ a.0 → ⊥
not_number a b f e = eqb-false a.0 b.0 f (sym e)

module _ (net : Network) (p : Cidr) where
  pub turn_here : (table : List (Option Choice)) (d : DeviceId) → d.0 < length table
      → held_of (turn net p table d) d p ≡ decided net p table d
  turn_here table d within = get_or-set_same table d.0 (decided net p table d) None within

  pub turn_elsewhere : (table : List (Option Choice)) (d e : DeviceId) → (e.0 ≡ d.0 → ⊥)
      → held_of (turn net p table d) e p ≡ held_of table e p
  turn_elsewhere table d e other = get_or-set_other table d.0 e.0 (decided net p table d) None other

  -- a fact of what the devices hold stays one where it is one of what d decides
  kept_by_turn : (P : DeviceId → Option Choice → Type 0) (table : List (Option Choice))
      (d e : DeviceId) → e.0 < length table → P d (decided net p table d) → P e (held_of table e p)
      → P e (held_of (turn net p table d) e p)
  kept_by_turn P table d e within here there =
      elim (cases_eq e.0 d.0) [
        | inl q ↦
            let is : d ≡ e = λ i. record { 0 = sym q i } in
            subst (λ z. P z (held_of (turn net p table d) z p)) is
            (subst (P d) (sym (turn_here table d (omega arith))) here)
        | inr other ↦ subst (P e) (sym (turn_elsewhere table d e other)) there
      ]

-- ---- one round

module _ (net : Network) (p : Cidr) where
  pub length-round_of : (ds : List DeviceId) (table : List (Option Choice))
      → length (round_of net p table ds) ≡ length table
  length-round_of [] table = refl
  length-round_of (d ∷ ds) table = length-round_of ds (turn net p table d)
      ∙ length-set table d.0 (decided net p table d)

  untouched : (ds : List DeviceId) (table : List (Option Choice)) (e : DeviceId)
      → holds_device ds e ≡ false → held_of (round_of net p table ds) e p ≡ held_of table e p
  untouched [] table e f = refl
  untouched (d ∷ ds) table e f =
      let parts = or_parts (same_device d e) (holds_device ds e) f in
      untouched ds (turn net p table d) e parts.1
      ∙ turn_elsewhere net p table d e (not_number d e parts.0)

-- each path in the table has at most 255 numbers
IsShort : Network → Cidr → List (Option Choice) → Type 0
IsShort net p table = (d : DeviceId) → IsDevice net d → (c : Choice) → held_of table d p ≡ Some c
    → length c.path < 256

short_round : (net : Network) (p : Cidr) (ds : List DeviceId) (table : List (Option Choice))
    → length table ≡ length net.devices → IsShort net p table
    → IsShort net p (round_of net p table ds)
unfolding IsShort
short_round net p [] table size short = short
short_round net p (d ∷ ds) table size short =
    short_round net p ds (turn net p table d) (length-set table d.0 (decided net p table d) ∙ size)
    (λ e is. kept_by_turn net p (λ _ o. (c : Choice) → o ≡ Some c → length c.path < 256) table d e
    (omega arith)
    (best_short net (held_of table) d p (decided net p table d)
    (decided_best net (held_of table) d p)) (short e is))

-- ---- the table comes nearer to a stable state

-- the two have the same routes that are shorter than k
Near : Network → Cidr → ℕ → Assignment → Assignment → Type 0
Near net p k x y = HasShorter net p k x y × HasShorter net p k y x

-- the same of what one device holds
NearAt : ℕ → Option Choice → Option Choice → Type 0
NearAt k o q = (c : Choice) → length c.path < k
    → (o ≡ Some c → q ≡ Some c) × (q ≡ Some c → o ≡ Some c)

module _ (net : Network) (p : Cidr) (k : ℕ) (ids : HasDistinctIds net) (x : Assignment) where
  near_at : (table : List (Option Choice)) → Near net p k (held_of table) x → (e : DeviceId)
      → IsDevice net e → NearAt k (held_of table e p) (x e p)
  unfolding Near NearAt
  near_at table near e is c l = (near.0 e c is l, near.1 e c is l)

  near_from : (table : List (Option Choice))
      → ((e : DeviceId) → IsDevice net e → NearAt k (held_of table e p) (x e p))
      → Near net p k (held_of table) x
  unfolding Near NearAt
  near_from table at = (λ e c is l. (at e is c l).0, λ e c is l. (at e is c l).1)

  weaker : (o q : Option Choice) → NearAt (suc k) o q → NearAt k o q
  unfolding NearAt
  weaker o q h c l = h c (omega arith)

  -- what a device then decides agrees one number further
  decides_near : (table : List (Option Choice)) (d : DeviceId)
      → IsBest net (offers_to net x d p) d p (x d p) → Near net p k (held_of table) x
      → NearAt (suc k) (decided net p table d) (x d p)
  unfolding Near NearAt
  decides_near table d stable near c l =
      let best = decided_best net (held_of table) d p in (
        best_followed net k (held_of table) x d p ids near.0 near.1 (decided net p table d)
            (x d p) best stable c l,
        best_followed net k x (held_of table) d p ids near.1 near.0 (x d p)
            (decided net p table d) stable best c l,
      )

  -- when each of these devices has decided once, they agree one number further
  near_round : (ds : List DeviceId) (table : List (Option Choice))
      → length table ≡ length net.devices → All (IsDevice net) ds
      → All (λ d. IsBest net (offers_to net x d p) d p (x d p)) ds
      → Near net p k (held_of table) x
      → Near net p k (held_of (round_of net p table ds)) x
      × ((e : DeviceId) → holds_device ds e ≡ true
      → NearAt (suc k) (held_of (round_of net p table ds) e p) (x e p))
  near_round [] table size devices stable near = (near, λ e t. absurd (false≢true t))
  near_round (d ∷ ds) table size devices stable near =
      let is_d = All-head (IsDevice net) d ds devices in
      let next = turn net p table d in
      let decides =
      decides_near table d
      (All-head (λ z. IsBest net (offers_to net x z p) z p (x z p)) d ds stable) near in
      let near' =
      near_from next
      (λ e is. kept_by_turn net p (λ z o. NearAt k o (x z p)) table d e (omega arith)
      (weaker (decided net p table d) (x d p) decides) (near_at table near e is)) in
      let more = near_round ds next (length-set table d.0 (decided net p table d) ∙ size)
      (All-tail (IsDevice net) d ds devices)
      (All-tail (λ z. IsBest net (offers_to net x z p) z p (x z p)) d ds stable) near' in (
        more.0,
        λ e t. elim (cases_Bool (holds_device ds e)) [
          | inl later ↦ more.1 e later
          | inr now ↦ elim (or_cases (same_device d e) (holds_device ds e) t) [
            | inl same ↦
                let is : d ≡ e = same_number d e same in
                let here : NearAt (suc k) (held_of next d p) (x d p) =
                subst (λ o. NearAt (suc k) o (x d p))
                (sym (turn_here net p table d (omega arith))) decides in
                subst (λ o. NearAt (suc k) o (x e p)) (sym (untouched net p ds next e now))
                (subst (λ z. NearAt (suc k) (held_of next z p) (x z p)) is here)
            | inr later ↦ more.1 e later
          ]
        ],
      )

-- ---- round after round

-- After k rounds from an empty table: devices outside of s hold nothing, and those of s hold the
-- same routes shorter than k as in each state that is stable for them.
pub record IsNear (net : Network) (s : DeviceId → Bool) (p : Cidr) (table : List (Option Choice))
    (k : ℕ) : Type 0 where
  pub size : length table ≡ length net.devices
  pub others : (d : DeviceId) → IsDevice net d → s d ≡ false → held_of table d p ≡ None
  pub short : (d : DeviceId) → IsDevice net d → (c : Choice) → held_of table d p ≡ Some c
      → length c.path < 256
  pub near : (x : Assignment) → IsStableFor net s p x
      → ((d : DeviceId) → IsDevice net d → s d ≡ false → x d p ≡ None)
      → HasShorter net p k (held_of table) x × HasShorter net p k x (held_of table)

pub empty_at : (table : List (Option Choice)) → All (λ o. o ≡ None) table
    → (d : DeviceId) (p : Cidr) → d.0 < length table → held_of table d p ≡ None
empty_at table empty d p within = empty d.0 None within

pub near_first : (net : Network) (s : DeviceId → Bool) (p : Cidr) (table : List (Option Choice))
    → length table ≡ length net.devices → All (λ o. o ≡ None) table → IsNear net s p table 0
near_first net s p table size empty = record {
  size = size;
  others = λ d is f. empty_at table empty d p (omega arith);
  short = λ d is c e. absurd (none-some c (sym (empty_at table empty d p (omega arith)) ∙ e));
  near = λ x stable none. (λ b c is l e. absurd (omega arith), λ b c is l e. absurd (omega arith));
}

nothing_near : (k : ℕ) (o q : Option Choice) → o ≡ None → q ≡ None → NearAt k o q
unfolding NearAt
nothing_near k o q on qn c l =
    (λ e. absurd (none-some c (sym on ∙ e)), λ e. absurd (none-some c (sym qn ∙ e)))

-- a round of those that wait, where all others already hold what they decide
module _ (net : Network) (s : DeviceId → Bool) (p : Cidr) (waiting : List DeviceId)
    (devices : All (IsDevice net) waiting) (inside : All (λ d. s d ≡ true) waiting) where
  waiting_best : (x : Assignment) → IsStableFor net s p x
      → All (λ d. IsBest net (offers_to net x d p) d p (x d p)) waiting
  waiting_best x stable k e lt =
      stable (get_or waiting k e) (devices k e lt) (inside k e lt)

  apart : (d : DeviceId) → s d ≡ false → holds_device waiting d ≡ false
  apart d f = elim (cases_Bool (holds_device waiting d)) [
    | inl t ↦
        let in' = All-contains (λ z. s z ≡ true) waiting d inside (contained waiting d t) in
        absurd (false≢true (sym f ∙ in'))
    | inr g ↦ g
  ]

  pub near_next : (table next : List (Option Choice)) (k : ℕ) → HasDistinctIds net
      → ((d : DeviceId) → IsDevice net d → s d ≡ true → holds_device waiting d ≡ false
      → decided net p table d ≡ held_of table d p)
      → next ≡ round_of net p table waiting → IsNear net s p table k → IsNear net s p next (k + 1)
  unfolding IsShort Near
  near_next table next k ids rests is n =
      let size = length-round_of net p waiting table ∙ n.size in
      let after : IsNear net s p (round_of net p table waiting) (k + 1) = record {
        size = size;
        others = λ d is_d f. untouched net p waiting table d (apart d f) ∙ n.others d is_d f;
        short = short_round net p waiting table n.size n.short;
        near = λ x stable none.
            let near = n.near x stable none in
            let more =
            near_round net p k ids x waiting table n.size devices (waiting_best x stable) near in
            rw add-one
            (near_from net p (suc k) ids x (round_of net p table waiting)
            (λ e is_e. elim (cases_Bool (holds_device waiting e)) [
              | inl t ↦ more.1 e t
              | inr g ↦
                  let same = untouched net p waiting table e g in
                  elim (cases_Bool (s e)) [
                    | inl t ↦
                        subst (λ o. NearAt (suc k) o (x e p)) (rests e is_e t g ∙ sym same)
                        (decides_near net p k ids x table e (stable e is_e t) near)
                    | inr f ↦
                        nothing_near (suc k) _ (x e p) (same ∙ n.others e is_e f) (none e is_e f)
                  ]
            ]));
      } in
      subst (λ t. IsNear net s p t (k + 1)) (sym is) after

-- ---- at rest

-- when nothing changes any more
pub fixpoint_still : (net : Network) (s : DeviceId → Bool) (p : Cidr)
    (table : List (Option Choice)) (k : ℕ) → IsNear net s p table k
    → ((d : DeviceId) → IsDevice net d → s d ≡ true → decided net p table d ≡ held_of table d p)
    → IsFixpoint net s p table
fixpoint_still net s p table k n still = record {
  size = n.size;
  others = n.others;
  stable = λ b is t.
      subst (IsBest net (offers_to net (held_of table) b p) b p) (still b is t)
      (decided_best net (held_of table) b p);
}

-- after 256 rounds
pub fixpoint_last : (net : Network) (s : DeviceId → Bool) (p : Cidr)
    (table : List (Option Choice)) (k : ℕ) → HasDistinctIds net → 255 < k
    → IsNear net s p table k → IsFixpoint net s p table
fixpoint_last net s p table k ids many n =
    let one = has_one_state_for net s p (λ _ _. None) ids in
    let x : Assignment = one.state in
    let near = n.near x one.stable one.elsewhere in
    let same : (d : DeviceId) → IsDevice net d → x d p ≡ held_of table d p =
    λ d is. elim (cases_Bool (s d)) [
      | inl t ↦
          same_option (x d p) (held_of table d p)
          (λ c e.
          let l = best_short net x d p (x d p) (one.stable d is t) c e in
          near.1 d c is (omega arith) e)
          (λ c e. let l = n.short d is c e in near.0 d c is (omega arith) e)
      | inr f ↦ one.elsewhere d is f ∙ sym (n.others d is f)
    ] in
    record {
      size = n.size;
      others = n.others;
      stable = λ b is t.
          subst (IsBest net (offers_to net (held_of table) b p) b p) (same b is)
          (best_alike net (offers_to net x b p) (offers_to net (held_of table) b p) b p (x b p)
          (λ a is_a. ap (offer_of net a b p) (same a is_a)) (one.stable b is t));
    }
