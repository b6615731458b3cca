-- The best of a device's candidates is what `best_of` computes.
use Rattle.std.proofs.Common.{◌≡◌, suc, zero, ◌⊎◌, false, List, [], ◌∷◌, Option, Some, None, option_map, inl, inr, refl, sym, ap, subst, ◌∙◌, arith}
use Rattle.std.specs.List.{All, Contains, fold}
use Rattle.std.proofs.lemmas.Option.{none-some, same_Some, cond_some}
use Rattle.std.proofs.lemmas.Bool.{cases_Bool, cond-true, cond-false}
use Rattle.std.proofs.lemmas.List.Elements.{All-head, All-tail}
use Rattle.std.specs.Cmp.{IsStrictWeakOrder}
use Rattle.cn_base.specs.Cidr.{Cidr}
use Rattle.cn_base.specs.declared.ids.DeviceId.{DeviceId}
use Rattle.cn_base.specs.declared.ids.Origin.{Origin}
use Rattle.cn_base.specs.declared.route.Choice.{Choice}
use Rattle.cn_base.specs.declared.route.Route.{Route}
use Rattle.cn_decide.proofs.Order.{outranks_by_order}
use Rattle.cn_net.specs.Candidates.{IsOwn, IsLearnt, IsCandidate, IsBestAmong, IsBest, best_of, better_of, choice_from, outranks, own_choice, rank_of, usable}
use Rattle.cn_net.specs.Exchange.{accept}
use Rattle.cn_net.specs.Network.{Network, IsDevice, device_ids, own_origin}
use Rattle.cn_net.proofs.Peers.{all_devices, only_devices}

-- ---- the order

outranks_order : (net : Network) → IsStrictWeakOrder (outranks net)
outranks_order net = outranks_by_order (rank_of net)

not_itself : (net : Network) (c : Choice) → outranks net c c ≡ false
not_itself net c =
    elim (cases_Bool (outranks net c c)) [ inl t ↦ (outranks_order net).one_way c c t | inr f ↦ f ]

-- ---- the best of two sets of choices

better_best : (net : Network) (P Q : Choice → Type 0) (o q : Option Choice) → IsBestAmong net P o
    → IsBestAmong net Q q → IsBestAmong net (λ c. P c ⊎ Q c) (better_of net o q)
better_best net P Q None None p q = λ x. elim [ inl h ↦ p x h | inr h ↦ q x h ]
better_best net P Q None (Some d) p q =
    (inr q.0, λ x. elim [ inl h ↦ absurd (p x h) | inr h ↦ q.1 x h ])
better_best net P Q (Some c) None p q =
    (inl p.0, λ x. elim [ inl h ↦ p.1 x h | inr h ↦ absurd (q x h) ])
better_best net P Q (Some c) (Some d) p q =
    let w = outranks_order net in
    elim (cases_Bool (outranks net d c)) [
      | inl t ↦ subst (IsBestAmong net (λ x. P x ⊎ Q x))
          (sym (cond-true (outranks net d c) (Some d) (Some c) t)) (
            inr q.0,
            λ x.
                elim [ inl h ↦ w.chain x c d (p.1 x h) (w.one_way d c t) | inr h ↦ q.1 x h ],
          )
      | inr f ↦ subst (IsBestAmong net (λ x. P x ⊎ Q x))
          (sym (cond-false (outranks net d c) (Some d) (Some c) f))
          (inl p.0, λ x. elim [ inl h ↦ p.1 x h | inr h ↦ w.chain x d c (q.1 x h) f ])
    ]

-- sets with the same choices have the same best ones
pub best_where : (net : Network) (P Q : Choice → Type 0) → ((c : Choice) → P c → Q c)
    → ((c : Choice) → Q c → P c) → (o : Option Choice) → IsBestAmong net P o → IsBestAmong net Q o
best_where net P Q f g None p = λ x h. p x (g x h)
best_where net P Q f g (Some c) p = (f c p.0, λ x h. p.1 x (g x h))

best_of_one : (net : Network) (o : Option Choice) → IsBestAmong net (λ c. o ≡ Some c) o
best_of_one net None = λ x e. none-some x e
best_of_one net (Some c) =
    (refl, λ x e. subst (λ z. outranks net z c ≡ false) (same_Some c x e) (not_itself net c))

-- ---- the device's own route

own_is : (net : Network) (b : DeviceId) (p : Cidr) (c : Choice) → own_choice net b p ≡ Some c
    → IsOwn net b p c
unfolding own_choice
own_is net b p c e = go (own_origin net b p) refl e
  where
    go : (o : Option Origin) → own_origin net b p ≡ o
        → option_map (λ x. record { from = None; path = []; origin = x }) o ≡ Some c
        → IsOwn net b p c
    go None h e = absurd (none-some c e)
    go (Some x) h e =
        let s = same_Some _ _ e in
        record {
          own = h ∙ ap (λ (z : Choice). Some z.origin) s;
          none = sym (ap (λ (z : Choice). z.from) s);
          empty = sym (ap (λ (z : Choice). z.path) s);
        }

own_back : (net : Network) (b : DeviceId) (p : Cidr) (c : Choice) → IsOwn net b p c
    → own_choice net b p ≡ Some c
unfolding own_choice
own_back net b p c u =
    let made : Origin → Choice = λ x. record { from = None; path = []; origin = x } in
    ap (option_map made) u.own
    ∙ ap Some (λ i. record { from = sym u.none i; path = sym u.empty i; origin = c.origin })

best_own : (net : Network) (b : DeviceId) (p : Cidr)
    → IsBestAmong net (IsOwn net b p) (own_choice net b p)
best_own net b p =
    best_where net _ (IsOwn net b p) (own_is net b p) (own_back net b p) _
    (best_of_one net (own_choice net b p))

-- ---- what came in from one device

-- c is learnt from a
IsFrom : Network → (DeviceId → Option Route) → DeviceId → DeviceId → Choice → Type 0
IsFrom net came b a c = (u : IsLearnt net came b c) × (u.sender ≡ a)

usable_is : (net : Network) (came : DeviceId → Option Route) (b a : DeviceId) → IsDevice net a
    → (c : Choice) → usable net b a (came a) ≡ Some c → IsFrom net came b a c
unfolding usable IsFrom
usable_is net came b a d c e = go (came a) refl e
  where
    go : (o : Option Route) → came a ≡ o → usable net b a o ≡ Some c → IsFrom net came b a c
    go None h e = absurd (none-some c e)
    go (Some r) h e =
        let s = cond_some (accept net b a r) (choice_from a r) c e in (
          record {
            sender = a;
            route = r;
            is_device = d;
            came_in = h;
            accepted = s.0;
            is = sym s.1;
          },
          refl,
        )

usable_back : (net : Network) (came : DeviceId → Option Route) (b a : DeviceId) (c : Choice)
    → IsFrom net came b a c → usable net b a (came a) ≡ Some c
unfolding usable IsFrom
usable_back net came b a c (u, e) =
    let to_a = subst (λ (z : DeviceId). usable net b z (came z) ≡ Some c) e in
    to_a (ap (usable net b u.sender) u.came_in
    ∙ cond-true (accept net b u.sender u.route)
    (Some (choice_from u.sender u.route)) None u.accepted ∙ ap Some (sym u.is))

best_from : (net : Network) (came : DeviceId → Option Route) (b a : DeviceId) → IsDevice net a
    → IsBestAmong net (IsFrom net came b a) (usable net b a (came a))
best_from net came b a d =
    best_where net _ (IsFrom net came b a) (usable_is net came b a d) (usable_back net came b a) _
    (best_of_one net (usable net b a (came a)))

-- ---- one sender after another

-- c is learnt from one of these devices
IsFromAny : Network → (DeviceId → Option Route) → DeviceId → List DeviceId → Choice → Type 0
IsFromAny net came b [] c = ⊥
IsFromAny net came b (a ∷ ds) c = IsFrom net came b a c ⊎ IsFromAny net came b ds c

learnt_from_any : (net : Network) (came : DeviceId → Option Route) (b : DeviceId)
    (ds : List DeviceId) (c : Choice) → IsFromAny net came b ds c → IsLearnt net came b c
unfolding IsFromAny IsFrom
learnt_from_any net came b [] c h = absurd h
learnt_from_any net came b (a ∷ ds) c (inl h) = h.0
learnt_from_any net came b (a ∷ ds) c (inr h) = learnt_from_any net came b ds c h

any_from_learnt : (net : Network) (came : DeviceId → Option Route) (b : DeviceId)
    (ds : List DeviceId) (c : Choice) (u : IsLearnt net came b c) → Contains ds u.sender
    → IsFromAny net came b ds c
unfolding IsFromAny IsFrom
any_from_learnt net came b [] c u (k, within, is) = absurd (omega arith)
any_from_learnt net came b (a ∷ ds) c u (zero, within, is) = inl (u, sym is)
any_from_learnt net came b (a ∷ ds) c u (suc k, within, is) =
    inr (any_from_learnt net came b ds c u (k, omega arith, is))

none_more : (net : Network) (came : DeviceId → Option Route) (b : DeviceId) (P : Choice → Type 0)
    (c : Choice) → P c ⊎ IsFromAny net came b [] c → P c
unfolding IsFromAny
none_more net came b P c (inl h) = h
none_more net came b P c (inr h) = absurd h

one_more : (net : Network) (came : DeviceId → Option Route) (b a : DeviceId) (ds : List DeviceId)
    (P : Choice → Type 0) (c : Choice) → (P c ⊎ IsFrom net came b a c) ⊎ IsFromAny net came b ds c
    → P c ⊎ IsFromAny net came b (a ∷ ds) c
unfolding IsFromAny
one_more net came b a ds P c (inl (inl h)) = inl h
one_more net came b a ds P c (inl (inr h)) = inr (inl h)
one_more net came b a ds P c (inr h) = inr (inr h)

one_less : (net : Network) (came : DeviceId → Option Route) (b a : DeviceId) (ds : List DeviceId)
    (P : Choice → Type 0) (c : Choice) → P c ⊎ IsFromAny net came b (a ∷ ds) c
    → (P c ⊎ IsFrom net came b a c) ⊎ IsFromAny net came b ds c
unfolding IsFromAny
one_less net came b a ds P c (inl h) = inl (inl h)
one_less net came b a ds P c (inr (inl h)) = inl (inr h)
one_less net came b a ds P c (inr (inr h)) = inr h

best_folded : (net : Network) (came : DeviceId → Option Route) (b : DeviceId) (ds : List DeviceId)
    (P : Choice → Type 0) (o : Option Choice) → All (IsDevice net) ds → IsBestAmong net P o
    → IsBestAmong net (λ c. P c ⊎ IsFromAny net came b ds c)
    (fold (λ best a. better_of net best (usable net b a (came a))) o ds)
best_folded net came b [] P o all h =
    best_where net P (λ c. P c ⊎ IsFromAny net came b [] c) (λ c. inl) (none_more net came b P) o h
best_folded net came b (a ∷ ds) P o all h =
    let one =
    better_best net P (IsFrom net came b a) o (usable net b a (came a)) h
    (best_from net came b a (All-head (IsDevice net) a ds all)) in
    let more =
    best_folded net came b ds (λ c. P c ⊎ IsFrom net came b a c)
    (better_of net o (usable net b a (came a))) (All-tail (IsDevice net) a ds all) one in
    best_where net _ (λ c. P c ⊎ IsFromAny net came b (a ∷ ds) c) (one_more net came b a ds P)
    (one_less net came b a ds P) _ more

-- ---- the best of all candidates

to_candidate : (net : Network) (came : DeviceId → Option Route) (b : DeviceId) (p : Cidr)
    (c : Choice) → IsOwn net b p c ⊎ IsFromAny net came b (device_ids net) c
    → IsCandidate net came b p c
to_candidate net came b p c (inl h) = inl h
to_candidate net came b p c (inr h) = inr (learnt_from_any net came b (device_ids net) c h)

of_candidate : (net : Network) (came : DeviceId → Option Route) (b : DeviceId) (p : Cidr)
    (c : Choice) → IsCandidate net came b p c
    → IsOwn net b p c ⊎ IsFromAny net came b (device_ids net) c
of_candidate net came b p c (inl h) = inl h
of_candidate net came b p c (inr u) =
    inr (any_from_learnt net came b (device_ids net) c u (all_devices net u.sender u.is_device))

pub best_of_is_best : (net : Network) (came : DeviceId → Option Route) (b : DeviceId) (p : Cidr)
    → IsBest net came b p (best_of net came b p)
unfolding best_of
best_of_is_best net came b p =
    best_where net _ (IsCandidate net came b p) (to_candidate net came b p)
    (of_candidate net came b p) _
    (best_folded net came b (device_ids net) (IsOwn net b p) (own_choice net b p) (only_devices net)
    (best_own net b p))
