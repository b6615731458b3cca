-- The decision that the code makes is the best of the candidates.
use Rattle.std.proofs.Common.{◌≡◌, ℕ, ◌+◌, ◌<◌, true, false, cond, List, [], ◌∷◌, drop, get_or, length, map, Option, Some, None, sym, ap, ◌∙◌, add-one}
use Rattle.std.proofs.Math.Seq.{drop-cons}
use Rattle.std.specs.Prelude.{option_map, unwrap_or}
use Rattle.std.specs.List.{filter, find, fold}
use Rattle.std.specs.FinMap as fin
use Rattle.std.proofs.lemmas.List.Elements.{All-map}
use Rattle.cn_base.specs.Cidr.{Cidr}
use Rattle.cn_base.specs.declared.ids.Asn.{Asn}
use Rattle.cn_base.specs.declared.ids.DeviceId.{DeviceId}
use Rattle.cn_base.specs.declared.ids.Origin.{Origin}
use Rattle.cn_base.specs.declared.rank.Rank.{Rank}
use Rattle.cn_base.specs.declared.route.Choice.{Choice}
use Rattle.cn_base.specs.declared.route.Route.{Route}
use Rattle.cn_base.specs.declared.route.Attributes.{Attributes}
use Rattle.cn_decide.specs.Decide.{better, with_rank}
use Rattle.cn_decide.specs.declared.Ranked.{Ranked}
use Rattle.cn_decide.proofs.Steps.{better_by_none, on_item-better}
use Rattle.cn_lists.proofs.Finding.{None-from_is_some}
use Rattle.cn_rib.specs.Interned.{attributes_under}
use Rattle.cn_rib.specs.declared.interned.Interned.{Interned}
use Rattle.cn_rib.proofs.Keyed.{get_empty}
use Rattle.cn_net.specs.Candidates.{best_of, choice_from, rank_of, usable}
use Rattle.cn_net.specs.Exchange.{accept}
use Rattle.cn_net.specs.Network.{Network, IsDevice, device_ids, own_origin}
use Rattle.cn_net.specs.Sessions.{places_into}
use Rattle.cn_net.specs.declared.sessions.SessionEnds.{SessionEnds}
use Rattle.cn_net.proofs.Deciding as deciding
use Rattle.cn_net.proofs.Senders.{sender_at, senders_into}
use Rattle.cn_core.specs.declared.best.Best.{Best}
use Rattle.cn_core.specs.Learnt.{choice_with, has_session, learnt_choice}
use Rattle.cn_core.specs.Machine.{came_at, route_with}
use Rattle.cn_core.specs.Start.{ends, ends_of}
use Rattle.cn_core.specs.State.{CoreState, empty_session, is_session, session}
use Rattle.cn_core.specs.Stored.{choice_under}
use Rattle.cn_core.specs.Whole.{IsWhole}
use Rattle.cn_core.proofs.Access.{is_some-session, session-from_is_some}

-- ---- one more route

-- a route that came in from a, as it is held
abbrev pub best_from : DeviceId → Interned → Best
best_from a x = record { from = Some a; path = x.path; origin = x.origin }

usable_accepted : (net : Network) (d a : DeviceId) (r : Route) → accept net d a r ≡ true
    → usable net d a (Some r) ≡ Some (choice_from a r)
unfolding usable
usable_accepted net d a r e = ap (λ t. cond t (Some (choice_from a r)) None) e

usable_refused : (net : Network) (d a : DeviceId) (r : Route) → accept net d a r ≡ false
    → usable net d a (Some r) ≡ None
unfolding usable
usable_refused net d a r e = ap (λ t. cond t (Some (choice_from a r)) None) e

module _ (s : CoreState) (d : DeviceId) (p : Cidr) (a : DeviceId) where
  came_some : (x : Attributes) → Some x ≡ fin.get (session s a d).adj_rib_in p
      → Some (route_with p x) ≡ came_at s d p a
  unfolding came_at
  came_some x e = ap (option_map (route_with p)) e

  came_none : None ≡ fin.get (session s a d).adj_rib_in p → None ≡ came_at s d p a
  unfolding came_at
  came_none e = ap (option_map (route_with p)) e

  -- the best so far with what may be used of what came in
  abbrev pub with_came : Option (Ranked Choice) → Option (Ranked Choice)
  with_came best =
      better best
      (option_map (with_rank (rank_of s.now.net)) (usable s.now.net d a (came_at s d p a)))

  adds_nothing : (best : Option (Ranked Choice)) → usable s.now.net d a (came_at s d p a) ≡ None
      → best ≡ with_came best
  adds_nothing best e =
      sym (ap (λ o. better best (option_map (with_rank (rank_of s.now.net)) o)) e
      ∙ better_by_none (λ r. r.rank) best)

  -- where nothing came in
  pub better-came_none : (best : Option (Ranked Choice))
      → None ≡ fin.get (session s a d).adj_rib_in p
      → best ≡ with_came best
  better-came_none best e =
      adds_nothing best
      (ap (usable s.now.net d a) (sym (came_none e)) ∙ deciding.usable-none s.now.net d a)

  -- where what came in isn't accepted
  pub better-refused : (best : Option (Ranked Choice)) (x : Attributes)
      → Some x ≡ fin.get (session s a d).adj_rib_in p
      → accept s.now.net d a (route_with p x) ≡ false
      → best ≡ with_came best
  better-refused best x e f =
      adds_nothing best
      (ap (usable s.now.net d a) (sym (came_some x e))
      ∙ usable_refused s.now.net d a (route_with p x) f)

  -- where it is accepted
  pub better-accepted : (pool : List (List Asn)) (best more : Option (Ranked Best))
      (x : Interned) (rank : Rank)
      → Some (attributes_under pool x) ≡ fin.get (session s a d).adj_rib_in p
      → accept s.now.net d a (route_with p (attributes_under pool x)) ≡ true
      → rank ≡ rank_of s.now.net (choice_with a (attributes_under pool x))
      → more ≡ better best (Some (record { rank = rank; item = best_from a x }))
      → learnt_choice pool more ≡ with_came (learnt_choice pool best)
  better-accepted pool best more x rank e t r is =
      let here = attributes_under pool x in
      let next : Rank → Option (Ranked Choice) =
      λ q. Some (record { rank = q; item = choice_with a here }) in
      let used : usable s.now.net d a (came_at s d p a) ≡ Some (choice_with a here) =
      ap (usable s.now.net d a) (sym (came_some here e))
      ∙ usable_accepted s.now.net d a (route_with p here) t in
      ap (learnt_choice pool) is
      ∙ on_item-better (choice_under pool) best
      (Some (record { rank = rank; item = best_from a x }))
      ∙ ap (λ q. better (learnt_choice pool best) (next q)) r
      ∙ sym (ap (λ o. better (learnt_choice pool best)
      (option_map (with_rank (rank_of s.now.net)) o)) used)

-- ---- one after another

-- nothing came from a device from which there is no session
came_nowhere : (s : CoreState) (d : DeviceId) (p : Cidr) (a : DeviceId)
    → has_session s d a ≡ false → came_at s d p a ≡ None
unfolding came_at session
came_nowhere s d p a e =
    ap (λ o. option_map (route_with p) (fin.get (unwrap_or o (empty_session a d)).adj_rib_in p))
    (None-from_is_some (find (is_session a d) s.sessions) e)
    ∙ ap (option_map (route_with p)) (get_empty p)

-- the senders of the sessions into a device, in order
pub senders_are : (s : CoreState) → IsWhole s → (d : DeviceId)
    → map (sender_at (ends_of s.sessions)) (places_into (ends_of s.sessions) d)
    ≡ filter (has_session s d) (device_ids s.now.net)
senders_are s w d =
    senders_into (ends_of s.sessions) d s.now.net (has_session s d) w.ascending
    (All-map (λ (e : SessionEnds). IsDevice s.now.net e.from) ends s.sessions
    (λ k x lt. (w.within k x lt).0))
    (λ a. session-from_is_some a d s.sessions) (λ a. is_some-session a d s.sessions)

-- the route from one more sender
pub learnt_more : (s : CoreState) (d : DeviceId) (p : Cidr) (index : List SessionEnds)
    (places : List ℕ) (i : ℕ) (best next : Option (Ranked Choice)) (a : DeviceId)
    → i < length places → sender_at index (get_or places i 0) ≡ a → next ≡ with_came s d p a best
    → fold (λ x b. with_came s d p b x) next (map (sender_at index) (drop (i + 1) places))
    ≡ fold (λ x b. with_came s d p b x) best (map (sender_at index) (drop i places))
learnt_more s d p index places i best next a within sender is =
    let rest = map (sender_at index) (drop (i + 1) places) in
    let from_there : List ℕ → Option (Ranked Choice) =
    λ ks. fold (λ x b. with_came s d p b x) best (map (sender_at index) ks) in
    let more : drop i places ≡ get_or places i 0 ∷ drop (i + 1) places =
    rw add-one (drop-cons places i 0 within) in
    ap (λ x. fold (λ x b. with_came s d p b x) x rest)
    (is ∙ ap (λ b. with_came s d p b best) (sym sender))
    ∙ sym (ap from_there more)

-- an own route is decided
pub own_decided : (s : CoreState) (d : DeviceId) (p : Cidr) (o : Origin)
    → Some o ≡ own_origin s.now.net d p
    → Some (record { from = None; path = []; origin = o }) ≡ best_of s.now.net (came_at s d p) d p
own_decided s d p o e = deciding.own_decided s.now.net (came_at s d p) d p o e

-- else the best of what came in and is accepted
pub learnt_decided : (s : CoreState) (d : DeviceId) (p : Cidr) → None ≡ own_origin s.now.net d p
    → (pool : List (List Asn)) (best : Option (Ranked Best))
    → learnt_choice pool best
    ≡ fold (λ x a. with_came s d p a x) None (filter (has_session s d) (device_ids s.now.net))
    → option_map (λ (r : Ranked Choice). r.item) (learnt_choice pool best)
    ≡ best_of s.now.net (came_at s d p) d p
learnt_decided s d p e pool best is =
    deciding.learnt_among s.now.net (came_at s d p) d p (has_session s d) (came_nowhere s d p) e
    (learnt_choice pool best) is
