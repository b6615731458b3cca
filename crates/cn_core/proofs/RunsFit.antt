-- The numbers of a run fit: at the start where those of the opening do, and after every step.
use Rattle.std.proofs.Common.{◌≡◌, ℕ, ◌<◌, true, false, cond, List, [], ◌∷◌, length, get_or, Option, Some, None, Ok, refl, sym, ap, ◌∙◌, subst, inl, inr, arith, option_map}
use Rattle.std.specs.Prelude.{All, IsTrue, is_some, nat_lt}
use Rattle.std.specs.List.{find, fold, list_any}
use Rattle.std.specs.FinMap as fin
use Rattle.std.proofs.lemmas.Bool.{cases_lt}
use Rattle.std.proofs.lemmas.Bool.Decides.{nat_tests}
use Rattle.std.proofs.lemmas.List.{get_or_past}
use Rattle.std.proofs.lemmas.List.Elements.{All-head, All-map, All-nil, All-push, All-set, All-tail}
use Rattle.cn_base.specs.Cidr.{Cidr, same_prefix}
use Rattle.cn_base.specs.declared.ids.DeviceId.{DeviceId}
use Rattle.cn_base.specs.declared.route.Attributes.{Attributes}
use Rattle.cn_base.specs.declared.route.Choice.{Choice}
use Rattle.cn_base.specs.declared.route.Route.{Route}
use Rattle.cn_rib.specs.PrefixMaps.{put_at}
use Rattle.cn_rib.specs.Updates.{AdjRib, announce_all, apply_update, prefixes_of, said_of, withdraw_all}
use Rattle.cn_rib.proofs.Keyed.{get_empty, get_inserted}
use Rattle.cn_rib.proofs.PrefixMaps.{get-put_at}
use Rattle.cn_rib.proofs.Prefixes.{same_is}
use Rattle.cn_rib.proofs.Updates.{get_announced, get_withdrawn}
use Rattle.cn_net.specs.Candidates.{IsBestAmong, IsCandidate, best_of}
use Rattle.cn_net.specs.Islands.{holds_device, label_of}
use Rattle.cn_net.specs.Network.{Network, device_ids, router_of, same_device}
use Rattle.cn_net.proofs.Candidates.{best_of_is_best}
use Rattle.cn_record.specs.Recorded.{RecordedOpening}
use Rattle.cn_record.specs.Rows.{is_row, row_for}
use Rattle.cn_record.specs.Said.{island_originates, said, said_by}
use Rattle.cn_record.specs.declared.saved.Row.{Row}
use Rattle.cn_wire.specs.Reading.{update_of}
use Rattle.cn_wire.specs.Writing.{ArePrefixes, IsAttrs, IsPrefix, IsUpdate, fits, spelling}
use Rattle.cn_wire.specs.declared.update.Attrs.{Attrs}
use Rattle.cn_wire.specs.declared.update.Update.{Update}
use Rattle.cn_core.specs.declared.event.Event.TheVariants.{Receive, Decide, Send}
use Rattle.cn_core.specs.declared.event.Step.{Step}
use Rattle.cn_core.specs.declared.event.Step.TheVariants.{Work, Mark}
use Rattle.cn_core.specs.Fits.{Fits, FitsChoices, FitsPath, FitsRib, FitsRoutes, FitsRow, FitsSession, FitsState, IsSpelled}
use Rattle.cn_core.specs.Laws.{FitsLaw, IsReadBack}
use Rattle.cn_core.specs.Machine.{IsEnabled, IsRun, IsRunFrom, came_at, can, decide, decided, put_out, receive, route_with, state, step, take_in, taken_in, with_dirty, with_rib, with_session}
use Rattle.cn_core.specs.Owed.{message_by, owed_by}
use Rattle.cn_core.specs.Start.{emulated_rib, first_rib, first_ribs, rows_of, speaker_rib, start, with_choice}
use Rattle.cn_core.specs.State.{CoreState, LocRib, RibState, SessionState, empty_rib, empty_session, is_session, rib, session}
use Rattle.cn_core.proofs.Access.{all_at_first, all_session, and_parts}
use Rattle.cn_core.proofs.Fitting.{FitsOwed, any_is, message_fits, message_whole, owed_fits, own_fits, read_back, router_fits}
use Rattle.cn_core.proofs.Opened.{all_empty}
use Rattle.cn_core.proofs.Searches.{found_one, found_passes}

-- ---- an update, applied

withdrawn_fits : (m : AdjRib) (ps : List Cidr) → FitsRoutes m → FitsRoutes (withdraw_all m ps)
withdrawn_fits m ps fit p w e =
    elim (list_any (same_prefix p) ps) as (λ b. cond b None (fin.get m p) ≡ Some w
    → IsPrefix p × FitsPath w.path) [
      | true ↦ λ e. cc
      | false ↦ λ e. fit p w e
    ] (sym (get_withdrawn m ps p) ∙ e)

announced_fits : (m : AdjRib) (o : Option Attrs) (ps : List Cidr) → FitsRoutes m → IsAttrs o
    → ArePrefixes ps → FitsRoutes (announce_all m o ps)
announced_fits m None ps fit attrs prefixes p w e = fit p w e
announced_fits m (Some a) ps fit attrs prefixes p w e =
    elim (list_any (same_prefix p) ps) as (λ b. list_any (same_prefix p) ps ≡ b
    → cond b (Some (said_of a)) (fin.get m p) ≡ Some w → IsPrefix p × FitsPath w.path) [
      | true ↦ λ b e.
          let same : said_of a ≡ w = cc in (
            any_is IsPrefix ps p prefixes b,
            subst (λ (x : Attributes). FitsPath x.path) same
                (record { numbers = attrs.0; short = attrs.1 }),
          )
      | false ↦ λ b e. fit p w e
    ] refl (sym (get_announced m a ps p) ∙ e)

applied_fits : (m : AdjRib) (u : Update) → FitsRoutes m → IsUpdate u → FitsRoutes (apply_update m u)
unfolding apply_update
applied_fits m u fit whole =
    announced_fits (withdraw_all m u.withdrawn) u.attrs u.announced
    (withdrawn_fits m u.withdrawn fit) whole.attrs whole.announced

-- ---- what stands at a place

empty_fits : FitsRoutes fin.empty
empty_fits p w e = let none = get_empty {X = Attributes} p in cc

no_choices : FitsChoices fin.empty
no_choices p c e = let none = get_empty {X = Choice} p in cc

empty_session_fits : (a b : DeviceId) → FitsSession (empty_session a b)
empty_session_fits a b = record { out = empty_fits; came = empty_fits; spelled = All-nil IsSpelled }

with_rib_keeps : (s : CoreState) → FitsState s → (d : DeviceId) (x : RibState) → FitsRib x
    → FitsState (with_rib s d x)
unfolding with_rib
with_rib_keeps s fit d x is = record {
  net = fit.net;
  sessions = fit.sessions;
  ribs = All-set FitsRib s.ribs d.0 x is fit.ribs;
}

module _ (s : CoreState) (fit : FitsState s) where
  -- what a session has fits, and what a device has
  pub session_fits : (a b : DeviceId) → FitsSession (session s a b)
  session_fits a b = all_session FitsSession s a b fit.sessions (empty_session_fits a b)

  pub rib_fits : (d : DeviceId) → FitsRib (rib s d)
  unfolding rib
  rib_fits d = elim (cases_lt d.0 (length s.ribs)) [
    | inl in' ↦ fit.ribs d.0 empty_rib in'
    | inr out ↦
        subst FitsRib (sym (get_or_past s.ribs d.0 empty_rib out)) (record { held = no_choices })
  ]

  -- ---- a change in one place

  with_session_fits : (a b : DeviceId) (f : SessionState → SessionState)
      → ((x : SessionState) → FitsSession x → FitsSession (f x)) → FitsState (with_session s a b f)
  unfolding with_session
  with_session_fits a b f keeps = record {
    net = fit.net;
    sessions =
        all_at_first FitsSession (is_session a b) f s.sessions (λ x at is. keeps x is) fit.sessions;
    ribs = fit.ribs;
  }

  -- ---- what is sent

  abbrev net_now : Network
  net_now = s.now.net

  session_owed_fits : (x : SessionState) → FitsSession x → (p : Cidr) (v : Option Attributes)
      → fin.get (owed_by s x) p ≡ Some v → FitsOwed p v
  session_owed_fits x is p v e =
      owed_fits net_now x.from x.to x.adj_rib_out (rib s x.from).loc_rib fit.net is.out
      (rib_fits x.from).held p v e

  -- what is sent is an update
  pub message_is_whole : (x : SessionState) → FitsSession x → IsUpdate (message_by s x)
  unfolding message_by
  message_is_whole x is =
      message_whole (owed_by s x) (router_of net_now x.from).0
      (router_fits net_now x.from fit.net) (session_owed_fits x is)

  -- and it fits into a message
  pub message_is_held : (x : SessionState) → 0 < fin.len (owed_by s x)
      → fits (message_by s x) ≡ true
  unfolding message_by
  message_is_held x lt =
      message_fits net_now x.from x.to x.adj_rib_out (rib s x.from).loc_rib
      (router_of net_now x.from).0 lt

  pub owes_some : (a b : DeviceId) → IsTrue (can s (Send a b))
      → 0 < fin.len (owed_by s (session s a b))
  owes_some a b h =
      above _ (and_parts _ _ (and_parts (is_some (find (is_session a b) s.sessions)) _ h).1).0
    where
      above : (n : ℕ) → nat_lt 0 n ≡ true → 0 < n
      above n e = grind (arith, nat_tests)

  -- what is sent says an update that fits into a message, so it may be written
  pub sent_whole : (a b : DeviceId) → IsUpdate (message_by s (session s a b))
  sent_whole a b = message_is_whole (session s a b) (session_fits a b)

  pub sent_held : (a b : DeviceId) → IsTrue (can s (Send a b))
      → fits (message_by s (session s a b)) ≡ true
  sent_held a b h = message_is_held (session s a b) (owes_some a b h)

  -- and it is read back
  pub sent_reads : (a b : DeviceId) → IsTrue (can s (Send a b))
      → IsReadBack (message_by s (session s a b))
  sent_reads a b h =
      read_back (message_by s (session s a b)) (sent_whole a b) (sent_held a b h)

  put_out_fits : (u : Update) (x : SessionState) → IsUpdate u → fits u ≡ true → FitsSession x
      → FitsSession (put_out u x)
  put_out_fits u x whole held is =
      let new : IsSpelled (spelling u) =
      record { update = u; is = refl; whole = whole; held = held } in
      record {
        out = applied_fits x.adj_rib_out u is.out whole;
        came = is.came;
        spelled = All-push IsSpelled x.mail (spelling u) is.spelled new;
      }

  sent_fits : (a b : DeviceId) → IsTrue (can s (Send a b))
      → FitsState (with_session s a b (put_out (message_by s (session s a b))))
  sent_fits a b h =
      let u = message_by s (session s a b) in
      with_session_fits a b (put_out u)
      (λ y is. put_out_fits u y (sent_whole a b) (sent_held a b h) is)

  -- ---- what is received

  -- the first message of a mailbox is the spelling of an update that fits
  pub first_spelled : (a b : DeviceId) (octets : List ℕ) (rest : List (List ℕ))
      → (session s a b).mail ≡ octets ∷ rest → IsSpelled octets
  first_spelled a b octets rest e =
      All-head IsSpelled octets rest (subst (All IsSpelled) e (session_fits a b).spelled)

  pub received_reads : (a b : DeviceId) (octets : List ℕ) (rest : List (List ℕ))
      → (session s a b).mail ≡ octets ∷ rest
      → (u : Update) × (update_of octets ≡ Ok u) × (octets ≡ spelling u)
  received_reads a b octets rest e =
      let is = first_spelled a b octets rest e in
      (is.update, ap update_of is.is ∙ read_back is.update is.whole is.held, is.is)

  mail_rest : (a b : DeviceId) (octets : List ℕ) (rest : List (List ℕ))
      → (session s a b).mail ≡ octets ∷ rest → All IsSpelled rest
  mail_rest a b octets rest e =
      All-tail IsSpelled octets rest (subst (All IsSpelled) e (session_fits a b).spelled)

  taken_in_fits : (u : Update) (rest : List (List ℕ)) (x : SessionState) → IsUpdate u
      → All IsSpelled rest → FitsSession x → FitsSession (taken_in u rest x)
  taken_in_fits u rest x whole left is =
      record { out = is.out; came = applied_fits x.adj_rib_in u is.came whole; spelled = left }

  take_in_fits : (a b : DeviceId) (u : Update) (rest : List (List ℕ)) → IsUpdate u
      → All IsSpelled rest → FitsState (take_in s a b rest (Ok u))
  take_in_fits a b u rest whole left =
      with_rib_keeps (with_session s a b (taken_in u rest))
      (with_session_fits a b (taken_in u rest) (λ y is. taken_in_fits u rest y whole left is))
      b (with_dirty (rib s b) (prefixes_of u)) (record { held = (rib_fits b).held })

  receive_fits : (a b : DeviceId) (ms : List (List ℕ)) → (session s a b).mail ≡ ms
      → FitsState (receive s a b ms)
  receive_fits a b [] e = fit
  receive_fits a b (octets ∷ rest) e =
      let is = first_spelled a b octets rest e in
      let read : update_of octets ≡ Ok is.update =
      ap update_of is.is ∙ read_back is.update is.whole is.held in
      subst (λ r. FitsState (take_in s a b rest r)) (sym read)
      (take_in_fits a b is.update rest is.whole (mail_rest a b octets rest e))

  -- ---- what is decided

  came_fits : (d : DeviceId) (p : Cidr) (a : DeviceId) (route : Route)
      → came_at s d p a ≡ Some route → IsPrefix p × FitsPath route.path
  unfolding came_at
  came_fits d p a route e =
      elim (fin.get (session s a d).adj_rib_in p) as
      (λ o. fin.get (session s a d).adj_rib_in p ≡ o → option_map (route_with p) o ≡ Some route
      → IsPrefix p × FitsPath route.path) [
        | None ↦ λ o e. cc
        | Some w ↦ λ o e.
            let same : route_with p w ≡ route = cc in
            let is = (session_fits a d).came p w o in
            (is.0, subst (λ (x : Route). FitsPath x.path) same is.1)
      ] refl e

  candidate_fits : (d : DeviceId) (p : Cidr) (c : Choice)
      → IsCandidate net_now (came_at s d p) d p c → IsPrefix p × FitsPath c.path
  candidate_fits d p c (inl own) = (
    own_fits net_now d p c.origin fit.net own.own,
    subst FitsPath (sym own.empty) (record { numbers = tt; short = omega arith }),
  )
  candidate_fits d p c (inr learnt) =
      let is = came_fits d p learnt.sender learnt.route learnt.came_in in
      (is.0, subst (λ (x : Choice). FitsPath x.path) (sym learnt.is) is.1)

  best_fits : (d : DeviceId) (p : Cidr) (c : Choice) → best_of net_now (came_at s d p) d p ≡ Some c
      → IsPrefix p × FitsPath c.path
  best_fits d p c e =
      let is : IsBestAmong net_now (IsCandidate net_now (came_at s d p) d p) (Some c) =
      subst (IsBestAmong net_now (IsCandidate net_now (came_at s d p) d p)) e
      (best_of_is_best net_now (came_at s d p) d p) in
      candidate_fits d p c is.0

  chosen_fits : (m : LocRib) (p : Cidr) (o : Option Choice) → FitsChoices m
      → ((c : Choice) → o ≡ Some c → IsPrefix p × FitsPath c.path) → FitsChoices (put_at m p o)
  chosen_fits m p o is new q c e =
      elim (same_prefix q p) as (λ b. same_prefix q p ≡ b → cond b o (fin.get m q) ≡ Some c
      → IsPrefix q × FitsPath c.path) [
        | true ↦ λ b e. let n = new c e in (subst IsPrefix (sym (same_is q p b)) n.0, n.1)
        | false ↦ λ b e. is q c e
      ] refl (sym (get-put_at m p o q) ∙ e)

  decide_fits : (d : DeviceId) (p : Cidr) → FitsState (decide s d p)
  decide_fits d p =
      let best = best_of net_now (came_at s d p) d p in
      with_rib_keeps s fit d (decided (rib s d) p best)
      (record { held = chosen_fits (rib s d).loc_rib p best (rib_fits d).held (best_fits d p) })

-- ---- steps

pub step_fits : (s : CoreState) (e : Step) → FitsState s → IsEnabled s e → FitsState (step s e)
step_fits s (Work (Receive a b)) fit h = receive_fits s fit a b (session s a b).mail refl
step_fits s (Work (Decide d p)) fit h = decide_fits s fit d p
step_fits s (Work (Send a b)) fit h = sent_fits s fit a b h
step_fits s (Mark k) fit h = fit

run_from_fits : (s : CoreState) (h : List Step) → FitsState s → IsRunFrom s h
    → FitsState (fold step s h)
run_from_fits s [] fit run = fit
run_from_fits s (e ∷ es) fit run = run_from_fits (step s e) es (step_fits s e fit run.0) run.1

-- ---- the start

row_fits : (rows : List Row) (d : DeviceId) (p : Cidr) (c : Choice) → All FitsRow rows
    → row_for rows d p ≡ Some c → IsPrefix p × FitsPath c.path
row_fits rows d p c all e =
    elim (find (is_row d p) rows) as (λ o. find (is_row d p) rows ≡ o
    → option_map (λ (x : Row). x.choice) o ≡ Some c → IsPrefix p × FitsPath c.path) [
      | None ↦ λ o e. cc
      | Some x ↦ λ o e.
          let same : x.choice ≡ c = cc in
          let is = found_one FitsRow (is_row d p) rows x all o in
          let at =
          (and_parts (same_device x.device d) (same_prefix x.prefix p)
          (found_passes (is_row d p) rows x o)).1 in (
            subst IsPrefix (same_is x.prefix p at) is.prefix,
            subst (λ (y : Choice). FitsPath y.path) same is.path,
          )
    ] refl e

module _ (r : RecordedOpening) (fit : Fits r) where
  said_fits : (d : DeviceId) (p : Cidr) (c : Choice) → said_by r.opening r.rows d p ≡ Some c
      → IsPrefix p × FitsPath c.path
  unfolding said
  said_fits d p c e =
      elim (island_originates r.opening.net (label_of r.opening.labels) d p) as
      (λ b. cond b (row_for r.rows d p) None ≡ Some c → IsPrefix p × FitsPath c.path) [
        | true ↦ λ e. row_fits r.rows d p c fit.rows e
        | false ↦ λ e. cc
      ] e

  with_choice_fits : (m : LocRib) (p : Cidr) (o : Option Choice) → FitsChoices m
      → ((c : Choice) → o ≡ Some c → IsPrefix p × FitsPath c.path) → FitsChoices (with_choice m p o)
  with_choice_fits m p None is new q c e = is q c e
  with_choice_fits m p (Some x) is new q c e =
      elim (same_prefix q p) as (λ b. same_prefix q p ≡ b → cond b (Some x) (fin.get m q) ≡ Some c
      → IsPrefix q × FitsPath c.path) [
        | true ↦ λ b e. let n = new c e in (subst IsPrefix (sym (same_is q p b)) n.0, n.1)
        | false ↦ λ b e. is q c e
      ] refl (sym (get_inserted m p x q) ∙ e)

  said_rows_fit : (d : DeviceId) (xs : List Row) (m : LocRib) → FitsChoices m
      → FitsChoices (fold
      (λ best (x : Row). with_choice best x.prefix (said_by r.opening r.rows d x.prefix)) m xs)
  said_rows_fit d [] m is = is
  said_rows_fit d (x ∷ xs) m is =
      said_rows_fit d xs (with_choice m x.prefix (said_by r.opening r.rows d x.prefix))
      (with_choice_fits m x.prefix (said_by r.opening r.rows d x.prefix) is (said_fits d x.prefix))

  first_rib_fits : (d : DeviceId) → FitsRib (first_rib r d)
  first_rib_fits d =
      elim (holds_device r.opening.emulated d) as
      (λ b. FitsRib (cond b (emulated_rib r.opening d) (speaker_rib r d))) [
        | true ↦ record { held = no_choices }
        | false ↦ record { held = said_rows_fit d (rows_of r.rows d) fin.empty no_choices }
      ]

  pub start_fits : FitsState (start r)
  unfolding start first_ribs
  start_fits = record {
    net = fit.net;
    sessions = all_empty FitsSession empty_session_fits r.opening;
    ribs =
        All-map FitsRib (first_rib r) (device_ids r.opening.net)
        (λ k d lt. first_rib_fits (get_or (device_ids r.opening.net) k d));
  }

  pub run_fits : (h : List Step) → IsRun r h → FitsState (state r h)
  unfolding IsRun state
  run_fits h run = run_from_fits (start r) h start_fits run

pub fits_holds : FitsLaw
fits_holds = record {
  sent = λ s a b fit h. sent_reads s fit a b h;
  received = λ s a b octets rest fit e. received_reads s fit a b octets rest e;
}
