-- The state at the start.
use Rattle.std.proofs.Common.{◌≡◌, ℕ, ◌<◌, ◌≤◌, Bool, true, false, cond, List, [], ◌∷◌, length, get_or, map, Option, Some, None, refl, sym, ap, ◌∙◌, subst, inl, inr, arith}
use Rattle.std.specs.Prelude.{◌||◌, ◌&&◌, All, is_some, nat_lt, option_and_then, option_map, unwrap_or}
use Rattle.std.specs.List.{find, fold, list_any}
use Rattle.std.specs.FinMap as fin
use Rattle.std.proofs.lemmas.Bool.{cases_lt}
use Rattle.std.proofs.lemmas.Bool.Decides.{nat_tests}
use Rattle.std.proofs.lemmas.List.{get_or-map, get_or_past, length-map}
use Rattle.std.proofs.lemmas.List.Elements.{All-map}
use Rattle.std.proofs.lemmas.List.FromFn.{get_or-map-range_with_len, length-range_with_len}
use Rattle.std.proofs.lemmas.Option.{slice_get_past}
use Rattle.cn_base.specs.Cidr.{Cidr, same_prefix}
use Rattle.cn_base.specs.declared.ids.DeviceId.{DeviceId}
use Rattle.cn_base.specs.declared.ids.Origin.{Origin}
use Rattle.cn_base.specs.declared.route.Choice.{Choice}
use Rattle.cn_rib.specs.PrefixSet as prefixes
use Rattle.cn_rib.proofs.Keyed.{contains-empty, contains-insert_all, get_empty}
use Rattle.cn_rib.proofs.Prefixes.{same_flip}
use Rattle.cn_net.specs.Candidates.{best_of, better_of, own_choice, usable}
use Rattle.cn_net.specs.Islands.{holds_device, label_of}
use Rattle.cn_net.specs.Network.{Network, device_ids, device_of, own_of, own_origin}
use Rattle.cn_net.specs.Opening.{Opening}
use Rattle.cn_net.specs.Sessions.{session_ends}
use Rattle.cn_net.specs.declared.sessions.SessionEnds.{SessionEnds}
use Rattle.cn_record.specs.Recorded.{RecordedOpening}
use Rattle.cn_record.specs.Said.{is_one_island, island_originates}
use Rattle.cn_net.specs.declared.device.Device.{Device}
use Rattle.cn_net.specs.declared.device.Own.{Own}
use Rattle.cn_core.specs.Laws.{CleanIsDecided, IsKept, IsSpeaking, SpeakersSay, held_in}
use Rattle.cn_core.specs.Machine.{came_at, route_with}
use Rattle.cn_core.specs.Start.{emulated_rib, ends_of, first_rib, first_ribs, first_sessions, own_prefixes, speaker_rib, start}
use Rattle.cn_core.specs.State.{RibState, SessionState, empty_rib, empty_session, is_session, rib, session}
use Rattle.cn_core.proofs.Access.{ends_of-empty, found_has}
use Rattle.cn_core.proofs.Speaking.{beyond_says_nothing, speaker_says}

-- ---- the sessions are empty

-- a fact of every empty session
pub all_empty : (P : SessionState → Type 0) → ((a b : DeviceId) → P (empty_session a b))
    → (o : Opening)
    → All P (first_sessions o)
unfolding first_sessions
all_empty P p o =
    let es = session_ends o.net o.emulated in
    All-map P (λ (e : SessionEnds). empty_session e.from e.to) es
    (λ k d lt. p (get_or es k d).from (get_or es k d).to)

-- the sessions at the start have the ends of all sessions
first_ends : (o : Opening) → ends_of (first_sessions o) ≡ session_ends o.net o.emulated
unfolding first_sessions
first_ends o = ends_of-empty (session_ends o.net o.emulated)

nothing_came : (r : RecordedOpening) (d : DeviceId) (q : Cidr) → came_at (start r) d q ≡ (λ a. None)
unfolding came_at session start
nothing_came r d q = λ i a. at_each a i
  where
    o : Opening
    o = r.opening

    at_each : (a : DeviceId)
        → option_map (route_with q)
        (fin.get (unwrap_or (find (is_session a d) (first_sessions o))
        (empty_session a d)).adj_rib_in q)
        ≡ None
    at_each a =
        elim (find (is_session a d) (first_sessions o)) as (λ x. find (is_session a d)
        (first_sessions o)
        ≡ x
        → option_map (route_with q) (fin.get (unwrap_or x (empty_session a d)).adj_rib_in q)
        ≡ None) [
          | None ↦ λ e. ap (option_map (route_with q)) (get_empty q)
          | Some x ↦
              λ e. ap (option_map (route_with q))
              (found_has (λ (y : SessionState). fin.get y.adj_rib_in q ≡ None) (is_session a d)
              (first_sessions o)
              x (all_empty (λ (y : SessionState). fin.get y.adj_rib_in q ≡ None)
              (λ a b. get_empty q) o) e).0
        ] refl

-- ---- with nothing that came in, the own route is the best

pub better_of_none : (net : Network) (x : Option Choice) → better_of net x None ≡ x
better_of_none net None = refl
better_of_none net (Some x) = refl

pub none_usable : (net : Network) (b a : DeviceId) → usable net b a None ≡ None
unfolding usable
none_usable net b a = refl

fold_none : (net : Network) (b : DeviceId) (ds : List DeviceId) (x : Option Choice)
    → fold (λ best a. better_of net best (usable net b a None)) x ds ≡ x
fold_none net b [] x = refl
fold_none net b (a ∷ ds) x =
    ap (λ z. fold (λ best c. better_of net best (usable net b c None)) z ds)
    (ap (better_of net x) (none_usable net b a) ∙ better_of_none net x)
    ∙ fold_none net b ds x

only_own : (net : Network) (b : DeviceId) (p : Cidr)
    → best_of net (λ a. None) b p ≡ own_choice net b p
unfolding best_of
only_own net b p = fold_none net b (device_ids net) (own_choice net b p)

no_own : (net : Network) (b : DeviceId) (p : Cidr) → own_origin net b p ≡ None
    → own_choice net b p ≡ None
unfolding own_choice
no_own net b p e = ap (option_map (λ (o : Origin). record { from = None; path = []; origin = o })) e

-- ---- what the devices hold

number_at : (net : Network) (d : DeviceId) (x : DeviceId) → d.0 < length net.devices
    → get_or (device_ids net) d.0 x ≡ d
unfolding device_ids
number_at net d x h =
    get_or-map-range_with_len (λ i. record { 0 = i }) 0 (length net.devices) d.0 d.0 x h
    (omega arith)

pub count_ids : (net : Network) → length (device_ids net) ≡ length net.devices
unfolding device_ids
count_ids net = rw (length-map, length-range_with_len) refl

pub count_ribs : (r : RecordedOpening) → length (first_ribs r) ≡ length r.opening.net.devices
unfolding first_ribs
count_ribs r = length-map (device_ids r.opening.net) (first_rib r) ∙ count_ids r.opening.net

rib_at : (r : RecordedOpening) (d : DeviceId) → d.0 < length r.opening.net.devices
    → rib (start r) d ≡ first_rib r d
unfolding rib start first_ribs
rib_at r d h =
    let within : d.0 < length (device_ids r.opening.net) = rw (count_ids r.opening.net) h in
    get_or-map (first_rib r) (device_ids r.opening.net) d.0 d empty_rib within
    ∙ ap (first_rib r) (number_at r.opening.net d d h)

rib_beyond : (r : RecordedOpening) (d : DeviceId) → length r.opening.net.devices ≤ d.0
    → rib (start r) d ≡ empty_rib
unfolding rib start
rib_beyond r d h = get_or_past (first_ribs r) d.0 empty_rib (rw (count_ribs r) h)

-- what a device has that is emulated, and one that isn't
emulated_at : (r : RecordedOpening) (d : DeviceId) → d.0 < length r.opening.net.devices
    → holds_device r.opening.emulated d ≡ true → rib (start r) d ≡ emulated_rib r.opening d
emulated_at r d in' e =
    rib_at r d in' ∙ ap (λ b. cond b (emulated_rib r.opening d) (speaker_rib r d)) e

speaker_at : (r : RecordedOpening) (d : DeviceId) → d.0 < length r.opening.net.devices
    → holds_device r.opening.emulated d ≡ false → rib (start r) d ≡ speaker_rib r d
speaker_at r d in' e =
    rib_at r d in' ∙ ap (λ b. cond b (emulated_rib r.opening d) (speaker_rib r d)) e

own_clean : (os : List Own) (q : Cidr) → list_any (same_prefix q) (map (λ o. o.prefix) os) ≡ false
    → find (λ o. same_prefix o.prefix q) os ≡ None
own_clean [] q e = refl
own_clean (o ∷ os) q e =
    elim (same_prefix q o.prefix) as (λ t. same_prefix q o.prefix ≡ t
    → (t || list_any (same_prefix q) (map (λ o. o.prefix) os)) ≡ false
    → find (λ o. same_prefix o.prefix q) (o ∷ os) ≡ None) [
      | true ↦ λ t e. cc
      | false ↦
          λ t e. ap (λ b. cond b (Some o) (find (λ o. same_prefix o.prefix q) os))
          (same_flip o.prefix q ∙ t)
          ∙ own_clean os q e
    ] refl e

device_clean : (x : Option Device) (q : Cidr)
    → list_any (same_prefix q) (unwrap_or (option_map (λ x. map (λ o. o.prefix) x.body.own) x) [])
    ≡ false
    → option_and_then (λ x. own_of x.body q) x ≡ None
device_clean None q e = refl
device_clean (Some x) q e = ap (option_map (λ (o : Own). o.origin)) (own_clean x.body.own q e)

or_false : (b : Bool) → (b || false) ≡ b
or_false true = refl
or_false false = refl

own_dirty : (net : Network) (d : DeviceId) (q : Cidr)
    → prefixes.contains (prefixes.insert_all prefixes.empty (own_prefixes net d)) q
    ≡ list_any (same_prefix q) (own_prefixes net d)
own_dirty net d q =
    contains-insert_all prefixes.empty (own_prefixes net d) q
    ∙ ap (λ b. list_any (same_prefix q) (own_prefixes net d) || b) (contains-empty q)
    ∙ or_false (list_any (same_prefix q) (own_prefixes net d))

clean_has_no_own : (r : RecordedOpening) (d : DeviceId) (q : Cidr)
    → holds_device r.opening.emulated d ≡ true → prefixes.contains (rib (start r) d).dirty q ≡ false
    → own_origin r.opening.net d q ≡ None
clean_has_no_own r d q e c =
    elim (cases_lt d.0 (length r.opening.net.devices)) [
      | inl in' ↦
          device_clean (device_of r.opening.net d) q
          (sym (own_dirty r.opening.net d q)
          ∙ ap (λ (x : RibState). prefixes.contains x.dirty q) (sym (emulated_at r d in' e)) ∙ c)
      | inr out ↦
          ap (option_and_then (λ (x : Device). own_of x.body q))
          (slice_get_past r.opening.net.devices d.0 out)
    ]

nothing_held : (r : RecordedOpening) (d : DeviceId) (q : Cidr)
    → holds_device r.opening.emulated d ≡ true → held_in (start r) d q ≡ None
nothing_held r d q e =
    elim (cases_lt d.0 (length r.opening.net.devices)) [
      | inl in' ↦ ap (λ (x : RibState). fin.get x.loc_rib q) (emulated_at r d in' e) ∙ get_empty q
      | inr out ↦ ap (λ (x : RibState). fin.get x.loc_rib q) (rib_beyond r d out) ∙ get_empty q
    ]

net_at_start : (r : RecordedOpening) → (start r).now.net ≡ r.opening.net
unfolding start
net_at_start r = refl

decided_at_start : (r : RecordedOpening) → CleanIsDecided r.opening (start r)
decided_at_start r d q e c =
    let net = r.opening.net in
    nothing_held r d q e
    ∙ sym (ap (λ n. best_of n (came_at (start r) d q) d q) (net_at_start r)
    ∙ ap (λ f. best_of net f d q) (nothing_came r d q) ∙ only_own net d q
    ∙ no_own net d q (clean_has_no_own r d q e c))

-- ---- the speakers

past : (i n : ℕ) → n ≤ i → nat_lt i n ≡ false
past i n h = grind (arith, nat_tests)

not_a_device : (r : RecordedOpening) (d : DeviceId) (p : Cidr) → length r.opening.net.devices ≤ d.0
    → island_originates r.opening.net (label_of r.opening.labels) d p ≡ false
unfolding island_originates
not_a_device r d p out =
    ap (λ b. b && list_any
    (λ x. is_one_island (label_of r.opening.labels) d x && is_some (own_origin r.opening.net x p))
    (device_ids r.opening.net)) (past d.0 (length r.opening.net.devices) out)

speaks_at_start : (r : RecordedOpening) → SpeakersSay r (start r)
speaks_at_start r d e =
    elim (cases_lt d.0 (length r.opening.net.devices)) [
      | inl in' ↦
          subst (IsSpeaking r d) (sym (speaker_at r d in' e))
          (record { says = speaker_says r d; clean = refl })
      | inr out ↦
          subst (IsSpeaking r d) (sym (rib_beyond r d out)) (record {
            says = λ p. get_empty p ∙ sym (beyond_says_nothing r d p (not_a_device r d p out));
            clean = refl;
          })
    ]

pub kept_start : (r : RecordedOpening) → IsKept r (start r)
unfolding start
kept_start r = record {
  now = refl;
  ends = first_ends r.opening;
  ribs = count_ribs r;
  few = all_empty (λ x. length x.mail ≤ 64) (λ a b. omega arith) r.opening;
  decided = decided_at_start r;
  speakers = speaks_at_start r;
}
