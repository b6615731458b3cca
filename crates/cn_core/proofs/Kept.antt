-- What every step keeps.
use Rattle.std.proofs.Common.{◌≡◌, ◌≢◌, ℕ, ◌<◌, ◌≤◌, true, false, cond, not, List, [], ◌∷◌, length, Option, Some, None, Result, Ok, Err, refl, sym, ap, ◌∙◌, subst, inl, inr, arith, true≢false}
use Rattle.std.specs.Prelude.{◌&&◌, ◌⊎◌, All, IsTrue, unwrap_or}
use Rattle.std.specs.List.{find, fold}
use Rattle.std.specs.FinMap as fin
use Rattle.std.proofs.lemmas.Bool.{cases_lt}
use Rattle.std.proofs.lemmas.Bool.Decides.{nat_tests}
use Rattle.std.proofs.lemmas.List.{length-append, length-set}
use Rattle.cn_base.specs.Cidr.{Cidr}
use Rattle.cn_base.specs.declared.ids.DeviceId.{DeviceId}
use Rattle.cn_base.specs.declared.route.Choice.{Choice}
use Rattle.cn_rib.specs.PrefixMaps.{put_at}
use Rattle.cn_rib.specs.PrefixSet as prefixes
use Rattle.cn_rib.proofs.Keyed.{contains-empty, contains-remove, not_inserted_all}
use Rattle.cn_rib.specs.Updates.{prefixes_of}
use Rattle.cn_rib.proofs.Updates.{applied_elsewhere}
use Rattle.cn_wire.specs.Reading.{update_of}
use Rattle.cn_wire.specs.declared.fault.WireFault.{WireFault}
use Rattle.cn_wire.specs.declared.update.Update.{Update}
use Rattle.cn_rib.proofs.PrefixMaps.{get-put_at}
use Rattle.cn_rib.proofs.Prefixes.{same_tells}
use Rattle.cn_net.specs.Candidates.{best_of}
use Rattle.cn_net.specs.Islands.{holds_device}
use Rattle.cn_net.specs.Network.{IsDevice, same_device}
use Rattle.cn_net.specs.Opening.{Opening}
use Rattle.cn_net.specs.Sessions.{session_ends}
use Rattle.cn_net.specs.declared.sessions.SessionEnds.{SessionEnds}
use Rattle.cn_net.proofs.Keys.{same_device-Decides}
use Rattle.cn_net.proofs.SessionOrder.{receivers_emulated, receivers_within, senders_within}
use Rattle.cn_record.specs.Recorded.{RecordedOpening}
use Rattle.cn_core.specs.declared.event.Event.TheVariants.{Receive, Decide, Send}
use Rattle.cn_core.specs.declared.event.Step.{Step}
use Rattle.cn_core.specs.declared.event.Step.TheVariants.{Work, Mark}
use Rattle.cn_core.specs.Laws.{CleanIsDecided, IsKept, IsSpeaking, RunLaw, SpeakersSay, held_in}
use Rattle.cn_core.specs.Machine.{IsEnabled, IsRun, IsRunFrom, came_at, can, decide, put_out, receive, state, step, take_in, taken_in, with_dirty, with_rib, with_session}
use Rattle.cn_core.specs.Owed.{message_by}
use Rattle.cn_core.specs.Start.{ends_of, start}
use Rattle.cn_core.specs.State.{CoreState, RibState, SessionState, empty_session, is_session, rib, session}
use Rattle.cn_core.proofs.Access.{KeepsEnds, all_by_ends, all_session, all_sessions, came_kept, came_of_rib, ends_are, ends_kept, found_has, found_is, rib_of_session, rib_other, rib_past, rib_same}
use Rattle.cn_core.proofs.Opened.{kept_start}
use Rattle.cn_core.proofs.Transit.{run_carries}

-- ---- a receive and a send keep the ends of a session

taken_ends : (u : Update) (rest : List (List ℕ)) → KeepsEnds (taken_in u rest)
taken_ends u rest = record { from = λ x. refl; to = λ x. refl }

put_out_ends : (u : Update) → KeepsEnds (put_out u)
put_out_ends u = record { from = λ x. refl; to = λ x. refl }

-- ---- all that is kept but what is decided and what speakers say

record IsSound (o : Opening) (s : CoreState) : Type 0 where
  now : s.now ≡ o
  ends : ends_of s.sessions ≡ session_ends o.net o.emulated
  ribs : length s.ribs ≡ length o.net.devices
  few : All (λ x. length x.mail ≤ 64) s.sessions

sound_of : (r : RecordedOpening) (s : CoreState) → IsKept r s → IsSound r.opening s
sound_of r s k =
    record { now = k.now; ends = k.ends; ribs = k.ribs; few = k.few }

kept_of : (r : RecordedOpening) (s : CoreState) → IsSound r.opening s → CleanIsDecided r.opening s
    → SpeakersSay r s → IsKept r s
kept_of r s k d say = record {
  now = k.now;
  ends = k.ends;
  ribs = k.ribs;
  few = k.few;
  decided = d;
  speakers = say;
}

sound_session : (o : Opening) (s : CoreState) → IsSound o s
    → (a b : DeviceId) (f : SessionState → SessionState) → KeepsEnds f
    → ((y : SessionState) → session s a b ≡ y → length y.mail ≤ 64 → length (f y).mail ≤ 64)
    → IsSound o (with_session s a b f)
unfolding with_session
sound_session o s k a b f ends few = record {
  now = k.now;
  ends = ends_kept (is_session a b) f ends s.sessions ∙ k.ends;
  ribs = k.ribs;
  few = all_sessions (λ y. length y.mail ≤ 64) s a b f few k.few;
}

sound_rib : (o : Opening) (s : CoreState) → IsSound o s → (d : DeviceId) (x : RibState)
    → IsSound o (with_rib s d x)
unfolding with_rib
sound_rib o s k d x = record {
  now = k.now;
  ends = k.ends;
  ribs = length-set s.ribs d.0 x ∙ k.ribs;
  few = k.few;
}

-- ---- the ends of the sessions are devices

pub within : (o : Opening) (s : CoreState)
    → ends_of s.sessions ≡ session_ends o.net o.emulated
    → All (λ x. IsDevice o.net x.from × IsDevice o.net x.to) s.sessions
within o s e =
    let P : SessionEnds → Type 0 = λ z. IsDevice o.net z.from × IsDevice o.net z.to in
    all_by_ends P s.sessions (subst (All P) (sym e) (λ k z lt. (
      senders_within o.net o.emulated k z lt,
      receivers_within o.net o.emulated k z lt,
    )))

-- a session that has mail stands in the list
has_session : (a b : DeviceId) (s : CoreState) (octets : List ℕ) (rest : List (List ℕ))
    → (session s a b).mail ≡ octets ∷ rest
    → (x : SessionState) × (find (is_session a b) s.sessions ≡ Some x)
unfolding session
has_session a b s octets rest e =
    elim (find (is_session a b) s.sessions) as
    (λ o. (unwrap_or o (empty_session a b)).mail ≡ octets ∷ rest
    → (x : SessionState) × (o ≡ Some x)) [
      | None ↦ λ e. cc
      | Some x ↦ λ e. (x, refl)
    ] e

receiver_in_range : (r : RecordedOpening) (s : CoreState) → IsKept r s
    → (a b : DeviceId) (octets : List ℕ) (rest : List (List ℕ))
    → (session s a b).mail ≡ octets ∷ rest
    → b.0 < length s.ribs
receiver_in_range r s k a b octets rest e =
    let net = r.opening.net in
    let got = has_session a b s octets rest e in
    let facts =
    found_has (λ x. IsDevice net x.from × IsDevice net x.to) (is_session a b) s.sessions got.0
    (within r.opening s k.ends) got.1 in
    subst (λ l. b.0 < l) (sym k.ribs)
    (subst (λ (z : DeviceId). z.0 < length net.devices) (ends_are a b got.0 facts.1).1 facts.0.1)

into_emulated : (o : Opening) (s : CoreState)
    → ends_of s.sessions ≡ session_ends o.net o.emulated
    → All (λ x. holds_device o.emulated x.to ≡ true) s.sessions
into_emulated o s e =
    let P : SessionEnds → Type 0 = λ z. holds_device o.emulated z.to ≡ true in
    all_by_ends P s.sessions (subst (All P) (sym e) (receivers_emulated o.net o.emulated))

-- no mail stands before a device that isn't emulated
receiver_emulated : (r : RecordedOpening) (s : CoreState) → IsKept r s
    → (a b : DeviceId) (octets : List ℕ) (rest : List (List ℕ))
    → (session s a b).mail ≡ octets ∷ rest
    → holds_device r.opening.emulated b ≡ true
receiver_emulated r s k a b octets rest e =
    let got = has_session a b s octets rest e in
    let facts =
    found_has (λ x. holds_device r.opening.emulated x.to ≡ true) (is_session a b) s.sessions got.0
    (into_emulated r.opening s k.ends) got.1 in
    subst (λ (z : DeviceId). holds_device r.opening.emulated z ≡ true)
    (ends_are a b got.0 facts.1).1 facts.0

-- ---- a mailbox holds at most 64 messages

pub few_mail : (r : RecordedOpening) (s : CoreState) → IsKept r s → (a b : DeviceId)
    → length (session s a b).mail ≤ 64
few_mail r s k a b = all_session (λ x. length x.mail ≤ 64) s a b k.few (omega arith)

-- ---- what is clean is decided

pub device_tells : (d e : DeviceId) → (d ≡ e) ⊎ (d ≢ e)
device_tells d e = elim (same_device d e) as (λ t. same_device d e ≡ t → (d ≡ e) ⊎ (d ≢ e)) [
  | true ↦ λ t. inl ((same_device-Decides d e).0 t)
  | false ↦ λ t. inr (λ h. true≢false (sym ((same_device-Decides d e).1 h) ∙ t))
] refl

-- where the device d has the best of before for q, and q was clean
decided_at : (o : Opening) (s t : CoreState) (d : DeviceId) (q : Cidr) (x : RibState)
    → t.now.net ≡ s.now.net
    → rib t d ≡ x → came_at t d q ≡ came_at s d q
    → fin.get x.loc_rib q ≡ fin.get (rib s d).loc_rib q
    → (prefixes.contains x.dirty q ≡ false → prefixes.contains (rib s d).dirty q ≡ false)
    → CleanIsDecided o s → holds_device o.emulated d ≡ true
    → prefixes.contains (rib t d).dirty q ≡ false
    → held_in t d q ≡ best_of t.now.net (came_at t d q) d q
decided_at o s t d q x net e came best clean k m c =
    ap (λ (y : RibState). fin.get y.loc_rib q) e ∙ best
    ∙ k d q m (clean (ap (λ (y : RibState). prefixes.contains y.dirty q) (sym e) ∙ c))
    ∙ ap (λ f. best_of s.now.net f d q) (sym came)
    ∙ ap (λ n. best_of n (came_at t d q) d q) (sym net)

net_of_rib : (s : CoreState) (d : DeviceId) (x : RibState) → (with_rib s d x).now.net ≡ s.now.net
unfolding with_rib
net_of_rib s d x = refl

net_of_session : (s : CoreState) (a b : DeviceId) (f : SessionState → SessionState)
    → (with_session s a b f).now.net ≡ s.now.net
unfolding with_session
net_of_session s a b f = refl

ribs_of_session : (s : CoreState) (a b : DeviceId) (f : SessionState → SessionState)
    → (with_session s a b f).ribs ≡ s.ribs
unfolding with_session
ribs_of_session s a b f = refl

-- a session changes, and what it changes at its receiver becomes dirty
module _ (o : Opening) (s : CoreState) (k : CleanIsDecided o s) (a b : DeviceId)
    (f : SessionState → SessionState) (ends : KeepsEnds f) (x : RibState)
    (inside : b.0 < length s.ribs)
    (best : x.loc_rib ≡ (rib s b).loc_rib)
    (soils : (q : Cidr) → prefixes.contains x.dirty q ≡ false
    → (prefixes.contains (rib s b).dirty q ≡ false)
    × ((y : SessionState) → fin.get (f y).adj_rib_in q ≡ fin.get y.adj_rib_in q)) where
  decided_touched : CleanIsDecided o (with_rib (with_session s a b f) b x)
  decided_touched d q m c =
      let t = with_session s a b f in
      elim (device_tells d b) [
        | inl same ↦
            let in' : b.0 < length t.ribs =
            subst (λ l. b.0 < length l) (sym (ribs_of_session s a b f)) inside in
            let at_b : rib (with_rib t b x) d ≡ x =
            ap (rib (with_rib t b x)) same ∙ rib_same t b x in' in
            let was = soils q (ap (λ (y : RibState). prefixes.contains y.dirty q) (sym at_b) ∙ c) in
            decided_at o s (with_rib t b x) d q x (net_of_rib t b x ∙ net_of_session s a b f) at_b
            (came_of_rib t d q b x ∙ came_kept s f ends a b d q (λ y is at. was.1 y))
            (ap (λ n. fin.get n q) best ∙ ap (λ i. fin.get (rib s i).loc_rib q) (sym same))
            (λ _. ap (λ i. prefixes.contains (rib s i).dirty q) same ∙ was.0) k m c
        | inr other ↦
            decided_at o s (with_rib t b x) d q (rib s d)
            (net_of_rib t b x ∙ net_of_session s a b f)
            (rib_other t b d x other ∙ rib_of_session s a b d f)
            (came_of_rib t d q b x
            ∙ came_kept s f ends a b d q (λ y is at. absurd
            (other (sym at ∙ (ends_are a b y (found_is (is_session a b) s.sessions y is)).1)))) refl
            (λ z. z) k m c
      ]

-- ---- speakers keep what they say

-- where what an emulated device has changes, and nothing else
say_elsewhere : (r : RecordedOpening) (s t : CoreState) (b : DeviceId) → SpeakersSay r s
    → holds_device r.opening.emulated b ≡ true → ((d : DeviceId) → d ≢ b → rib t d ≡ rib s d)
    → SpeakersSay r t
say_elsewhere r s t b say m same d e =
    subst (IsSpeaking r d)
    (sym (same d (λ h. true≢false (sym m ∙ ap (holds_device r.opening.emulated) (sym h) ∙ e))))
    (say d e)

-- a device with a dirty prefix is emulated
dirty_emulated : (r : RecordedOpening) (s : CoreState) → SpeakersSay r s → (d : DeviceId) (p : Cidr)
    → prefixes.contains (rib s d).dirty p ≡ true → holds_device r.opening.emulated d ≡ true
dirty_emulated r s say d p dirty =
    elim (holds_device r.opening.emulated d) as
    (λ t. holds_device r.opening.emulated d ≡ t → t ≡ true) [
      | true ↦ λ t. refl
      | false ↦
          λ t. absurd (true≢false
          (sym dirty ∙ ap (λ x. prefixes.contains x p) (say d t).clean ∙ contains-empty p))
    ] refl

-- ---- a receive

kept_received : (r : RecordedOpening) (s : CoreState) (k : IsKept r s) (a b : DeviceId)
    (octets : List ℕ) (rest : List (List ℕ)) (u : Update)
    → (session s a b).mail ≡ octets ∷ rest
    → IsKept r (with_rib (with_session s a b (taken_in u rest)) b (with_dirty (rib s b)
    (prefixes_of u)))
kept_received r s k a b octets rest u e =
    let o = r.opening in
    let f = taken_in u rest in
    let x = with_dirty (rib s b) (prefixes_of u) in
    let mail : (y : SessionState) → session s a b ≡ y → y.mail ≡ octets ∷ rest =
    λ y is. ap (λ (z : SessionState). z.mail) (sym is) ∙ e in
    kept_of r (with_rib (with_session s a b f) b x)
    (sound_rib o (with_session s a b f)
    (sound_session o s (sound_of r s k) a b f (taken_ends u rest)
    (λ y is t. let was : y.mail ≡ octets ∷ rest = mail y is in omega (arith, ap length was, t))) b
    x)
    (decided_touched o s k.decided a b f (taken_ends u rest) x
    (receiver_in_range r s k a b octets rest e) refl
    (λ q c.
    let was = not_inserted_all (rib s b).dirty (prefixes_of u) q c in
    (was.0, λ y. applied_elsewhere y.adj_rib_in u q was.1)))
    (say_elsewhere r s (with_rib (with_session s a b f) b x) b k.speakers
    (receiver_emulated r s k a b octets rest e)
    (λ d other. rib_other (with_session s a b f) b d x other ∙ rib_of_session s a b d f))

-- octets that spell no update change nothing
kept_take_in : (r : RecordedOpening) (s : CoreState) → IsKept r s → (a b : DeviceId)
    (octets : List ℕ) (rest : List (List ℕ)) → (session s a b).mail ≡ octets ∷ rest
    → (o : Result Update WireFault) → IsKept r (take_in s a b rest o)
kept_take_in r s k a b octets rest e (Ok u) = kept_received r s k a b octets rest u e
kept_take_in r s k a b octets rest e (Err fault) = k

-- ---- a decision

-- a device with a dirty prefix has a place
pub dirty_in_range : (s : CoreState) (d : DeviceId) (p : Cidr)
    → prefixes.contains (rib s d).dirty p ≡ true → d.0 < length s.ribs
dirty_in_range s d p e =
    elim (cases_lt d.0 (length s.ribs)) [
      | inl in' ↦ in'
      | inr out ↦
          absurd (true≢false
          (sym e ∙ ap (λ (y : RibState). prefixes.contains y.dirty p) (rib_past s d out)
          ∙ contains-empty p))
    ]

module _ (o : Opening) (s : CoreState) (k : CleanIsDecided o s) (d : DeviceId) (p : Cidr)
    (e : prefixes.contains (rib s d).dirty p ≡ true) where
  best_at : Option Choice
  best_at = best_of s.now.net (came_at s d p) d p

  result_of : RibState
  result_of = record {
    loc_rib = put_at (rib s d).loc_rib p best_at;
    dirty = prefixes.remove (rib s d).dirty p;
  }

  decided_decided : CleanIsDecided o (with_rib s d result_of)
  unfolding result_of best_at
  decided_decided i q m c =
      let net = net_of_rib s d result_of in
      elim (device_tells i d) [
        | inl same ↦
            let at_d : rib (with_rib s d result_of) i ≡ result_of =
            ap (rib (with_rib s d result_of)) same
            ∙ rib_same s d result_of (dirty_in_range s d p e) in
            elim (same_tells q p) [
              | inl hit ↦
                  ap (λ (y : RibState). fin.get y.loc_rib q) at_d
                  ∙ get-put_at (rib s d).loc_rib p best_at q
                  ∙ ap (λ t. cond t best_at (fin.get (rib s d).loc_rib q)) hit.0
                  ∙ ap (λ z. best_of s.now.net (came_at s d z) d z) (sym hit.1)
                  ∙ ap (λ z. best_of s.now.net (came_at s z q) z q) (sym same)
                  ∙ ap (λ f. best_of s.now.net f i q) (sym (came_of_rib s i q d result_of))
                  ∙ ap (λ n. best_of n (came_at (with_rib s d result_of) i q) i q) (sym net)
              | inr miss ↦
                  decided_at o s (with_rib s d result_of) i q result_of net at_d
                  (came_of_rib s i q d result_of)
                  (get-put_at (rib s d).loc_rib p best_at q
                  ∙ ap (λ t. cond t best_at (fin.get (rib s d).loc_rib q)) miss.0
                  ∙ ap (λ z. fin.get (rib s z).loc_rib q) (sym same))
                  (λ c. ap (λ z. prefixes.contains (rib s z).dirty q) same
                  ∙ sym (ap (λ t. not t && prefixes.contains (rib s d).dirty q) miss.0)
                  ∙ sym (contains-remove (rib s d).dirty p q) ∙ c)
                  k m c
            ]
        | inr other ↦
            decided_at o s (with_rib s d result_of) i q (rib s i) net
            (rib_other s d i result_of other) (came_of_rib s i q d result_of) refl (λ z. z) k m c
      ]

kept_decided : (r : RecordedOpening) (s : CoreState) (k : IsKept r s) (d : DeviceId) (p : Cidr)
    → prefixes.contains (rib s d).dirty p ≡ true → IsKept r (decide s d p)
unfolding result_of best_at
kept_decided r s k d p e =
    let o = r.opening in
    let x = result_of o s k.decided d p e in
    kept_of r (decide s d p) (sound_rib o s (sound_of r s k) d x)
    (decided_decided o s k.decided d p e)
    (say_elsewhere r s (decide s d p) d k.speakers (dirty_emulated r s k.speakers d p e)
    (λ i other. rib_other s d i x other))

-- ---- a send

kept_send : (r : RecordedOpening) (s : CoreState) → IsKept r s → (a b : DeviceId) (u : Update)
    → length (session s a b).mail < 64 → IsKept r (with_session s a b (put_out u))
kept_send r s k a b u room =
    let o = r.opening in
    let f = put_out u in
    kept_of r (with_session s a b f)
    (sound_session o s (sound_of r s k) a b f (put_out_ends u)
    (λ y is t.
    let was : length y.mail < 64 = subst (λ z. length z.mail < 64) is room in
    simp length-append (omega (arith, was))))
    (λ d q e c. decided_at o s (with_session s a b f) d q (rib s d) (net_of_session s a b f)
    (rib_of_session s a b d f) (came_kept s f (put_out_ends u) a b d q (λ x is at. refl)) refl
    (λ z. z) k.decided e c)
    (λ d e. subst (IsSpeaking r d) (sym (rib_of_session s a b d f)) (k.speakers d e))

-- ---- every step

kept_receive : (r : RecordedOpening) (s : CoreState) → IsKept r s
    → (a b : DeviceId) (mail : List (List ℕ)) → (session s a b).mail ≡ mail
    → IsKept r (receive s a b mail)
kept_receive r s k a b [] e = k
kept_receive r s k a b (octets ∷ rest) e =
    kept_take_in r s k a b octets rest e (update_of octets)

pub room_to_send : (s : CoreState) (a b : DeviceId) → IsTrue (can s (Send a b))
    → length (session s a b).mail < 64
room_to_send s a b h = grind (arith, nat_tests)

pub kept_step : (r : RecordedOpening) (s : CoreState) → IsKept r s → (e : Step) → IsEnabled s e
    → IsKept r (step s e)
kept_step r s k (Work (Receive a b)) h = kept_receive r s k a b (session s a b).mail refl
kept_step r s k (Work (Decide d p)) h = kept_decided r s k d p h
kept_step r s k (Work (Send a b)) h =
    kept_send r s k a b (message_by s (session s a b)) (room_to_send s a b h)
kept_step r s k (Mark i) h = k

pub kept_run : (r : RecordedOpening) (s : CoreState) → IsKept r s → (h : List Step) → IsRunFrom s h
    → IsKept r (fold step s h)
kept_run r s k [] run = k
kept_run r s k (e ∷ es) run = kept_run r (step s e) (kept_step r s k e run.0) es run.1

-- the invariants hold of the state after every run
pub run_holds : RunLaw
unfolding state IsRun
run_holds = record {
  kept = λ r h run. kept_run r (start r) (kept_start r) h run;
  carried = run_carries;
}
