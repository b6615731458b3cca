-- A quiet state is a stable state of the network.
use Rattle.std.proofs.Common.{◌≡◌, Bool, true, false, [], Option, Some, None, refl, sym, ap, ◌∙◌, subst, true≢false}
use Rattle.std.proofs.lemmas.Bool.{not-false, not-true}
use Rattle.std.specs.Prelude.{All, is_some, option_map, unwrap_or}
use Rattle.std.specs.List.{Contains, find}
use Rattle.std.specs.FinMap as fin
use Rattle.cn_base.specs.Cidr.{Cidr}
use Rattle.cn_base.specs.declared.ids.DeviceId.{DeviceId}
use Rattle.cn_base.specs.declared.route.Choice.{Choice}
use Rattle.cn_base.specs.declared.route.Route.{Route}
use Rattle.cn_rib.specs.PrefixSet as prefixes
use Rattle.cn_rib.proofs.Keyed.{contains-empty, get_empty}
use Rattle.cn_net.specs.Candidates.{IsBest, best_of}
use Rattle.cn_net.specs.Boundary.{AgreeInside, IsBounded, IsStableInside}
use Rattle.cn_net.specs.Islands.{holds_device, label_of, outside_of}
use Rattle.cn_net.specs.Network.{Network, is_linked, link_between}
use Rattle.cn_net.specs.OneState.{HasOneStableState}
use Rattle.cn_net.specs.Opening.{Opening}
use Rattle.cn_net.specs.Stable.{Assignment, IsStable, offer_of, offers_to, route_of}
use Rattle.cn_net.specs.Valid.{IsValid}
use Rattle.cn_net.proofs.Apart.{distinct_ids}
use Rattle.cn_net.proofs.Candidates.{best_of_is_best}
use Rattle.cn_net.proofs.Offering.{offer-gives, offer_of-gives}
use Rattle.cn_net.proofs.Peers.{linked_devices}
use Rattle.cn_net.proofs.Quiet.{quiet_agrees}
use Rattle.cn_net.proofs.Senders.{linked_session}
use Rattle.cn_net.proofs.States.{has_one_state}
use Rattle.cn_record.specs.Recorded.{IsRecorded, RecordedOpening}
use Rattle.cn_record.specs.Said.{said_by}
use Rattle.cn_record.proofs.Saying.{says_own}
use Rattle.cn_core.specs.Fits.{MailBringsSent, apply_mail}
use Rattle.cn_core.specs.Laws.{IsKept, QuietLaw, held_in}
use Rattle.cn_core.specs.Machine.{came_at, route_with, state}
use Rattle.cn_core.specs.Order.{IsQuiet}
use Rattle.cn_core.specs.Owed.{advertised, attributes_of, offered_attributes, owed_by}
use Rattle.cn_core.specs.State.{CoreState, SessionState, empty_session, is_session, rib, session}
use Rattle.cn_core.proofs.Access.{ends_are, found_has, is_some-session}
use Rattle.cn_core.proofs.Kept.{run_holds}
use Rattle.cn_core.proofs.Owes.{owed_empty}

-- ---- what is offered keeps its prefix

round_trip : (p : Cidr) (o : Option Route) → ((r : Route) → o ≡ Some r → r.prefix ≡ p)
    → option_map (route_with p) (option_map attributes_of o) ≡ o
round_trip p None h = refl
round_trip p (Some r) h =
    λ i. Some (record { prefix = sym (h r refl) i; path = r.path; origin = r.origin })

offer_keeps : (net : Network) (a b : DeviceId) (p : Cidr) (held : Option Choice) (r : Route)
    → offer_of net a b p held ≡ Some r → r.prefix ≡ p
offer_keeps net a b p held r e =
    let o = offer_of-gives net a b p held r e in
    (offer-gives net a b (route_of p o.source) r o.offered).prefix

offered_back : (net : Network) (a b : DeviceId) (p : Cidr) (held : Option Choice)
    → option_map (route_with p) (offered_attributes net a b p held) ≡ offer_of net a b p held
unfolding offered_attributes
offered_back net a b p held = round_trip p (offer_of net a b p held) (offer_keeps net a b p held)

-- ---- nothing is offered where there is no session

up_is_linked : (o : Option Bool) → unwrap_or o false ≡ true → is_some o ≡ true
up_is_linked None e = absurd (true≢false (sym e))
up_is_linked (Some b) e = refl

offer_needs_link : (net : Network) (a b : DeviceId) (p : Cidr) (held : Option Choice) (r : Route)
    → offer_of net a b p held ≡ Some r → is_linked net a b ≡ true
offer_needs_link net a b p held r e =
    let o = offer_of-gives net a b p held r e in
    up_is_linked (link_between net a b) (offer-gives net a b (route_of p o.source) r o.offered).up

no_session_no_offer : (r : RecordedOpening) (s : CoreState) → IsKept r s → IsValid r.opening.net
    → (a d : DeviceId) (p : Cidr) (held : Option Choice) → holds_device r.opening.emulated d ≡ true
    → find (is_session a d) s.sessions ≡ None → offer_of r.opening.net a d p held ≡ None
no_session_no_offer r s k valid a d p held m none =
    by_offer (offer_of r.opening.net a d p held) refl
  where
    o : Opening
    o = r.opening

    by_offer : (x : Option Route) → offer_of o.net a d p held ≡ x → x ≡ None
    by_offer None e = refl
    by_offer (Some route) e =
        let linked = offer_needs_link o.net a d p held route e in
        let ends = linked_devices o.net a d valid linked in
        let there =
        subst (λ es. Contains es (record { from = a; to = d })) (sym k.ends)
        (linked_session o.net o.emulated a d ends.0 ends.1 linked m) in
        absurd (true≢false (sym (is_some-session a d s.sessions there) ∙ ap is_some none))

-- where nothing is under way and nothing is owed, what came in is what is offered
came_is_offered : (r : RecordedOpening) (s : CoreState) → IsKept r s → MailBringsSent s
    → IsValid r.opening.net
    → All (λ x. x.mail ≡ []) s.sessions → All (λ x. owed_by s x ≡ fin.empty) s.sessions
    → (a d : DeviceId) (p : Cidr) → holds_device r.opening.emulated d ≡ true
    → came_at s d p a ≡ offers_to r.opening.net (held_in s) d p a
unfolding came_at session
came_is_offered r s k brings valid no_mail none_owed a d p m =
    let o = r.opening in
    elim (find (is_session a d) s.sessions) as (λ x. find (is_session a d) s.sessions ≡ x
    → option_map (route_with p) (fin.get (unwrap_or x (empty_session a d)).adj_rib_in p)
    ≡ offer_of o.net a d p (held_in s a p)) [
      | None ↦
          λ e. ap (option_map (route_with p)) (get_empty p)
          ∙ sym (no_session_no_offer r s k valid a d p (held_in s a p) m e)
      | Some x ↦ λ e.
          let transit =
          found_has (λ (y : SessionState). apply_mail y.adj_rib_in y.mail ≡ y.adj_rib_out)
          (is_session a d) s.sessions x brings e in
          let empty =
          found_has (λ (y : SessionState). y.mail ≡ []) (is_session a d) s.sessions x no_mail e in
          let nothing =
          found_has (λ (y : SessionState). owed_by s y ≡ fin.empty) (is_session a d) s.sessions x
          none_owed e in
          let ends = ends_are a d x transit.1 in
          let arrived : x.adj_rib_in ≡ x.adj_rib_out =
          ap (apply_mail x.adj_rib_in) (sym empty.0) ∙ transit.0 in
          let sent : fin.get x.adj_rib_out p ≡ offered_attributes o.net a d p (held_in s a p) =
          (owed_empty s.now.net x.from x.to x.adj_rib_out (rib s x.from).loc_rib).0 nothing.0 p
          ∙ (λ i. advertised (k.now i).net (ends.0 i) (ends.1 i) (rib s (ends.0 i)).loc_rib p) in
          ap (λ n. option_map (route_with p) (fin.get n p)) arrived
          ∙ ap (option_map (route_with p)) sent ∙ offered_back o.net a d p (held_in s a p)
    ] refl

-- in a quiet state the emulated devices hold their best, and the others hold what they say
quiet_inside : (r : RecordedOpening) (s : CoreState) → IsKept r s → MailBringsSent s
    → IsValid r.opening.net
    → IsQuiet s
    → IsStableInside r.opening.net (outside_of r.opening.emulated) (said_by r.opening r.rows)
    (held_in s)
quiet_inside r s k brings valid quiet = record {
  best = λ d p h f.
      let net = r.opening.net in
      let m : holds_device r.opening.emulated d ≡ true =
      not-false (holds_device r.opening.emulated d) f in
      let clean : prefixes.contains (rib s d).dirty p ≡ false =
      ap (λ x. prefixes.contains x p) (quiet.clean d) ∙ contains-empty p in
      let came : came_at s d p ≡ offers_to net (held_in s) d p =
      λ i a. came_is_offered r s k brings valid quiet.mail quiet.owed a d p m i in
      let held : held_in s d p ≡ best_of net (offers_to net (held_in s) d p) d p =
      k.decided d p m clean ∙ (λ i. best_of (k.now i).net (came i) d p) in
      subst (IsBest net (offers_to net (held_in s) d p) d p) (sym held)
      (best_of_is_best net (offers_to net (held_in s) d p) d p);
  heard = λ d p h f. (k.speakers d (not-true (holds_device r.opening.emulated d) f)).says p;
}

-- the whole network has exactly one stable state
pub whole_state : (r : RecordedOpening) → IsRecorded r → HasOneStableState r.opening.net
whole_state r is = has_one_state r.opening.net (distinct_ids r.opening.net is.opening.valid)

-- and the emulated devices hold what they hold in it
pub quiet_shows : (r : RecordedOpening) (s : CoreState) (whole : Assignment) → IsRecorded r
    → IsKept r s → MailBringsSent s → IsQuiet s → IsStable r.opening.net whole
    → AgreeInside r.opening.net (outside_of r.opening.emulated) (held_in s) whole
quiet_shows r s whole is k brings quiet stable =
    let o = r.opening in
    let bounded : IsBounded o.net (outside_of o.emulated) (label_of o.labels) whole = record {
      valid = is.opening.valid;
      labelling = is.opening.labelling;
      certified = is.opening.certified;
      stable = stable;
    } in
    quiet_agrees o.net (outside_of o.emulated) (label_of o.labels) (said_by o r.rows) (held_in s)
    whole bounded is.sound (says_own o.net (label_of o.labels) r.rows)
    (quiet_inside r s k brings is.opening.valid quiet)

pub quiet_holds : QuietLaw
quiet_holds r h whole fit is run quiet stable =
    quiet_shows r (state r h) whole is (run_holds.kept r h run)
    (run_holds.carried r h fit run).transit quiet stable
