-- The first event in the serial order.
use Rattle.std.proofs.Common.{◌≡◌, ℕ, true, false, length, Option, Some, None, refl, sym, ap, ◌∙◌, subst, arith, true≢false}
use Rattle.std.specs.Prelude.{◌↔◌, ◌&&◌, ◌||◌, IsTrue, is_some, nat_lt, option_map}
use Rattle.std.specs.List.{find}
use Rattle.std.proofs.lemmas.Bool.Decides.{nat_tests}
use Rattle.cn_base.specs.Cidr.{Cidr}
use Rattle.cn_base.specs.declared.ids.DeviceId.{DeviceId}
use Rattle.cn_rib.specs.PrefixSet as prefixes
use Rattle.cn_rib.proofs.Keyed.{least_there}
use Rattle.cn_net.specs.Network.{device_ids, same_device}
use Rattle.cn_net.specs.Sessions.{Ascend}
use Rattle.cn_record.specs.Recorded.{RecordedOpening}
use Rattle.cn_core.specs.declared.event.Event.{Event}
use Rattle.cn_core.specs.declared.event.Event.TheVariants.{Decide, Send}
use Rattle.cn_core.specs.Laws.{FirstLaw, IsKept}
use Rattle.cn_core.specs.Machine.{can, state}
use Rattle.cn_core.specs.Order.{IsQuiet, device_event, first_event, first_of, first_pending, has_mail, is_pending, owes_from, receive_over, send_over}
use Rattle.cn_core.specs.Owed.{owes}
use Rattle.cn_core.specs.Start.{ends_of}
use Rattle.cn_core.specs.State.{CoreState, SessionState, rib, session}
use Rattle.cn_core.proofs.Access.{and_parts}
use Rattle.cn_core.proofs.Kept.{run_holds}
use Rattle.cn_core.proofs.Searches.{apart, found_apart, found_one, found_passes, none_passes, session_found}
use Rattle.cn_core.proofs.Stands.{quiet_stands, stands_quiet}

-- a session that owes, where there is no mail, can send
can_send : (s : CoreState) (d : DeviceId) (x : SessionState) → Ascend (ends_of s.sessions)
    → find has_mail s.sessions ≡ None → find (owes_from s d) s.sessions ≡ Some x
    → IsTrue (can s (Send x.from x.to))
can_send s d x apart none e =
    let at = session_found (owes_from s d) s x apart e in
    let some =
    (and_parts (same_device x.from d) (owes s x)
    (found_passes (owes_from s d) s.sessions x e)).1 in
    let empty =
    found_one (λ y. has_mail y ≡ false) (owes_from s d) s.sessions x
    (none_passes has_mail s.sessions none) e in
    ap (λ o. is_some o &&
    (owes s (session s x.from x.to) && nat_lt (length (session s x.from x.to).mail) 64))
    (found_apart (owes_from s d) s.sessions x apart e)
    ∙ ap (λ (y : SessionState). owes s y && nat_lt (length y.mail) 64) at
    ∙ ap (λ b. b && nat_lt (length x.mail) 64) some ∙ room (length x.mail) empty
  where
    room : (l : ℕ) → nat_lt 0 l ≡ false → nat_lt l 64 ≡ true
    room l e = grind (arith, nat_tests)

enabled_at : (s : CoreState) (d : DeviceId) (o : Option Cidr) (e : Event)
    → Ascend (ends_of s.sessions) → find has_mail s.sessions ≡ None
    → prefixes.least (rib s d).dirty ≡ o → device_event s d o ≡ Some e → IsTrue (can s e)
enabled_at s d (Some p) e apart none l is =
    let same : Decide d p ≡ e = cc in
    subst (λ e. IsTrue (can s e)) same (least_there (rib s d).dirty p l)
enabled_at s d None e apart none l is =
    elim (find (owes_from s d) s.sessions) as
    (λ o. find (owes_from s d) s.sessions ≡ o → option_map send_over o ≡ Some e
    → IsTrue (can s e)) [
      | None ↦ λ f is. cc
      | Some x ↦
          λ f is.
          let same : send_over x ≡ e = cc in
          subst (λ e. IsTrue (can s e)) same (can_send s d x apart none f)
    ] refl is

enabled : (s : CoreState) (e : Event) → Ascend (ends_of s.sessions)
    → (o : Option SessionState) (d : Option DeviceId) → find has_mail s.sessions ≡ o
    → first_of s o d ≡ Some e → IsTrue (can s e)
enabled s e apart (Some x) d f is =
    let same : receive_over x ≡ e = cc in
    subst (λ e. IsTrue (can s e)) same
    (ap (λ (y : SessionState). nat_lt 0 (length y.mail)) (session_found has_mail s x apart f)
    ∙ found_passes has_mail s.sessions x f)
enabled s e apart None (Some d) f is =
    enabled_at s d (prefixes.least (rib s d).dirty) e apart f refl is
enabled s e apart None None f is = cc

pub first_enabled : (r : RecordedOpening) (s : CoreState) (e : Event) → IsKept r s
    → first_event s ≡ Some e → IsTrue (can s e)
unfolding first_event
first_enabled r s e k is =
    enabled s e (apart r.opening s k.ends) (find has_mail s.sessions) (first_pending s) refl is

-- a pending device has an event
has_event : (s : CoreState) (d : DeviceId) (o : Option Cidr)
    → (is_some o || is_some (find (owes_from s d) s.sessions)) ≡ true → device_event s d o ≡ None
    → ⊥
has_event s d (Some p) h e = cc
has_event s d None h e =
    elim (find (owes_from s d) s.sessions) as
    (λ o. is_some o ≡ true → option_map send_over o ≡ None → ⊥) [
      | None ↦ λ h e. absurd (true≢false (sym h))
      | Some x ↦ λ h e. cc
    ] h e

no_first : (s : CoreState) (o : Option SessionState) (d : Option DeviceId) → first_pending s ≡ d
    → first_of s o d ≡ None → (o ≡ None) × (d ≡ None)
no_first s (Some x) d p e = cc
no_first s None (Some d) p e =
    absurd (has_event s d (prefixes.least (rib s d).dirty)
    (found_passes (is_pending s) (device_ids s.now.net) d p) e)
no_first s None None p e = (refl, refl)

pub first_none : (r : RecordedOpening) (s : CoreState) → IsKept r s
    → (first_event s ≡ None) ↔ IsQuiet s
unfolding first_event
first_none r s k = (
  λ e.
      let parts = no_first s (find has_mail s.sessions) (first_pending s) refl e in
      stands_quiet r s k parts.0 parts.1,
  λ q. let parts = quiet_stands s q in λ i. first_of s (parts.0 i) (parts.1 i),
)

pub first_holds : FirstLaw
first_holds = record {
  enabled = λ r h e run is. first_enabled r (state r h) e (run_holds.kept r h run) is;
  none = λ r h run. first_none r (state r h) (run_holds.kept r h run);
}
