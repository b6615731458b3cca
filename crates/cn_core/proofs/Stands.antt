-- The standing against the quiet state.
use Rattle.std.proofs.Common.{◌≡◌, ℕ, suc, ◌<◌, Bool, true, false, List, [], ◌∷◌, length, Option, Some, None, refl, sym, ap, ◌∙◌, subst, inl, inr, arith, true≢false}
use Rattle.std.specs.Prelude.{◌↔◌, ◌&&◌, ◌||◌, is_some, nat_lt, slice_index_or}
use Rattle.std.specs.List.{find}
use Rattle.std.specs.FinMap as fin
use Rattle.std.proofs.lemmas.Bool.{cases_lt}
use Rattle.std.proofs.lemmas.Bool.Decides.{nat_tests}
use Rattle.cn_base.specs.declared.ids.DeviceId.{DeviceId}
use Rattle.cn_base.specs.declared.standing.Standing.TheVariants as stands
use Rattle.cn_rib.specs.PrefixSet as prefixes
use Rattle.cn_rib.proofs.Keyed.{least_of_empty, no_least}
use Rattle.cn_net.specs.Network.{IsDevice, device_ids, same_device}
use Rattle.cn_record.specs.Recorded.{RecordedOpening}
use Rattle.cn_net.proofs.Peers.{all_devices}
use Rattle.cn_core.specs.Laws.{IsKept, StandingLaw}
use Rattle.cn_core.specs.Machine.{state}
use Rattle.cn_core.specs.Order.{IsQuiet, first_pending, has_mail, is_pending, owes_from, standing, standing_of}
use Rattle.cn_core.specs.Owed.{owed_by, owes}
use Rattle.cn_core.specs.State.{CoreState, RibState, SessionState, rib}
use Rattle.cn_core.proofs.Access.{itself, none_if, rib_past}
use Rattle.cn_core.proofs.Kept.{run_holds, within}
use Rattle.cn_core.proofs.Owes.{owes-empty, owes-none}
use Rattle.cn_core.proofs.Searches.{at_member, none_passes, nothing_found}

or_parts : (a b : Bool) → (a || b) ≡ false → (a ≡ false) × (b ≡ false)
or_parts true b e = absurd (true≢false e)
or_parts false b e = (refl, e)

quiet_standing : (o : Option SessionState) (d : Option DeviceId) → standing_of o d ≡ stands.Quiet
    → (o ≡ None) × (d ≡ None)
quiet_standing (Some x) d e = cc
quiet_standing None (Some d) e = cc
quiet_standing None None e = (refl, refl)

pub no_messages : (ms : List (List ℕ)) → nat_lt 0 (length ms) ≡ false → ms ≡ []
no_messages [] e = refl
no_messages (m ∷ ms) e = absurd (true≢false (sym some_there ∙ e))
  where
    some_there : nat_lt 0 (suc (length ms)) ≡ true
    some_there = grind (arith, nat_tests)

-- what `owes_from` says at a session of its own device
owed_none : (s : CoreState) (x : SessionState) → owes_from s x.from x ≡ false
    → owed_by s x ≡ fin.empty
owed_none s x e = owes-none s x (sym (ap (λ b. b && owes s x) (itself x.from)) ∙ e)

idle_at : (s : CoreState) (d : DeviceId) → first_pending s ≡ None → IsDevice s.now.net d
    → is_pending s d ≡ false
idle_at s d e h =
    at_member (λ z. is_pending s z ≡ false) (device_ids s.now.net) d
    (none_passes (is_pending s) (device_ids s.now.net) e) (all_devices s.now.net d h)

clean_at : (r : RecordedOpening) (s : CoreState) → IsKept r s → first_pending s ≡ None
    → (d : DeviceId) → (rib s d).dirty ≡ prefixes.empty
clean_at r s k e d =
    elim (cases_lt d.0 (length s.ribs)) [
      | inl in' ↦
          let h : IsDevice s.now.net d =
          subst (λ o. d.0 < length o.net.devices) (sym k.now) (subst (λ l. d.0 < l) k.ribs in') in
          no_least (rib s d).dirty (none_if _ (or_parts _ _ (idle_at s d e h)).0)
      | inr out ↦ ap (λ (x : RibState). x.dirty) (rib_past s d out)
    ]

pub stands_quiet : (r : RecordedOpening) (s : CoreState) → IsKept r s
    → find has_mail s.sessions ≡ None → first_pending s ≡ None → IsQuiet s
stands_quiet r s k m e = record {
  mail = λ i x lt. no_messages _ (none_passes has_mail s.sessions m i x lt);
  clean = clean_at r s k e;
  owed = λ i x lt.
      let y = slice_index_or s.sessions i x in
      let h : IsDevice s.now.net y.from =
      subst (λ o. y.from.0 < length o.net.devices) (sym k.now)
      (within r.opening s k.ends i x lt).0 in
      let idle = (or_parts _ _ (idle_at s y.from e h)).1 in
      owed_none s y (none_passes (owes_from s y.from) s.sessions (none_if _ idle) i x lt);
}

not_owing : (s : CoreState) → IsQuiet s → (d : DeviceId) → find (owes_from s d) s.sessions ≡ None
not_owing s q d =
    nothing_found (owes_from s d) s.sessions (λ i x lt. ap
    (λ o. same_device (slice_index_or s.sessions i x).from d && o)
    (owes-empty s (slice_index_or s.sessions i x) (q.owed i x lt))
    ∙ and_false (same_device (slice_index_or s.sessions i x).from d))
  where
    and_false : (b : Bool) → (b && false) ≡ false
    and_false true = refl
    and_false false = refl

not_pending : (s : CoreState) → IsQuiet s → (d : DeviceId) → is_pending s d ≡ false
not_pending s q d =
    ap (λ x. is_some (prefixes.least x) || is_some (find (owes_from s d) s.sessions)) (q.clean d)
    ∙ ap (λ x. is_some x || is_some (find (owes_from s d) s.sessions)) least_of_empty
    ∙ ap is_some (not_owing s q d)

pub quiet_stands : (s : CoreState) → IsQuiet s
    → (find has_mail s.sessions ≡ None) × (first_pending s ≡ None)
quiet_stands s q = (
  nothing_found has_mail s.sessions (λ i x lt. ap (λ ms. nat_lt 0 (length ms)) (q.mail i x lt)),
  nothing_found (is_pending s) (device_ids s.now.net)
      (λ i d lt. not_pending s q (slice_index_or (device_ids s.now.net) i d)),
)

pub standing_is : (r : RecordedOpening) (s : CoreState) → IsKept r s
    → (standing s ≡ stands.Quiet) ↔ IsQuiet s
standing_is r s k = (
  λ e.
      let parts = quiet_standing (find has_mail s.sessions) (first_pending s) e in
      stands_quiet r s k parts.0 parts.1,
  λ q. let parts = quiet_stands s q in λ i. standing_of (parts.0 i) (parts.1 i),
)

pub standing_holds : StandingLaw
standing_holds r h run = standing_is r (state r h) (run_holds.kept r h run)
