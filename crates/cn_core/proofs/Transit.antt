-- The messages under way, applied to what came in, give what was sent.
use Rattle.std.proofs.Common.{◌≡◌, ℕ, List, [], ◌∷◌, ◌++◌, Ok, Err, Result, refl, sym, ap, ◌∙◌, subst}
use Rattle.std.specs.List.{fold}
use Rattle.cn_base.specs.declared.ids.DeviceId.{DeviceId}
use Rattle.cn_rib.specs.Updates.{AdjRib, apply_update, prefixes_of}
use Rattle.cn_record.specs.Recorded.{RecordedOpening}
use Rattle.cn_wire.specs.Reading.{update_of}
use Rattle.cn_wire.specs.Writing.{spelling}
use Rattle.cn_wire.specs.declared.fault.WireFault.{WireFault}
use Rattle.cn_wire.specs.declared.update.Update.{Update}
use Rattle.cn_core.specs.declared.event.Event.TheVariants.{Receive, Decide, Send}
use Rattle.cn_core.specs.declared.event.Step.{Step}
use Rattle.cn_core.specs.declared.event.Step.TheVariants.{Work, Mark}
use Rattle.cn_core.specs.Fits.{Fits, FitsState, MailBringsSent, apply_mail, apply_octets}
use Rattle.cn_core.specs.Laws.{IsCarried, IsReadBack}
use Rattle.cn_core.specs.Machine.{IsEnabled, IsRun, IsRunFrom, put_out, receive, state, step, take_in, taken_in, with_dirty, with_rib, with_session}
use Rattle.cn_core.specs.Owed.{message_by}
use Rattle.cn_core.specs.Start.{start}
use Rattle.cn_core.specs.State.{CoreState, RibState, SessionState, rib, session}
use Rattle.cn_core.proofs.Access.{all_sessions}
use Rattle.cn_core.proofs.Opened.{all_empty}
use Rattle.cn_core.proofs.RunsFit.{received_reads, sent_reads, start_fits, step_fits}

-- ---- one session

-- the messages of the mailbox, applied in order to what came in, give what was sent
abbrev pub IsInTransit : SessionState → Type 0
IsInTransit x = apply_mail x.adj_rib_in x.mail ≡ x.adj_rib_out

read_applied : (m : AdjRib) (octets : List ℕ) (u : Update) → update_of octets ≡ Ok u
    → apply_octets m octets ≡ apply_update m u
read_applied m octets u e =
    ap (λ (o : Result Update WireFault). elim o [ Ok u ↦ apply_update m u | Err fault ↦ m ]) e

mail_push : (m : AdjRib) (mail : List (List ℕ)) (octets : List ℕ)
    → apply_mail m (mail ++ octets ∷ []) ≡ apply_octets (apply_mail m mail) octets
mail_push m [] octets = refl
mail_push m (x ∷ xs) octets = mail_push (apply_octets m x) xs octets

taken_transit : (octets : List ℕ) (rest : List (List ℕ)) (u : Update) (x : SessionState)
    → update_of octets ≡ Ok u → x.mail ≡ octets ∷ rest → IsInTransit x
    → IsInTransit (taken_in u rest x)
taken_transit octets rest u x read e t =
    ap (λ m. apply_mail m rest) (sym (read_applied x.adj_rib_in octets u read))
    ∙ ap (apply_mail x.adj_rib_in) (sym e) ∙ t

put_transit : (u : Update) (x : SessionState) → IsReadBack u → IsInTransit x
    → IsInTransit (put_out u x)
put_transit u x read t =
    mail_push x.adj_rib_in x.mail (spelling u)
    ∙ read_applied (apply_mail x.adj_rib_in x.mail) (spelling u) u read
    ∙ ap (λ m. apply_update m u) t

-- ---- all sessions

with_rib_transit : (s : CoreState) (d : DeviceId) (x : RibState) → MailBringsSent s
    → MailBringsSent (with_rib s d x)
unfolding with_rib
with_rib_transit s d x all = all

received_transit : (s : CoreState) (a b : DeviceId) (mail : List (List ℕ)) → FitsState s
    → MailBringsSent s → (session s a b).mail ≡ mail → MailBringsSent (receive s a b mail)
received_transit s a b [] fit all e = all
received_transit s a b (octets ∷ rest) fit all e =
    let is = received_reads s fit a b octets rest e in
    let u = is.0 in
    subst (λ r. MailBringsSent (take_in s a b rest r)) (sym is.1)
    (with_rib_transit (with_session s a b (taken_in u rest)) b
    (with_dirty (rib s b) (prefixes_of u))
    (all_sessions IsInTransit s a b (taken_in u rest)
    (λ x at t. taken_transit octets rest u x is.1 (ap (λ (y : SessionState). y.mail) (sym at) ∙ e)
    t)
    all))

pub step_transit : (s : CoreState) (e : Step) → FitsState s → MailBringsSent s → IsEnabled s e
    → MailBringsSent (step s e)
step_transit s (Work (Receive a b)) fit all h =
    received_transit s a b (session s a b).mail fit all refl
step_transit s (Work (Decide d p)) fit all h = with_rib_transit s d _ all
step_transit s (Work (Send a b)) fit all h =
    let u = message_by s (session s a b) in
    all_sessions IsInTransit s a b (put_out u)
    (λ x at t. put_transit u x (sent_reads s fit a b h) t) all
step_transit s (Mark k) fit all h = all

-- ---- what every step carries

pub step_carries : (s : CoreState) (e : Step) → IsCarried s → IsEnabled s e → IsCarried (step s e)
step_carries s e c h = record {
  fits = step_fits s e c.fits h;
  transit = step_transit s e c.fits c.transit h;
}

run_from_carries : (s : CoreState) (h : List Step) → IsCarried s → IsRunFrom s h
    → IsCarried (fold step s h)
run_from_carries s [] c run = c
run_from_carries s (e ∷ es) c run =
    run_from_carries (step s e) es (step_carries s e c run.0) run.1

start_transit : (r : RecordedOpening) → MailBringsSent (start r)
unfolding start
start_transit r = all_empty IsInTransit (λ a b. refl) r.opening

pub start_carries : (r : RecordedOpening) → Fits r → IsCarried (start r)
start_carries r fit = record { fits = start_fits r fit; transit = start_transit r }

-- what is carried after a run from an opening whose numbers fit
pub run_carries : (r : RecordedOpening) (h : List Step) → Fits r → IsRun r h
    → IsCarried (state r h)
unfolding IsRun state
run_carries r h fit run = run_from_carries (start r) h (start_carries r fit) run
