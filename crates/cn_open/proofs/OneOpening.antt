-- What a plan's text opens with is one opening, or its fault is one, and never both. The layer
-- above may cite each public lemma of this module, and of no other module here; `src/laws.rt` has
-- the same as laws.
use Rattle.std.proofs.Common.{◌≡◌, ℕ, Bool, List, length, Option, None, sym, ap, subst, ◌∙◌, ◌<◌, arith}
use Rattle.std.proofs.lemmas.List.{ext_get_or}
use Rattle.std.proofs.lemmas.Option.{unwrap_or-slice_get}
use Rattle.cn_base.specs.declared.ids.DeviceId.{DeviceId}
use Rattle.cn_net.specs.Islands.{IsIslands, label_of}
use Rattle.cn_net.specs.Network.{Network}
use Rattle.cn_net.specs.declared.draft.Draft.{Draft}
use Rattle.cn_net.proofs.Agreeing.{islands_agree}
use Rattle.cn_plan.specs.Boundary.{BoundaryFault, IsFirstFault, IsSafe, of_certificate, of_record}
use Rattle.cn_plan.proofs.Boundaries.{fault_unsafe, safe_not_unsafe, safe_of}
use Rattle.cn_plan.proofs.OneFault.{emulated_one, first_fault_one}
use Rattle.cn_record.specs.Recorded.{RecordedOpening}
use Rattle.cn_open.specs.Depth.{Depth, named, sound}
use Rattle.cn_open.specs.Emulation.{Emulation, ReadsPlan, StandsFor, is_outside}
use Rattle.cn_open.specs.Faults.{IsPlanFault}
use Rattle.cn_open.specs.OpenFaults.{HasFirstFault, IsBoundaryFault, IsOpenFault, IsTextFault}
use Rattle.cn_open.specs.Opens.{IsSafePlan, IsUnsafePlan, Opens, OpensTo}
use Rattle.cn_open.specs.declared.fault.OpenFault.{OpenFault}
use Rattle.cn_open.specs.declared.fault.OpenFault.TheVariants.{NoPlan, Net, Refused, Unsound}
use Rattle.cn_open.specs.declared.fault.PlanFault.{PlanFault}
use Rattle.cn_open.specs.declared.fault.TextFault.{TextFault}
use Rattle.cn_open.specs.declared.fault.TextFault.TheVariants.{TooLong, Bad}
use Rattle.cn_readnet.specs.declared.plan.NetText.{NetText}
use Rattle.cn_open.proofs.OneEmulation.{one_emulation, one_text, stands_faultless}
use Rattle.cn_open.proofs.OnePlanFault.{plan_fault_deepens, plan_fault_one}
use Rattle.cn_open.proofs.Ordered.{rows_one}

-- ---- the opening

-- labels of the same islands, with an entry for each device, are one list
labels_one : (net : Network) (outside : DeviceId → Bool) (xs ys : List (Option DeviceId))
    → length xs ≡ length net.devices → length ys ≡ length net.devices
    → IsIslands net outside (label_of xs) → IsIslands net outside (label_of ys) → xs ≡ ys
labels_one net outside xs ys size size' hx hy =
    ext_get_or None xs ys (size ∙ sym size') (λ k lt.
    let d : DeviceId = record { 0 = k } in
    sym (unwrap_or-slice_get xs k None)
    ∙ islands_agree net outside (label_of xs) (label_of ys) hx hy d (subst (λ n. k < n) size lt)
    ∙ unwrap_or-slice_get ys k None)

-- an emulation opens with one opening
opens_to_one : (e : Emulation) (r s : RecordedOpening) → OpensTo e r → OpensTo e s → r ≡ s
opens_to_one e r s h k =
    let c = h.safe.certified in
    let j = k.safe.certified in
    let net : r.opening.net ≡ s.opening.net = c.network ∙ sym j.network in
    let emulated : r.opening.emulated ≡ s.opening.emulated =
    emulated_one e.net (is_outside e) r.opening s.opening c j in
    let labels : r.opening.labels ≡ s.opening.labels =
    labels_one e.net (is_outside e) r.opening.labels s.opening.labels
    (h.labelled ∙ ap (λ (n : Network). length n.devices) c.network)
    (k.labelled ∙ ap (λ (n : Network). length n.devices) j.network) c.islands j.islands in
    let rows : r.rows ≡ s.rows =
    rows_one e.rows r.rows s.rows h.rows k.rows h.recorded.ascending k.recorded.ascending in
    λ i. record {
      opening = record { net = net i; emulated = emulated i; labels = labels i };
      rows = rows i;
    }

-- a text opens with one opening
pub opening_once : (bytes : List ℕ) (r s : RecordedOpening) → Opens bytes r → Opens bytes s → r ≡ s
opening_once bytes r s (e, stands, h) (e', stands', k) =
    let same : e' ≡ e = one_emulation bytes e' e stands' stands in
    opens_to_one e r s h (subst (λ (x : Emulation). OpensTo x s) same k)

-- ---- safe and unsafe plans

-- the plan of a text that opens is safe
pub opening_safe : (bytes : List ℕ) (r : RecordedOpening) → Opens bytes r → IsSafePlan bytes
opening_safe bytes r (e, stands, h) =
    (e, stands, safe_of e.net (is_outside e) e.rows r.opening h.safe)

-- a plan isn't both safe and unsafe
pub plan_safe_or_unsafe : (bytes : List ℕ) → IsSafePlan bytes → IsUnsafePlan bytes → ⊥
plan_safe_or_unsafe bytes (e, stands, safe) (e', stands', unsafe) =
    let same : e ≡ e' = one_emulation bytes e e' stands stands' in
    safe_not_unsafe e'.net (is_outside e') e'.rows
    (subst (λ (x : Emulation). IsSafe x.net (is_outside x) x.rows) same safe) unsafe

-- a fault of the boundary makes the plan unsafe
fault_unsafe_plan : (bytes : List ℕ) (net : Network) (fault : BoundaryFault)
    → HasFirstFault sound bytes net fault → IsUnsafePlan bytes
fault_unsafe_plan bytes net fault (e, stands, same, first) =
    (e, stands, fault_unsafe e.net (is_outside e) e.rows fault first)

-- ---- a text that stands for an emulation

-- it reads
stands_reads : (bytes : List ℕ) (e : Emulation) → StandsFor bytes e
    → (text : NetText) × ReadsPlan bytes text
stands_reads bytes e (text, read, h) = (text, read)

-- its plan has no fault
stands_no_net : (depth : Depth) (bytes : List ℕ) (e : Emulation) (text : NetText)
    (fault : PlanFault)
    → StandsFor bytes e → ReadsPlan bytes text → IsPlanFault depth text fault → ⊥
stands_no_net depth bytes e text fault (text', read, h) read' is =
    let same : text ≡ text' = one_text bytes text text' read' read in
    stands_faultless depth text' e fault h
    (subst (λ (t : NetText). IsPlanFault depth t fault) same is)

-- ---- a text from which no plan is read

-- none is
reads_none : (bytes : List ℕ) (why : TextFault) → IsTextFault bytes why → (text : NetText)
    → ReadsPlan bytes text → ⊥
reads_none bytes (TooLong limit) (is, long) text (short, read) = omega (arith, long, short)
reads_none bytes (Bad answer) (short, is) text (short', read) = absurd cc

-- for one reason
text_fault_one : (bytes : List ℕ) (v w : TextFault) → IsTextFault bytes v → IsTextFault bytes w
    → v ≡ w
text_fault_one bytes (TooLong l) (TooLong m) (e, long) (e', long') = ap TooLong (e ∙ sym e')
text_fault_one bytes (TooLong l) (Bad b) (e, long) (short, is) =
    absurd (omega (arith, long, short))
text_fault_one bytes (Bad a) (TooLong m) (short, is) (e, long) =
    absurd (omega (arith, long, short))
text_fault_one bytes (Bad a) (Bad b) (short, is) (short', is') =
    let same : a ≡ b = cc in ap Bad same

-- ---- faults and openings

-- a safe plan has no fault
pub safe_faultless : (bytes : List ℕ) (f : OpenFault) → IsSafePlan bytes
    → IsOpenFault sound bytes f → ⊥
safe_faultless bytes (NoPlan why) (e, stands, safe) is =
    let r = stands_reads bytes e stands in reads_none bytes why is r.0 r.1
safe_faultless bytes (Net draft fault) (e, stands, safe) (text, read, same, is) =
    stands_no_net sound bytes e text fault stands read is
safe_faultless bytes (Refused net refusal) safe h =
    plan_safe_or_unsafe bytes safe (fault_unsafe_plan bytes net (of_certificate refusal) h)
safe_faultless bytes (Unsound net d p held wanted) safe h =
    plan_safe_or_unsafe bytes safe (fault_unsafe_plan bytes net (of_record d p held wanted) h)

-- a text that opens has no fault
pub opening_faultless : (bytes : List ℕ) (r : RecordedOpening) (f : OpenFault) → Opens bytes r
    → IsOpenFault sound bytes f → ⊥
opening_faultless bytes r f opens is = safe_faultless bytes f (opening_safe bytes r opens) is

-- an unsafe plan doesn't open
pub unsafe_unopened : (bytes : List ℕ) (r : RecordedOpening) → IsUnsafePlan bytes → Opens bytes r
    → ⊥
unsafe_unopened bytes r unsafe opens =
    plan_safe_or_unsafe bytes (opening_safe bytes r opens) unsafe

-- its fault is one of the boundary
pub unsafe_refused : (bytes : List ℕ) (f : OpenFault) → IsUnsafePlan bytes
    → IsOpenFault sound bytes f → IsBoundaryFault f
unsafe_refused bytes (NoPlan why) (e, stands, unsafe) is =
    let r = stands_reads bytes e stands in absurd (reads_none bytes why is r.0 r.1)
unsafe_refused bytes (Net draft fault) (e, stands, unsafe) (text, read, same, is) =
    absurd (stands_no_net sound bytes e text fault stands read is)
unsafe_refused bytes (Refused net refusal) unsafe h = tt
unsafe_refused bytes (Unsound net d p held wanted) unsafe h = tt

-- ---- the fault

-- the first fault of the boundary is one
boundary_one : (depth : Depth) (bytes : List ℕ) (net net' : Network) (f g : BoundaryFault)
    → HasFirstFault depth bytes net f → HasFirstFault depth bytes net' g
    → (net ≡ net') × (f ≡ g)
boundary_one named bytes net net' f g h k = absurd h
boundary_one sound bytes net net' f g (e, stands, is, h) (e', stands', is', k) =
    let same : e' ≡ e = one_emulation bytes e' e stands' stands in (
      is ∙ sym (is' ∙ ap (λ (x : Emulation). x.net) same),
      first_fault_one e.net (is_outside e) e.rows f g h
          (subst (λ (x : Emulation). IsFirstFault x.net (is_outside x) x.rows g) same k),
    )

-- where the boundary has a fault, a plan is read, and has none
boundary_alone : (depth : Depth) (bytes : List ℕ) (net : Network) (f : BoundaryFault)
    → HasFirstFault depth bytes net f → (e : Emulation) × StandsFor bytes e
boundary_alone named bytes net f h = absurd h
boundary_alone sound bytes net f (e, stands, is, h) = (e, stands)

-- as a fault of the text
abbrev fault_with : Network → BoundaryFault → OpenFault
fault_with net (of_certificate refusal) = Refused net refusal
fault_with net (of_record d p held wanted) = Unsound net d p held wanted

boundary_fault_one : (depth : Depth) (bytes : List ℕ) (net net' : Network) (f g : BoundaryFault)
    → HasFirstFault depth bytes net f → HasFirstFault depth bytes net' g
    → fault_with net f ≡ fault_with net' g
boundary_fault_one depth bytes net net' f g h k =
    let one = boundary_one depth bytes net net' f g h k in λ i. fault_with (one.0 i) (one.1 i)

no_plan_alone : (depth : Depth) (bytes : List ℕ) (why : TextFault) (net : Network)
    (f : BoundaryFault)
    → IsTextFault bytes why → HasFirstFault depth bytes net f → ⊥
no_plan_alone depth bytes why net f is h =
    let at = boundary_alone depth bytes net f h in
    let r = stands_reads bytes at.0 at.1 in
    reads_none bytes why is r.0 r.1

net_alone : (depth : Depth) (bytes : List ℕ) (draft : Draft) (fault : PlanFault) (net : Network)
    (f : BoundaryFault)
    → IsOpenFault depth bytes (Net draft fault) → HasFirstFault depth bytes net f → ⊥
net_alone depth bytes draft fault net f (text, read, same, is) h =
    let at = boundary_alone depth bytes net f h in
    stands_no_net depth bytes at.0 text fault at.1 read is

net_one : (depth : Depth) (bytes : List ℕ) (draft draft' : Draft) (f g : PlanFault)
    → IsOpenFault depth bytes (Net draft f) → IsOpenFault depth bytes (Net draft' g)
    → Net draft f ≡ Net draft' g
net_one depth bytes draft draft' f g (text, read, is, h) (text', read', is', k) =
    let same : text' ≡ text = one_text bytes text' text read' read in
    let drafts : draft ≡ draft' = is ∙ sym (is' ∙ ap (λ (t : NetText). t.draft) same) in
    let faults : f ≡ g =
    plan_fault_one depth text f g h (subst (λ (t : NetText). IsPlanFault depth t g) same k) in
    λ i. Net (drafts i) (faults i)

-- a text has one fault at each depth
pub fault_once : (depth : Depth) (bytes : List ℕ) (f g : OpenFault) → IsOpenFault depth bytes f
    → IsOpenFault depth bytes g → f ≡ g
fault_once depth bytes (NoPlan v) (NoPlan w) h k = ap NoPlan (text_fault_one bytes v w h k)
fault_once depth bytes (NoPlan v) (Net draft fault) h (text, read, same, is) =
    absurd (reads_none bytes v h text read)
fault_once depth bytes (NoPlan v) (Refused net r) h k =
    absurd (no_plan_alone depth bytes v net (of_certificate r) h k)
fault_once depth bytes (NoPlan v) (Unsound net d p x y) h k =
    absurd (no_plan_alone depth bytes v net (of_record d p x y) h k)
fault_once depth bytes (Net draft fault) (NoPlan v) (text, read, same, is) k =
    absurd (reads_none bytes v k text read)
fault_once depth bytes (Net draft f) (Net draft' g) h k =
    net_one depth bytes draft draft' f g h k
fault_once depth bytes (Net draft fault) (Refused net r) h k =
    absurd (net_alone depth bytes draft fault net (of_certificate r) h k)
fault_once depth bytes (Net draft fault) (Unsound net d p x y) h k =
    absurd (net_alone depth bytes draft fault net (of_record d p x y) h k)
fault_once depth bytes (Refused net r) (NoPlan v) h k =
    absurd (no_plan_alone depth bytes v net (of_certificate r) k h)
fault_once depth bytes (Refused net r) (Net draft fault) h k =
    absurd (net_alone depth bytes draft fault net (of_certificate r) k h)
fault_once depth bytes (Refused net r) (Refused net' s) h k =
    boundary_fault_one depth bytes net net' (of_certificate r) (of_certificate s) h k
fault_once depth bytes (Refused net r) (Unsound net' d p x y) h k =
    boundary_fault_one depth bytes net net' (of_certificate r) (of_record d p x y) h k
fault_once depth bytes (Unsound net d p x y) (NoPlan v) h k =
    absurd (no_plan_alone depth bytes v net (of_record d p x y) k h)
fault_once depth bytes (Unsound net d p x y) (Net draft fault) h k =
    absurd (net_alone depth bytes draft fault net (of_record d p x y) k h)
fault_once depth bytes (Unsound net d p x y) (Refused net' r) h k =
    boundary_fault_one depth bytes net net' (of_record d p x y) (of_certificate r) h k
fault_once depth bytes (Unsound net d p x y) (Unsound net' e q x' y') h k =
    boundary_fault_one depth bytes net net' (of_record d p x y) (of_record e q x' y') h k

-- ---- depths

-- a fault of a plan that is opened up to its names is its fault where it is opened deeper
pub fault_deepens : (bytes : List ℕ) (f : OpenFault) → IsOpenFault named bytes f
    → IsOpenFault sound bytes f
fault_deepens bytes (NoPlan why) h = h
fault_deepens bytes (Net draft fault) (text, read, same, is) =
    (text, read, same, plan_fault_deepens text fault is)
fault_deepens bytes (Refused net refusal) h = absurd h
fault_deepens bytes (Unsound net d p held wanted) h = absurd h
