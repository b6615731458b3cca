-- A plan that is read has one fault at each depth.
use Rattle.std.proofs.Common.{◌≡◌, ℕ, List, Some, sym, ap, subst, ◌∙◌, arith}
use Rattle.std.proofs.lemmas.Option.{none-some, same_Some}
use Rattle.cn_base.specs.Cidr.{Cidr}
use Rattle.cn_base.specs.declared.ids.DeviceId.{DeviceId}
use Rattle.cn_net.specs.Drafted.{draft_of}
use Rattle.cn_net.specs.Limits.{PassesLimit}
use Rattle.cn_net.specs.Network.{Network}
use Rattle.cn_net.specs.Valid.{IsValid}
use Rattle.cn_net.specs.declared.fault.What.{What}
use Rattle.cn_net.specs.declared.fault.What.TheVariants as what
use Rattle.cn_net.proofs.Drafts.{same_network}
use Rattle.cn_plan.proofs.OneFault.{pair_tied}
use Rattle.cn_readnet.specs.declared.plan.NetText.{NetText}
use Rattle.cn_record.specs.Rows.{IsFirstRepeat}
use Rattle.cn_record.specs.declared.saved.Row.{Row}
use Rattle.cn_open.specs.Depth.{Depth, named, sound}
use Rattle.cn_open.specs.Emulation.{Emulation, ReadAs}
use Rattle.cn_open.specs.Faults.{IsKnown, IsPlanFault, PassesLimitAt, first_unknown, plan_names}
use Rattle.cn_open.specs.declared.fault.PlanFault.{PlanFault}
use Rattle.cn_open.specs.declared.fault.PlanFault.TheVariants as fault
use Rattle.cn_open.proofs.OneEmulation.{described_known, described_once, read_as_one, same_emulation}

-- ---- two rows

first_repeat_one : (rows : List Row) (d e : DeviceId) (p q : Cidr) → IsFirstRepeat rows d p
    → IsFirstRepeat rows e q → fault.Repeat d p ≡ fault.Repeat e q
first_repeat_one rows d e p q h k =
    let tied =
    pair_tied d e p q (λ low. k.first d p h.repeated low) (λ low. h.first e q k.repeated low) in
    λ i. fault.Repeat (tied.0 i) (tied.1 i)

-- the plan's rows are one list
repeat_one : (text : NetText) (net net' : Network) (rows rows' : List Row) (d e : DeviceId)
    (p q : Cidr)
    → draft_of net ≡ text.draft → draft_of net' ≡ text.draft → IsValid net → IsValid net'
    → ReadAs net text.rows rows → ReadAs net' text.rows rows'
    → IsFirstRepeat rows d p → IsFirstRepeat rows' e q → fault.Repeat d p ≡ fault.Repeat e q
repeat_one text net net' rows rows' d e p q drafted drafted' valid valid' read read' h k =
    let same : net' ≡ net = same_network net' net valid' valid (drafted' ∙ sym drafted) in
    let read'' = subst (λ (n : Network). ReadAs n text.rows rows') same read' in
    let one : rows' ≡ rows = read_as_one net valid.names text.rows rows' rows read'' read in
    first_repeat_one rows d e p q h (subst (λ (xs : List Row). IsFirstRepeat xs e q) one k)

-- ---- too many

-- the limit that is passed first is one
excess_one : (net : Network) (set : List DeviceId) (w v : What) (m n : ℕ)
    → PassesLimit net set w m → PassesLimit net set v n → fault.TooMany w m ≡ fault.TooMany v n
excess_one net set what.Devices v m n h k = absurd h
excess_one net set what.Links v m n h k = absurd h
excess_one net set what.Prefixes v m n h k = absurd h
excess_one net set what.Emulated what.Devices m n h k = absurd k
excess_one net set what.Emulated what.Links m n h k = absurd k
excess_one net set what.Emulated what.Prefixes m n h k = absurd k
excess_one net set what.Emulated what.Emulated m n h k =
    ap (fault.TooMany what.Emulated) (h.0 ∙ sym k.0)
excess_one net set what.Emulated what.Rows m n h k = absurd (omega (arith, h.1, k.0))
excess_one net set what.Rows what.Devices m n h k = absurd k
excess_one net set what.Rows what.Links m n h k = absurd k
excess_one net set what.Rows what.Prefixes m n h k = absurd k
excess_one net set what.Rows what.Emulated m n h k = absurd (omega (arith, h.0, k.1))
excess_one net set what.Rows what.Rows m n h k = ap (fault.TooMany what.Rows) (h.1 ∙ sym k.1)

excess_one_at : (depth : Depth) (e : Emulation) (w v : What) (m n : ℕ) → PassesLimitAt depth e w m
    → PassesLimitAt depth e v n → fault.TooMany w m ≡ fault.TooMany v n
excess_one_at named e w v m n h k = absurd h
excess_one_at sound e w v m n h k = excess_one e.net e.emulated w v m n h k

-- ---- faults of two kinds

module _ (depth : Depth) (text : NetText) where
  -- an unknown name, and a later fault
  not_unknown : (name : List ℕ) → IsKnown text
      → first_unknown text.draft (plan_names text) ≡ Some name → ⊥
  not_unknown name known is = none-some name (sym known.1 ∙ is)

  -- a row twice, and a limit that is passed
  not_repeated : (d : DeviceId) (p : Cidr) (w : What) (m : ℕ)
      → IsPlanFault depth text (fault.Repeat d p) → IsPlanFault depth text (fault.TooMany w m) → ⊥
  not_repeated d p w m (known, (net, rows, drafted, valid, read, first)) (e, h, passes) =
      described_once text e net rows d p h drafted valid read first.repeated

  -- a plan that is read has one fault
  pub plan_fault_one : (f g : PlanFault) → IsPlanFault depth text f → IsPlanFault depth text g
      → f ≡ g
  plan_fault_one (fault.Net f) (fault.Net g) h k = ap fault.Net (same_Some f g (sym h ∙ k))
  plan_fault_one (fault.Net f) (fault.Unknown name) h k = absurd (none-some f (sym k.0 ∙ h))
  plan_fault_one (fault.Net f) (fault.Repeat d p) h k = absurd (none-some f (sym k.0.0 ∙ h))
  plan_fault_one (fault.Net f) (fault.TooMany w m) h (e, k, passes) =
      absurd (none-some f (sym (described_known text e k).0 ∙ h))
  plan_fault_one (fault.Unknown name) (fault.Net g) h k = absurd (none-some g (sym h.0 ∙ k))
  plan_fault_one (fault.Unknown name) (fault.Unknown other) h k =
      ap fault.Unknown (same_Some name other (sym h.1 ∙ k.1))
  plan_fault_one (fault.Unknown name) (fault.Repeat d p) h k =
      absurd (not_unknown name k.0 h.1)
  plan_fault_one (fault.Unknown name) (fault.TooMany w m) h (e, k, passes) =
      absurd (not_unknown name (described_known text e k) h.1)
  plan_fault_one (fault.Repeat d p) (fault.Net g) h k = absurd (none-some g (sym h.0.0 ∙ k))
  plan_fault_one (fault.Repeat d p) (fault.Unknown name) h k =
      absurd (not_unknown name h.0 k.1)
  plan_fault_one (fault.Repeat d p) (fault.Repeat e q)
      (known, (net, rows, drafted, valid, read, h))
      (known', (net', rows', drafted', valid', read', k)) =
      repeat_one text net net' rows rows' d e p q drafted drafted' valid valid' read read' h k
  plan_fault_one (fault.Repeat d p) (fault.TooMany w m) h k = absurd (not_repeated d p w m h k)
  plan_fault_one (fault.TooMany w m) (fault.Net g) (e, h, passes) k =
      absurd (none-some g (sym (described_known text e h).0 ∙ k))
  plan_fault_one (fault.TooMany w m) (fault.Unknown name) (e, h, passes) k =
      absurd (not_unknown name (described_known text e h) k.1)
  plan_fault_one (fault.TooMany w m) (fault.Repeat d p) h k = absurd (not_repeated d p w m k h)
  plan_fault_one (fault.TooMany w m) (fault.TooMany v n) (e, h, passes) (e', k, passes') =
      let same : e' ≡ e = same_emulation text e' e k h in
      excess_one_at depth e w v m n passes
      (subst (λ (x : Emulation). PassesLimitAt depth x v n) same passes')

-- ---- depths

-- a fault of its names is its fault at each depth
pub plan_fault_deepens : (text : NetText) (f : PlanFault) → IsPlanFault named text f
    → IsPlanFault sound text f
plan_fault_deepens text (fault.Net f) h = h
plan_fault_deepens text (fault.Unknown name) h = h
plan_fault_deepens text (fault.Repeat d p) h = h
plan_fault_deepens text (fault.TooMany w m) (e, h, passes) = absurd passes
