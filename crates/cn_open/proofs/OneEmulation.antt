-- A text stands for at most one network, one choice of its devices and one list of rows.
use Rattle.std.proofs.Common.{◌≡◌, ℕ, ◌++◌, Bool, false, not, List, [], ◌∷◌, map, All, Option, Some, None, option_map, Result, Ok, refl, sym, ap, subst, ◌∙◌}
use Rattle.std.specs.Prelude.{find}
use Rattle.std.specs.List.{IsDistinct, flat_map}
use Rattle.std.specs.Str.{bytes_eq}
use Rattle.std.proofs.lemmas.List.Elements.{All-contains, All-head, All-tail}
use Rattle.std.proofs.lemmas.Option.{none-some, same_Some}
use Rattle.cn_base.specs.Cidr.{Cidr}
use Rattle.cn_base.specs.declared.ids.DeviceId.{DeviceId}
use Rattle.cn_grow.specs.Growth.{IsGrown}
use Rattle.cn_net.specs.Drafted.{draft_of}
use Rattle.cn_net.specs.Islands.{holds_device}
use Rattle.cn_net.specs.Network.{Network, IsDevice, name_of}
use Rattle.cn_net.specs.Valid.{IsValid}
use Rattle.cn_net.specs.declared.draft.Draft.{Draft}
use Rattle.cn_net.proofs.Drafts.{same_name, same_network}
use Rattle.cn_net.proofs.Making.{faultless_where}
use Rattle.cn_net.proofs.OneSet.{same_sets}
use Rattle.cn_net.specs.Limits.{IsWithinLimits}
use Rattle.cn_net.specs.declared.fault.What.{What}
use Rattle.cn_plan.proofs.Exclusive.{within_passes_none}
use Rattle.cn_readnet.specs.Plan.{plan_of}
use Rattle.cn_readnet.specs.declared.plan.NetText.{NetText}
use Rattle.cn_readnet.specs.declared.record.RowDraft.{RowDraft}
use Rattle.cn_readnet.specs.declared.selection.NameSelection.{NameSelection}
use Rattle.cn_readnet.specs.declared.selection.NameSelection.TheVariants.{Emulate, Must}
use Rattle.cn_record.specs.Rows.{IsRepeated}
use Rattle.cn_record.specs.declared.saved.Row.{Row}
use Rattle.cn_text.specs.declared.answer.TextAnswer.{TextAnswer}
use Rattle.cn_open.specs.Depth.{Depth, named, sound}
use Rattle.cn_open.specs.Emulation.{Chooses, Emulation, IsBorne, IsEmulationOf, IsRowOf, IsSender, PlanStandsFor, ReadAs, ReadsPlan, StandsFor, row_draft}
use Rattle.cn_open.specs.Faults.{IsKnown, IsPlanFault, PassesLimitAt, first_unknown, is_written, plan_names, row_names, selection_names, sender_names}
use Rattle.cn_open.specs.declared.fault.PlanFault.{PlanFault}
use Rattle.cn_open.specs.declared.fault.PlanFault.TheVariants as fault
use Rattle.cn_open.proofs.Names.{find_behind, find_no, find_none, written}
use Rattle.cn_open.proofs.Selections.{same_from}

-- ---- rows

module _ (net : Network) (distinct : IsDistinct bytes_eq (map (λ d. d.name) net.devices)) where
  same_sender : (x y : Option DeviceId) → IsSender net x → IsSender net y
      → option_map (name_of net) x ≡ option_map (name_of net) y → x ≡ y
  same_sender None None is_x is_y e = refl
  same_sender None (Some b) is_x is_y e = absurd (none-some (name_of net b) e)
  same_sender (Some a) None is_x is_y e = absurd (none-some (name_of net a) (sym e))
  same_sender (Some a) (Some b) is_x is_y e =
      ap Some (same_name net a b distinct is_x is_y (same_Some (name_of net a) (name_of net b) e))

  same_row : (r s : Row) → IsRowOf net r → IsRowOf net s → row_draft net r ≡ row_draft net s → r ≡ s
  same_row r s is_r is_s e =
      let device : r.device ≡ s.device =
      same_name net r.device s.device distinct is_r.device is_s.device
      (ap (λ (x : RowDraft). x.device) e) in
      let from : r.choice.from ≡ s.choice.from =
      same_sender r.choice.from s.choice.from is_r.sender is_s.sender
      (ap (λ (x : RowDraft). x.from) e) in
      let prefix : r.prefix ≡ s.prefix = ap (λ (x : RowDraft). x.prefix) e in
      let path : r.choice.path ≡ s.choice.path = ap (λ (x : RowDraft). x.path) e in
      let origin : r.choice.origin ≡ s.choice.origin = ap (λ (x : RowDraft). x.origin) e in
      λ i. record {
        device = device i;
        prefix = prefix i;
        choice = record { from = from i; path = path i; origin = origin i };
      }

  same_rows : (rs ss : List Row) → All (IsRowOf net) rs → All (IsRowOf net) ss
      → map (row_draft net) rs ≡ map (row_draft net) ss → rs ≡ ss
  same_rows [] [] is_r is_s e = refl
  same_rows [] (s ∷ ss) is_r is_s e = absurd cc
  same_rows (r ∷ rs) [] is_r is_s e = absurd cc
  same_rows (r ∷ rs) (s ∷ ss) is_r is_s e =
      let first : row_draft net r ≡ row_draft net s = cc in
      let others : map (row_draft net) rs ≡ map (row_draft net) ss = cc in
      let one =
      same_row r s (All-head (IsRowOf net) r rs is_r) (All-head (IsRowOf net) s ss is_s) first in
      let more =
      same_rows rs ss (All-tail (IsRowOf net) r rs is_r) (All-tail (IsRowOf net) s ss is_s)
      others in
      λ i. one i ∷ more i

  pub read_as_one : (drafts : List RowDraft) (rs ss : List Row) → ReadAs net drafts rs
      → ReadAs net drafts ss → rs ≡ ss
  read_as_one drafts rs ss h k = same_rows rs ss h.each k.each (h.written ∙ sym k.written)

-- ---- the emulated devices

-- growth from the same devices gives the same devices
grown_alike : (net : Network) (given given' xs ys : List DeviceId)
    → ((d : DeviceId) → holds_device given d ≡ holds_device given' d) → IsGrown net given xs
    → IsGrown net given' ys → (d : DeviceId) → holds_device xs d ≡ holds_device ys d
grown_alike net given given' xs ys alike h k d =
    same_from (holds_device xs d) (holds_device ys d)
    (h.least ys (λ x t. k.given x (sym (alike x) ∙ t)) k.closed d)
    (k.least xs (λ x t. h.given x (alike x ∙ t)) h.closed d)

chosen_alike : (net : Network) (selection : NameSelection) (xs ys : List DeviceId)
    → Chooses net selection xs → Chooses net selection ys → (d : DeviceId)
    → holds_device xs d ≡ holds_device ys d
chosen_alike net (Emulate names) xs ys h k d = h.exactly d ∙ sym (k.exactly d)
chosen_alike net (Must names) xs ys (given, selects, grown) (given', selects', grown') d =
    grown_alike net given given' xs ys (λ x. selects.exactly x ∙ sym (selects'.exactly x)) grown
    grown' d

-- ---- all of it

same_text : (read : Result NetText TextAnswer) (x y : NetText) → read ≡ Ok x → read ≡ Ok y
    → x ≡ y
same_text read x y p q = cc

-- a plan describes one emulation
pub same_emulation : (text : NetText) (x y : Emulation) → IsEmulationOf text x
    → IsEmulationOf text y → x ≡ y
same_emulation text x y h k =
    let net = same_network x.net y.net h.valid k.valid (h.draft ∙ sym k.draft) in
    let chosen = subst (λ (n : Network). Chooses n text.selection y.emulated) (sym net) k.chosen in
    let alike = chosen_alike x.net text.selection x.emulated y.emulated h.chosen chosen in
    let emulated =
    same_sets x.emulated y.emulated h.ascending k.ascending (λ d t. sym (alike d) ∙ t)
    (λ d t. alike d ∙ t) in
    let recorded = subst (λ (n : Network). ReadAs n text.rows y.rows) (sym net) k.recorded in
    let rows = read_as_one x.net h.valid.names text.rows x.rows y.rows h.recorded recorded in
    λ i. record { net = net i; emulated = emulated i; rows = rows i }

-- one plan is read from a text
pub one_text : (bytes : List ℕ) (x y : NetText) → ReadsPlan bytes x → ReadsPlan bytes y → x ≡ y
one_text bytes x y h k = same_text (plan_of bytes) x y h.1 k.1

-- a text stands for one emulation
pub one_emulation : (bytes : List ℕ) (x y : Emulation) → StandsFor bytes x → StandsFor bytes y
    → x ≡ y
one_emulation bytes x y (text, read, h) (text', read', k) =
    let same = one_text bytes text' text read' read in
    let k' = subst (λ (t : NetText). IsEmulationOf t y) same k.0 in
    same_emulation text x y h.0 k'

-- ---- a plan that stands for an emulation has no fault

module _ (net : Network) where
  unborne : List ℕ → Bool
  unborne name = not (is_written (draft_of net) name)

  device_known : (d : DeviceId) → IsDevice net d → unborne (name_of net d) ≡ false
  unfolding unborne
  device_known d is = ap not (written net (name_of net d) d is refl)

  names_known : (names : List (List ℕ)) → All (IsBorne net) names → find unborne names ≡ None
  unfolding unborne
  names_known names all =
      find_none unborne names (λ x c.
      let borne = All-contains (IsBorne net) names x all c in
      ap not (written net x borne.0 borne.1 borne.2))

  sender_known : (from : Option DeviceId) → IsSender net from
      → find unborne (sender_names (option_map (name_of net) from)) ≡ None
  sender_known None is = refl
  sender_known (Some d) is = find_no unborne (name_of net d) [] (device_known d is)

  row_known : (row : Row) → IsRowOf net row → find unborne (row_names (row_draft net row)) ≡ None
  row_known row is =
      find_no unborne (name_of net row.device)
      (sender_names (option_map (name_of net) row.choice.from)) (device_known row.device is.device)
      ∙ sender_known row.choice.from is.sender

  rows_known : (rows : List Row) → All (IsRowOf net) rows
      → find unborne (flat_map row_names (map (row_draft net) rows)) ≡ None
  rows_known [] all = refl
  rows_known (r ∷ rs) all =
      find_behind unborne (row_names (row_draft net r))
      (flat_map row_names (map (row_draft net) rs)) (row_known r (All-head (IsRowOf net) r rs all))
      ∙ rows_known rs (All-tail (IsRowOf net) r rs all)

  chosen_known : (selection : NameSelection) (set : List DeviceId) → Chooses net selection set
      → All (IsBorne net) (selection_names selection)
  chosen_known (Emulate names) set h = h.known
  chosen_known (Must names) set (given, selects, grown) = selects.known

  pub all_known : (selection : NameSelection) (set : List DeviceId) (drafts : List RowDraft)
      (rows : List Row)
      → Chooses net selection set → ReadAs net drafts rows
      → first_unknown (draft_of net) (selection_names selection ++ flat_map row_names drafts) ≡ None
  unfolding unborne
  all_known selection set drafts rows chosen read =
      find_behind unborne (selection_names selection) (flat_map row_names drafts)
      (names_known (selection_names selection) (chosen_known selection set chosen))
      ∙ ap (λ (ds : List RowDraft). find unborne (flat_map row_names ds)) (sym read.written)
      ∙ rows_known rows read.each

-- all names of a plan that describes an emulation are those of devices
pub described_known : (text : NetText) (e : Emulation) → IsEmulationOf text e → IsKnown text
described_known text e h = (
  faultless_where text.draft (e.net, h.valid, h.draft),
  subst (λ (d : Draft). first_unknown d (plan_names text) ≡ None) h.draft
      (all_known e.net text.selection e.emulated text.rows e.rows h.chosen h.recorded),
)

-- it has no row twice
pub described_once : (text : NetText) (e : Emulation) (net : Network) (rows : List Row)
    (d : DeviceId) (p : Cidr)
    → IsEmulationOf text e → draft_of net ≡ text.draft → IsValid net → ReadAs net text.rows rows
    → IsRepeated rows d p → ⊥
described_once text e net rows d p h drafted valid read repeated =
    let same : net ≡ e.net = same_network net e.net valid h.valid (drafted ∙ sym h.draft) in
    let read' = subst (λ (n : Network). ReadAs n text.rows rows) same read in
    let one = read_as_one e.net h.valid.names text.rows rows e.rows read' h.recorded in
    h.once d p (subst (λ (xs : List Row). IsRepeated xs d p) one repeated)

-- devices within the limits pass none
limits_hold : (depth : Depth) (e : Emulation) (what : What) (count : ℕ)
    → IsWithinLimits e.net e.emulated → PassesLimitAt depth e what count → ⊥
limits_hold named e what count limits passes = passes
limits_hold sound e what count limits passes =
    within_passes_none e.net e.emulated what count limits passes

-- a plan that describes an emulation within the limits has no fault, at whatever depth
pub stands_faultless : (depth : Depth) (text : NetText) (e : Emulation) (fault : PlanFault)
    → PlanStandsFor text e → IsPlanFault depth text fault → ⊥
stands_faultless depth text e (fault.Net f) (h, limits) is =
    none-some f (sym (described_known text e h).0 ∙ is)
stands_faultless depth text e (fault.Unknown name) (h, limits) (faultless, is) =
    none-some name (sym (described_known text e h).1 ∙ is)
stands_faultless depth text e (fault.Repeat d p) (h, limits)
    (known, (net, rows, drafted, valid, read, first)) =
    described_once text e net rows d p h drafted valid read first.repeated
stands_faultless depth text e (fault.TooMany what count) (h, limits) (f, k, passes) =
    limits_hold depth e what count limits
    (subst (λ (x : Emulation). PassesLimitAt depth x what count) (same_emulation text f e k h)
    passes)
