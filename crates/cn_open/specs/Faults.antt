-- What is wrong with a plan that is read: why it stands for no emulation.
use Rattle.std.specs.Prelude.{◌≡◌, ℕ, Bool, not, List, [], ◌∷◌, ◌++◌, Option, None, Some, find, flat_map}
use Rattle.std.specs.List.{list_any}
use Rattle.std.specs.Str.{bytes_eq}
use Rattle.cn_net.specs.Drafted.{draft_of}
use Rattle.cn_net.specs.Faults.{fault_of}
use Rattle.cn_net.specs.Limits.{PassesLimit}
use Rattle.cn_net.specs.Network.{Network}
use Rattle.cn_net.specs.Valid.{IsValid}
use Rattle.cn_net.specs.declared.draft.Draft.{Draft}
use Rattle.cn_net.specs.declared.fault.What.{What}
use Rattle.cn_readnet.specs.declared.selection.NameSelection.{NameSelection}
use Rattle.cn_readnet.specs.declared.selection.NameSelection.TheVariants.{Emulate, Must}
use Rattle.cn_readnet.specs.declared.plan.NetText.{NetText}
use Rattle.cn_readnet.specs.declared.record.RowDraft.{RowDraft}
use Rattle.cn_record.specs.Rows.{IsFirstRepeat}
use Rattle.cn_record.specs.declared.saved.Row.{Row}
use Rattle.cn_open.specs.Depth.{Depth, named, sound}
use Rattle.cn_open.specs.Emulation.{Emulation, IsEmulationOf, ReadAs}
use Rattle.cn_open.specs.declared.fault.PlanFault.{PlanFault}
use Rattle.cn_open.specs.declared.fault.PlanFault.TheVariants as fault

-- ---- the names of a plan, beside those of its network

abbrev pub selection_names : NameSelection → List (List ℕ)
selection_names (Emulate names) = names
selection_names (Must names) = names

abbrev pub sender_names : Option (List ℕ) → List (List ℕ)
sender_names None = []
sender_names (Some name) = name ∷ []

-- a row's device and then its sender
abbrev pub row_names : RowDraft → List (List ℕ)
row_names row = row.device ∷ sender_names row.from

-- those of the devices to emulate, and then those of the rows, in the plan's order
abbrev pub plan_names : NetText → List (List ℕ)
plan_names text = selection_names text.selection ++ flat_map row_names text.rows

-- a device of the draft bears the name
abbrev pub is_written : Draft → List ℕ → Bool
is_written draft name = list_any (λ d. bytes_eq d.name name) draft.devices

-- the first of these names that no device bears
abbrev pub first_unknown : Draft → List (List ℕ) → Option (List ℕ)
first_unknown draft names = find (λ n. not (is_written draft n)) names

-- ---- the faults of a plan, in their order

-- all names of the plan are those of devices of its network
abbrev pub IsKnown : NetText → Type 0
IsKnown text = (fault_of text.draft ≡ None) × (first_unknown text.draft (plan_names text) ≡ None)

-- the emulated devices pass this limit; one that is opened up to its names is held to none
abbrev pub PassesLimitAt : Depth → Emulation → What → ℕ → Type 0
PassesLimitAt named e what count = ⊥
PassesLimitAt sound e what count = PassesLimit e.net e.emulated what count

-- The first fault of its network; then the first name of no device; then the least device and
-- prefix of which there are two rows; then the number of emulated devices, or of rows for the core
-- to keep, that is past its limit.
abbrev pub IsPlanFault : Depth → NetText → PlanFault → Type 0
IsPlanFault depth text (fault.Net f) = fault_of text.draft ≡ Some f
IsPlanFault depth text (fault.Unknown name) =
    (fault_of text.draft ≡ None) × (first_unknown text.draft (plan_names text) ≡ Some name)
IsPlanFault depth text (fault.Repeat device prefix) =
    IsKnown text
    × ((net : Network) × (rows : List Row) × (draft_of net ≡ text.draft) × IsValid net
    × ReadAs net text.rows rows × IsFirstRepeat rows device prefix)
IsPlanFault depth text (fault.TooMany what count) =
    (e : Emulation) × IsEmulationOf text e × PassesLimitAt depth e what count
