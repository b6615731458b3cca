-- The line of a plan that stands for no emulation. Devices are those of its draft.
use Rattle.std.specs.Prelude.{ℕ, codes, List, [], ◌++◌, option_map, slice_get, unwrap_or}
use Rattle.std.specs.Fmt.{decimal}
use Rattle.cn_base.specs.declared.ids.DeviceId.{DeviceId}
use Rattle.cn_net.specs.declared.draft.Draft.{Draft}
use Rattle.cn_net.specs.declared.fault.NetFault.{NetFault}
use Rattle.cn_net.specs.declared.fault.NetFault.TheVariants as net
use Rattle.cn_net.specs.declared.fault.What.{What}
use Rattle.cn_net.specs.declared.fault.What.TheVariants.{Devices, Links, Prefixes, Emulated, Rows}
use Rattle.cn_text.specs.Printed.{newline, address, prefix_text}
use Rattle.cn_open.specs.declared.fault.PlanFault.{PlanFault}
use Rattle.cn_open.specs.declared.fault.PlanFault.TheVariants as plan

-- the name of a device of the draft, and its router id
abbrev pub written_name : Draft → DeviceId → List ℕ
written_name draft d = unwrap_or (option_map (λ x. x.name) (slice_get draft.devices d.0)) []

abbrev pub written_id : Draft → DeviceId → ℕ
written_id draft d = unwrap_or (option_map (λ x. x.id.0) (slice_get draft.devices d.0)) 0

abbrev pub written_pair : Draft → DeviceId → DeviceId → List ℕ
written_pair draft a b = written_name draft a ++ codes " " ++ written_name draft b

abbrev pub what_word : What → List ℕ
what_word Devices = codes "devices"
what_word Links = codes "links"
what_word Prefixes = codes "prefixes"
what_word Emulated = codes "emulated"
what_word Rows = codes "rows"

abbrev pub too_many_text : List ℕ → ℕ → List ℕ
too_many_text word count = codes "too many " ++ word ++ codes " " ++ decimal count

abbrev pub unknown_text : List ℕ → List ℕ
unknown_text name = codes "unknown name " ++ name

abbrev pub net_fault_text : Draft → NetFault → List ℕ
net_fault_text draft (net.TooMany what count) = too_many_text (what_word what) count
net_fault_text draft (net.DuplicateName name) = codes "name " ++ name ++ codes " twice"
net_fault_text draft (net.DuplicateId a b) =
    codes "router id " ++ address (written_id draft b) ++ codes " twice: " ++ written_pair draft a b
net_fault_text draft (net.DuplicateOwn device prefix) =
    codes "own " ++ prefix_text prefix ++ codes " twice in " ++ written_name draft device
net_fault_text draft (net.UnknownName name) = unknown_text name
net_fault_text draft (net.DuplicatePeer device peer) =
    codes "peer " ++ written_name draft peer ++ codes " twice in " ++ written_name draft device
net_fault_text draft (net.SelfLink device) = codes "self link " ++ written_name draft device
net_fault_text draft (net.DuplicateLink a b) =
    codes "link " ++ written_pair draft a b ++ codes " twice"
net_fault_text draft (net.SameAs a b) = codes "same as number " ++ written_pair draft a b

abbrev pub plan_fault_text : Draft → PlanFault → List ℕ
plan_fault_text draft (plan.Net fault) = net_fault_text draft fault
plan_fault_text draft (plan.Unknown name) = unknown_text name
plan_fault_text draft (plan.Repeat device prefix) =
    codes "record " ++ written_name draft device ++ codes " " ++ prefix_text prefix
    ++ codes " twice"
plan_fault_text draft (plan.TooMany what count) = too_many_text (what_word what) count

abbrev pub bad_net_line : Draft → PlanFault → List ℕ
bad_net_line draft fault = codes "bad net: " ++ plan_fault_text draft fault ++ newline
