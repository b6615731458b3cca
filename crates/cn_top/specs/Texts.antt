-- The texts that are put. Every line ends with one line feed.
use Rattle.std.specs.Prelude.{ℕ, codes, Bool, List, ◌++◌, length, Option, Some, None}
use Rattle.std.specs.Fmt.{decimal}
use Rattle.std.specs.List.{filter, flat_map}
use Rattle.std.specs.Option.{option_eq}
use Rattle.cn_base.specs.Cidr.{Cidr}
use Rattle.cn_base.specs.declared.ids.Asn.{Asn}
use Rattle.cn_base.specs.declared.ids.DeviceId.{DeviceId}
use Rattle.cn_base.specs.declared.route.Choice.{Choice}
use Rattle.cn_net.specs.Islands.{label_of}
use Rattle.cn_net.specs.Network.{Network, device_ids, name_of, same_device}
use Rattle.cn_net.specs.Opening.{Opening}
use Rattle.cn_cert.specs.declared.refusal.Refusal.{Refusal}
use Rattle.cn_cert.specs.declared.refusal.Refusal.TheVariants.{Facing, Origins}
use Rattle.cn_cert.specs.declared.refusal.Side.{Side}
use Rattle.cn_cert.specs.declared.refusal.Side.TheVariants.{Emulated, Outside}
use Rattle.cn_report.specs.Choice.{choice_text}
use Rattle.cn_report.specs.Standing.{paired}
use Rattle.cn_text.specs.Printed.{newline, prefix_text}
use Rattle.cn_plan.specs.Boundary.{BoundaryFault, of_certificate, of_record}

-- ---- fault lines

abbrev pub usage_line : List ℕ
usage_line =
    codes
    "usage: crystal plan FILE, serial FILE SCRIPT TRACE, replay FILE SCRIPT TRACE, save FILE, make PODS LEAVES RACKS SPINES SHIFT, sample PODS LEAVES RACKS SPINES SHIFT, live FILE SCRIPT TRACE WORKERS WATCHERS"
    ++ newline

abbrev pub unbuilt_line : List ℕ → List ℕ
unbuilt_line what = codes "not built yet: " ++ what ++ newline

abbrev pub unread_line : List ℕ → List ℕ
unread_line name = codes "cannot read " ++ name ++ newline

-- ---- refusals

abbrev pub side_word : Side → List ℕ
side_word Emulated = codes "emulated"
side_word Outside = codes "outside"

-- a device and its AS number
abbrev pub numbered : Network → DeviceId → Asn → List ℕ
numbered net d asn = name_of net d ++ codes " " ++ decimal asn.0

-- a prefix of an island
abbrev pub shared : Network → DeviceId → Cidr → List ℕ
shared net island prefix =
    codes "island " ++ name_of net island ++ codes " prefix " ++ prefix_text prefix

abbrev pub refusal_text : Network → Refusal → List ℕ
refusal_text net (Facing side island a a_asn b b_asn) =
    codes "facing " ++ side_word side ++ codes " island " ++ name_of net island ++ codes ": "
    ++ numbered net a a_asn ++ codes " " ++ numbered net b b_asn
refusal_text net (Origins island prefix inside elsewhere) =
    codes "origins " ++ shared net island prefix ++ codes ": " ++ paired net inside elsewhere

-- what a device holds or its record says, `none` where that is nothing
abbrev pub held_text : Network → Option Choice → List ℕ
held_text net None = codes "none"
held_text net (Some c) = choice_text net c

abbrev pub fault_text : Network → BoundaryFault → List ℕ
fault_text net (of_certificate refusal) = refusal_text net refusal
fault_text net (of_record d p held wanted) =
    codes "record " ++ name_of net d ++ codes " " ++ prefix_text p ++ codes ": held "
    ++ held_text net held ++ codes " wanted " ++ held_text net wanted

abbrev pub refused_line : Network → BoundaryFault → List ℕ
refused_line net fault = codes "refused " ++ fault_text net fault ++ newline

-- ---- a plan whose boundary is safe

abbrev pub emulate_line : Network → DeviceId → List ℕ
emulate_line net d = codes "emulate " ++ name_of net d ++ newline

-- the island with the label i is that of d
abbrev pub is_of : Opening → DeviceId → DeviceId → Bool
is_of o i d = option_eq same_device (label_of o.labels d) (Some i)

-- the labels of the islands: each is the number of one of the island's devices
unfoldable pub island_labels : Opening → List DeviceId
island_labels o = filter (λ d. is_of o d d) (device_ids o.net)

-- the devices of an island, by number
unfoldable pub members_of : Opening → DeviceId → List DeviceId
members_of o i = filter (is_of o i) (device_ids o.net)

-- an island, by the name of the device that is its label, and the names of its devices
abbrev pub island_line : Opening → DeviceId → List ℕ
island_line o i =
    codes "island " ++ name_of o.net i ++ codes ":"
    ++ flat_map (λ d. codes " " ++ name_of o.net d) (members_of o i) ++ newline

-- how many devices are emulated, and how many islands there are
abbrev pub counts_line : ℕ → ℕ → List ℕ
counts_line emulated islands =
    codes "certified emulated " ++ decimal emulated ++ codes " islands " ++ decimal islands
    ++ newline

-- the counts, the emulated devices, and the islands
abbrev pub plan_text : Opening → List ℕ
plan_text o =
    counts_line (length o.emulated) (length (island_labels o))
    ++ flat_map (emulate_line o.net) o.emulated ++ flat_map (island_line o) (island_labels o)
