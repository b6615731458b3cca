use Rattle.std.proofs.Common.{◌≡◌, None, take}
use Rattle.cn_net.specs.Drafted.{draft_of}
use Rattle.cn_open.specs.Faults.{first_unknown}
use Rattle.cn_open.proofs.Selections.{Found}
use Rattle.cn_open.proofs.selection.devices_of.Given as goal

abbrev pub invariant-loop-name : goal.invariant-loop-name
invariant-loop-name l =
    Found l.net l.names l.devices.items l.name-index
    × (first_unknown (draft_of l.net) (take l.name-index l.names) ≡ None)
