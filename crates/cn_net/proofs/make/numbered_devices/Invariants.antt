use Rattle.std.proofs.Common.{◌≡◌, drop, map, take}
use Rattle.cn_net.specs.Faults.{first_from, first_in, peers_fault}
use Rattle.cn_net.specs.Numbered.{device_made, texts}
use Rattle.cn_net.proofs.make.numbered_devices.Given as goal

abbrev pub invariant-loop-i : goal.invariant-loop-i
invariant-loop-i l = record {
  made : l.devices.items ≡ map (device_made (texts l.names.keys)) (take l.i l.drafts);
  first : first_in (peers_fault (texts l.names.keys)) l.drafts
      ≡ first_from (peers_fault (texts l.names.keys)) (take l.i l.drafts) (drop l.i l.drafts);
}
