use Rattle.std.proofs.Common.{◌≡◌, drop, map, take}
use Rattle.cn_net.specs.Faults.{device_fault, first_from, first_in}
use Rattle.cn_net.specs.Numbered.{texts, written_names}
use Rattle.cn_net.proofs.repeat.distinct_devices.Given as goal

abbrev pub invariant-loop-i : goal.invariant-loop-i
invariant-loop-i l = record {
  names : texts l.names.keys ≡ written_names (take l.i l.devices);
  ids : l.ids.keys ≡ map (λ d. d.id) (take l.i l.devices);
  first : first_in device_fault l.devices
      ≡ first_from device_fault (take l.i l.devices) (drop l.i l.devices);
}
