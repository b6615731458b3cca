use Rattle.std.specs.BTreeMap.{get}
use Rattle.cn_base.specs.declared.ids.DeviceId.{DeviceId}
use Rattle.cn_net.specs.Islands.{label_of}
use Rattle.cn_cert.specs.Steps.{IsLeastAmong, id_cmp}
use Rattle.cn_cert.proofs.Named.{IsEarly}
use Rattle.cn_cert.proofs.islands.least_devices.Given as goal

abbrev pub invariant-loop-number : goal.invariant-loop-number
invariant-loop-number l =
    (i : DeviceId) → IsLeastAmong (IsEarly (label_of l.labels) l.number i) (get id_cmp l.least i)
