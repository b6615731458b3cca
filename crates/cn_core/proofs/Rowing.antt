-- The rows of one device stand together.
use Rattle.std.proofs.Common.{◌≡◌, List, arith}
use Rattle.std.specs.List.Sorted.{IsSortedByKey}
use Rattle.std.specs.Ordering.{is_eq, nat_cmp, on}
use Rattle.std.proofs.lemmas.Bool.Decides.{nat_tests}
use Rattle.cn_base.specs.Table.{prefix_cmp}
use Rattle.cn_base.specs.declared.ids.DeviceId.{DeviceId}
use Rattle.cn_lists.proofs.Order.{IsSortedByKey-first, IsSortedByKey-from_strict}
use Rattle.cn_net.specs.Network.{same_device}
use Rattle.cn_record.specs.Rows.{AscendsByPair}
use Rattle.cn_record.specs.declared.saved.Row.{Row}
use Rattle.cn_record.proofs.Pairs.{pair_cmp_total}

-- rows that ascend by device and prefix ascend by device
pub rows_ascend : (rows : List Row) → AscendsByPair rows
    → IsSortedByKey (λ r. r.device) (on (λ d. d.0) nat_cmp) rows
rows_ascend rows up =
    IsSortedByKey-first (λ (r : Row). r.device) (on (λ (d : DeviceId). d.0) nat_cmp)
    (on (λ (r : Row). r.prefix) prefix_cmp) rows
    (IsSortedByKey-from_strict pair_cmp_total (λ (r : Row). (r.device, r.prefix)) rows up)

-- a row ties with a device just where it is the device's
pub tie_is : (r : Row) (d : DeviceId)
    → is_eq (on (λ (x : DeviceId). x.0) nat_cmp r.device d) ≡ same_device r.device d
tie_is r d = grind (arith, nat_tests)
