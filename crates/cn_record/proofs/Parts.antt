-- The order of the members, and how it ties them with their island.
use Rattle.std.proofs.Common.{◌≡◌, ◌+◌, false, List, get_or, arith}
use Rattle.std.specs.Cmp.{IsTotalOrder}
use Rattle.std.specs.List.Sorted.{IsSortedByKey}
use Rattle.std.specs.Ordering.{is_eq, is_lt, nat_cmp}
use Rattle.std.proofs.lemmas.Bool.Decides.{nat_tests}
use Rattle.std.proofs.lemmas.Cmp.{nat_cmp_total, on_total, then_total}
use Rattle.cn_base.specs.declared.ids.DeviceId.{DeviceId}
use Rattle.cn_record.specs.Grouped.{IsByIsland, is_member, member_cmp}
use Rattle.cn_record.specs.declared.islands.Member.{Member}

pub member_cmp_total : IsTotalOrder member_cmp
member_cmp_total =
    then_total (on_total (λ (m : Member). m.island.0) nat_cmp_total)
    (on_total (λ (m : Member). m.device.0) nat_cmp_total)

not_after : (x y : Member) → is_lt (member_cmp y x) ≡ false
    → is_lt (nat_cmp y.island.0 x.island.0) ≡ false
not_after x y h = grind (arith, nat_tests)

-- what stands by island and then by device ascends by island
pub islands_ascend : (members : List Member) → IsByIsland members
    → IsSortedByKey (λ m. m.island.0) nat_cmp members
islands_ascend members up k d low within =
    not_after (get_or members k d) (get_or members (k + 1) d) (up k d low within)

-- the order of islands ties a member with the island that it is of
pub is_member-ties : (i : DeviceId) (m : Member) → is_eq (nat_cmp m.island.0 i.0) ≡ is_member i m
is_member-ties i m = grind (arith, nat_tests)
