-- Rows of records, and the order in which they stand.
use Rattle.std.specs.Prelude.{◌≡◌, ◌≤◌, ◌&&◌, Bool, List, Option, option_map, count_by}
use Rattle.std.specs.List.{find}
use Rattle.std.specs.List.Sorted.{IsStrictlySortedBy}
use Rattle.std.specs.Ordering.{nat_cmp, on, then_cmp}
use Rattle.std.specs.declared.cmp.Ordering.{Ordering}
use Rattle.std.specs.declared.cmp.Ordering.TheVariants.{Less}
use Rattle.cn_base.specs.Cidr.{Cidr, same_prefix}
use Rattle.cn_base.specs.Table.{prefix_cmp}
use Rattle.cn_base.specs.declared.ids.DeviceId.{DeviceId}
use Rattle.cn_base.specs.declared.route.Choice.{Choice}
use Rattle.cn_net.specs.Network.{same_device}
use Rattle.cn_record.specs.declared.saved.Row.{Row}

-- the row is that of d and p
abbrev pub is_row : DeviceId → Cidr → Row → Bool
is_row d p r = same_device r.device d && same_prefix r.prefix p

-- what the rows have for d and p
abbrev pub row_for : List Row → DeviceId → Cidr → Option Choice
row_for rows d p = option_map (λ r. r.choice) (find (is_row d p) rows)

-- devices go by their numbers, and the prefixes of one device by their bits and then by their
-- lengths
abbrev pub pair_cmp : DeviceId × Cidr → DeviceId × Cidr → Ordering
pair_cmp = then_cmp (on (λ x. x.0.0) nat_cmp) (on (λ x. x.1) prefix_cmp)

-- d and p stand before x and q
abbrev pub StandsBefore : DeviceId → Cidr → DeviceId → Cidr → Type 0
StandsBefore d p x q = pair_cmp (d, p) (x, q) ≡ Less

-- the device and the prefix of each row stand above those of the rows before it
abbrev pub AscendsByPair : List Row → Type 0
AscendsByPair rows = IsStrictlySortedBy (on (λ r. (r.device, r.prefix)) pair_cmp) rows

-- at least two of the rows are those of d and p
abbrev pub IsRepeated : List Row → DeviceId → Cidr → Type 0
IsRepeated rows d p = 2 ≤ count_by (is_row d p) rows

-- d and p are the first device and prefix that the rows repeat
pub record IsFirstRepeat (rows : List Row) (d : DeviceId) (p : Cidr) : Type 0 where
  pub repeated : IsRepeated rows d p
  pub first : (x : DeviceId) (q : Cidr) → IsRepeated rows x q → StandsBefore x q d p → ⊥
