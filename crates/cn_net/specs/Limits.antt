-- The limits on what is emulated: how many devices, and how many rows may be held for them.
use Rattle.std.specs.Prelude.{◌≡◌, ℕ, ◌+◌, ◌*◌, ◌<◌, ◌≤◌, cond, List, length}
use Rattle.std.specs.List.{sum_by}
use Rattle.std.specs.Set.{distinct_count}
use Rattle.cn_base.specs.Cidr.{same_prefix}
use Rattle.cn_base.specs.declared.ids.DeviceId.{DeviceId}
use Rattle.cn_net.specs.Islands.{holds_device}
use Rattle.cn_net.specs.Network.{Network, originated}
use Rattle.cn_net.specs.declared.device.Link.{Link}
use Rattle.cn_net.specs.declared.fault.What.{What}
use Rattle.cn_net.specs.declared.fault.What.TheVariants.{Devices, Links, Prefixes, Emulated, Rows}

-- how many ends of a link are emulated
abbrev pub emulated_ends : List DeviceId → Link → ℕ
emulated_ends set l = cond (holds_device set l.a) 1 0 + cond (holds_device set l.b) 1 0

-- the kept directed sessions: over a link, up or down, one towards each of its ends that is
-- emulated
abbrev pub session_count : Network → List DeviceId → ℕ
session_count net set = sum_by (emulated_ends set) net.links

-- the distinct prefixes that devices originate
abbrev pub prefix_count : Network → ℕ
prefix_count net = distinct_count same_prefix (originated net)

-- the rows that may be held: the kept sessions times the distinct prefixes
abbrev pub row_count : Network → List DeviceId → ℕ
row_count net set = session_count net set * prefix_count net

abbrev pub most_emulated : ℕ
most_emulated = 1024

abbrev pub most_rows : ℕ
most_rows = 16777216

-- neither limit is passed
pub record IsWithinLimits (net : Network) (set : List DeviceId) : Type 0 where
  pub few_emulated : length set ≤ most_emulated
  pub few_rows : row_count net set ≤ most_rows

-- the limit that is passed first, that on devices before that on rows, and how many of them there
-- are
abbrev pub PassesLimit : Network → List DeviceId → What → ℕ → Type 0
PassesLimit net set Emulated count = (count ≡ length set) × (most_emulated < length set)
PassesLimit net set Rows count =
    (length set ≤ most_emulated) × (count ≡ row_count net set) × (most_rows < row_count net set)
PassesLimit net set Devices count = ⊥
PassesLimit net set Links count = ⊥
PassesLimit net set Prefixes count = ⊥
