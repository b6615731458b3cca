-- The links of a network as the devices at their ends see them.
use Rattle.std.specs.Prelude.{◌≡◌, ℕ, ◌+◌, ◌<◌, ◌≤◌, true, List, length, slice_index, slice_index_or}
use Rattle.std.specs.List.{All, AllPairs, Contains}
use Rattle.std.specs.List.Sorted.{IsPartitionPoint}
use Rattle.std.specs.Ordering.{nat_cmp, on, then_cmp}
use Rattle.std.specs.declared.cmp.Ordering.{Ordering}
use Rattle.std.specs.declared.cmp.Ordering.TheVariants.{Less}
use Rattle.cn_net.specs.Network.{joins}
use Rattle.cn_net.specs.declared.device.Link.{Link}
use Rattle.cn_net.specs.declared.neighbours.Neighbour.{Neighbour}

-- the link at a place, as its first and as its second end see it
abbrev pub seen_from_a : ℕ → Link → Neighbour
seen_from_a place l = record { of = l.a; device = l.b; link = place }

abbrev pub seen_from_b : ℕ → Link → Neighbour
seen_from_b place l = record { of = l.b; device = l.a; link = place }

-- n tells of one of the links, and that link joins n's two devices
pub record TellsOfLink (links : List Link) (n : Neighbour) : Type 0 where
  pub within : n.link < length links
  pub joined : (l : Link) → joins n.of n.device (slice_index_or links n.link l) ≡ true

-- first by the device that sees, then by the device that is seen
abbrev pub by_ends : Neighbour → Neighbour → Ordering
by_ends = then_cmp (on (λ n. n.of.0) nat_cmp) (on (λ n. n.device.0) nat_cmp)

-- each of the links stands in the list as its two ends see it, and nothing else does; the ends
-- ascend
pub record AreNeighbours (links : List Link) (list : List Neighbour) : Type 0 where
  pub each : All (TellsOfLink links) list
  pub first : (k : ℕ) (l : Link) → k < length links
      → Contains list (seen_from_a k (slice_index_or links k l))
  pub second : (k : ℕ) (l : Link) → k < length links
      → Contains list (seen_from_b k (slice_index_or links k l))
  pub ascending : AllPairs (λ x y. by_ends x y ≡ Less) list

-- the place at which what d sees begins: devices below d see what stands before it
pub record IsStart (list : List Neighbour) (d start : ℕ) : Type 0 where
  pub within : start ≤ length list
  pub parts : IsPartitionPoint (λ n. n.of.0 < d) (λ n. d ≤ n.of.0) list start

-- for each of count devices the place at which what it sees begins, and at the end that at which
-- the last part ends
pub record AreStarts (count : ℕ) (list : List Neighbour) (starts : List ℕ) : Type 0 where
  pub many : length starts ≡ count + 1
  pub each : (d : ℕ) → d ≤ count → IsStart list d (slice_index starts d)
