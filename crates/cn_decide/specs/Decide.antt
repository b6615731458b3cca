-- The decision between the routes that a device may use (RFC 4271, 9.1.2.2). `Rank.antt` of
-- `cn_base` has its steps, in the order of ranks.
use Rattle.std.specs.Prelude.{◌≡◌, ℕ, ◌<◌, Bool, true, false, List, length, slice_index_or, is_some, Option, Some, None, if◌then◌else◌}
use Rattle.cn_base.specs.Rank.{ranks_before}
use Rattle.cn_base.specs.declared.ids.Asn.{Asn}
use Rattle.cn_base.specs.declared.ids.Origin.{Origin}
use Rattle.cn_base.specs.declared.ids.RouterId.{RouterId}
use Rattle.cn_base.specs.declared.rank.Rank.{Rank}
use Rattle.cn_decide.specs.declared.Candidate.{Candidate}
use Rattle.cn_decide.specs.declared.Ranked.{Ranked}

-- ---- what is compared

-- the rank of a route of these parts
abbrev pub rank_with : Bool → List Asn → Origin → RouterId → Rank
rank_with learnt path origin sender = record {
  learnt = learnt;
  length = length path;
  origin = origin;
  sender = sender;
}

-- the rank of a candidate
abbrev pub rank_of : Candidate → Rank
rank_of c = rank_with (is_some c.from) c.route.path c.route.origin c.sender

-- ---- the step of the decision, whatever the ranks are of

-- the rank of x stands before that of y
unfoldable pub outranks_by : {A : Type 0} → (A → Rank) → A → A → Bool
outranks_by rank x y = ranks_before (rank x) (rank y)

-- the first of two, unless the second outranks it
abbrev pub better_by : {A : Type 0} → (A → Rank) → Option A → Option A → Option A
better_by rank None y = y
better_by rank (Some x) None = Some x
better_by rank (Some x) (Some y) = if outranks_by rank y x then Some y else Some x

-- something beside its rank
abbrev pub with_rank : {A : Type 0} → (A → Rank) → A → Ranked A
with_rank rank x = record { rank = rank x; item = x }

-- something else beside the same rank
abbrev pub on_item : {A B : Type 0} → (A → B) → Ranked A → Ranked B
on_item f r = record { rank = r.rank; item = f r.item }

-- the better of two, by the ranks that stand beside them
abbrev pub better : {A : Type 0} → Option (Ranked A) → Option (Ranked A) → Option (Ranked A)
better x y = better_by (λ r. r.rank) x y

-- ---- the pick of a list

-- the rank of candidate x stands before that of y
abbrev pub outranks : Candidate → Candidate → Bool
outranks x y = outranks_by rank_of x y

-- i is the first place of the least rank
pub record IsPick (candidates : List Candidate) (i : ℕ) : Type 0 where
  pub in_range : i < length candidates
  pub least : (k : ℕ) (d : Candidate) → k < length candidates
      → outranks (slice_index_or candidates k d) (slice_index_or candidates i d) ≡ false
  pub first : (k : ℕ) (d : Candidate) → k < i
      → outranks (slice_index_or candidates i d) (slice_index_or candidates k d) ≡ true
