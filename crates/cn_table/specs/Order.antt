-- The order of the keys of a table: by their bytes.
use Rattle.std.specs.Prelude.{◌≡◌, ◌⊎◌, ℕ, true, false, List, [], ◌∷◌, All, Contains}
use Rattle.std.specs.Cmp.Lexicographic.{slice_cmp}
use Rattle.std.specs.List.{list_any}
use Rattle.std.specs.List.Sorted.{IsStrictlySortedBy}
use Rattle.std.specs.Ordering.{is_lt, nat_cmp}
use Rattle.std.specs.Str.{bytes_eq}
use Rattle.toml.specs.Data.{Members, no_members, member}

-- the keys of a table, as its members stand
abbrev pub member_keys : Members → List (List ℕ)
member_keys no_members = []
member_keys (member k d ms) = k ∷ member_keys ms

-- each key is below those after it
abbrev pub KeysAscend : Members → Type 0
KeysAscend ms = IsStrictlySortedBy (slice_cmp nat_cmp) (member_keys ms)

-- k is a key of the table that isn't listed, and every other such key is above it
pub record IsLeastUnlisted (listed : List (List ℕ)) (ms : Members) (k : List ℕ) : Type 0 where
  pub key : Contains (member_keys ms) k
  pub unlisted : list_any (bytes_eq k) listed ≡ false
  pub least : All
      (λ q. list_any (bytes_eq q) listed ≡ false → (q ≡ k) ⊎ (is_lt (slice_cmp nat_cmp k q) ≡ true))
      (member_keys ms)
