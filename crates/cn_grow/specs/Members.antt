-- The members that were found so far, as the code keeps them. These are words of the crate's
-- private functions alone: what `grow` gives is said by `IsGrown`, and no layer above needs them.
use Rattle.std.specs.Prelude.{◌≡◌, ◌⊎◌, ◌++◌, Bool, true, false, cond, List, [], ◌∷◌, length, take, slice_index_or}
use Rattle.std.specs.List.{count_by}
use Rattle.cn_base.specs.declared.ids.DeviceId.{DeviceId}
use Rattle.cn_net.specs.Islands.{holds_device}

-- the marks are those of the members, and each member stands once in the list
pub record IsMarked (marks : List Bool) (members : List DeviceId) : Type 0 where
  pub marked : (d : DeviceId) → slice_index_or marks d.0 false ≡ holds_device members d
  pub once : length members ≡ count_by (λ m. m) marks

-- the list with d behind it, unless it holds d
abbrev pub with_member : DeviceId → List DeviceId → List DeviceId
with_member d members = cond (holds_device members d) members (members ++ d ∷ [])

-- one list begins with the other, holds each device with a property, and holds beside these no
-- other device
pub record IsExtended (P : DeviceId → Type 0) (from to : List DeviceId) : Type 0 where
  pub front : take (length from) to ≡ from
  pub all : (d : DeviceId) → P d → holds_device to d ≡ true
  pub only : (d : DeviceId) → holds_device to d ≡ true → (holds_device from d ≡ true) ⊎ P d
