-- Pools of paths.
use Rattle.std.specs.Prelude.{◌≡◌, ◌==◌, ◌&&◌, ℕ, ◌<◌, ◌≤◌, ◌^◌, ◌↔◌, Bool, List, [], ◌∷◌, ◌++◌, if◌then◌else◌, length, replicate, slice_get, Some, unwrap_or}
use Rattle.std.specs.List.{list_any}
use Rattle.std.specs.HashMap.{HashMap, get}
use Rattle.std.specs.declared.hash.BuildHasherDefault.{BuildHasherDefault}
use Rattle.std.specs.declared.hash.FoldHasher.{FoldHasher}
use Rattle.cn_base.specs.declared.ids.Asn.{Asn}
use Rattle.cn_base.specs.SamePath.{same_path}
use Rattle.cn_pool.specs.declared.pool.PathId.{PathId}
use Rattle.cn_pool.specs.declared.pool.Step.{Step}

-- the path is in the pool
abbrev pub holds_path : List (List Asn) → List Asn → Bool
holds_path pool path = list_any (same_path path) pool

-- the pool with a path: it goes last where it isn't in it
abbrev pub with_path : List (List Asn) → List Asn → List (List Asn)
with_path pool path = if holds_path pool path then pool else pool ++ path ∷ []

-- the path of an id, and the empty one where the pool gave no such id
abbrev pub path_under : List (List Asn) → PathId → List Asn
path_under pool id = unwrap_or (slice_get pool id.0) []

-- the path of an id with so many copies of a number in front (RFC 4271, 5.1.2 b)
abbrev pub longer_path : List (List Asn) → PathId → Asn → ℕ → List Asn
longer_path pool id asn times = replicate times asn ++ path_under pool id

-- the new pool has each path of the old one by the id that it had
pub record Extends (old new : List (List Asn)) : Type 0 where
  pub longer : length old ≤ length new
  pub kept : (i : ℕ) → i < length old → slice_get new i ≡ slice_get old i

-- the path is in the new pool, by this id, and each path of the old one by the id that it had
pub record Joins (old new : List (List Asn)) (path : List Asn) (id : PathId) : Type 0 where
  pub joined : new ≡ with_path old path
  pub there : slice_get new id.0 ≡ Some path
  pub kept : (i : ℕ) → i < length old → slice_get new i ≡ slice_get old i

-- no path stands at two places
pub record IsDistinct (pool : List (List Asn)) : Type 0 where
  pub one_place : (i j : ℕ) (path : List Asn) → slice_get pool i ≡ Some path
      → slice_get pool j ≡ Some path → i ≡ j

-- two ids are equal exactly where their paths are
abbrev pub SameIdLaw : Type 0
SameIdLaw =
    (pool : List (List Asn)) (i j : PathId) (p q : List Asn) → IsDistinct pool
    → slice_get pool i.0 ≡ Some p → slice_get pool j.0 ≡ Some q → (i ≡ j) ↔ (p ≡ q)

-- ---- what a pool keeps beside its paths
-- This is the private representation; contracts say of it that the paths are distinct.

-- the path that a step makes
abbrev pub path_after : List (List Asn) → Step → List Asn
path_after pool step = longer_path pool step.path step.asn step.times

-- the id is that of the path that a step makes
pub record IsLonger (pool : List (List Asn)) (step : Step) (id : PathId) : Type 0 where
  pub from : step.path.0 < length pool
  pub short : length (path_after pool step) ≤ 255
  pub longer : slice_get pool id.0 ≡ Some (path_after pool step)

-- the same path, number and count
abbrev pub same_step : Step → Step → Bool
same_step x y = x.path.0 == y.path.0 && (x.asn.0 == y.asn.0 && x.times == y.times)

-- what is known of longer paths
abbrev pub Known : Type 0
Known = HashMap Step PathId (BuildHasherDefault FoldHasher)

-- the paths are distinct and have ids, and what is known of longer paths is right
pub record IsPool (pool : List (List Asn)) (known : Known) : Type 0 where
  pub distinct : IsDistinct pool
  pub few : length pool ≤ 2 ^ 32
  pub right : (step : Step) (id : PathId) → get same_step known step ≡ Some id
      → IsLonger pool step id
