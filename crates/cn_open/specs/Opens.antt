-- What a plan's text opens with: the certified opening of its emulation with sound records.
use Rattle.std.specs.Prelude.{◌≡◌, ℕ, List, length}
use Rattle.std.specs.List.Sorted.{IsPermutation}
use Rattle.cn_plan.specs.Boundary.{IsSafe, IsSafeOpening, IsUnsafe}
use Rattle.cn_record.specs.Recorded.{IsRecorded, RecordedOpening}
use Rattle.cn_open.specs.Emulation.{Emulation, StandsFor, is_outside}

-- what an emulation opens with: its network and its emulated devices with the islands of the
-- others, behind a safe boundary, an entry of labels for each device, and its rows by device and
-- then by prefix
pub record OpensTo (e : Emulation) (r : RecordedOpening) : Type 0 where
  pub safe : IsSafeOpening e.net (is_outside e) e.rows r.opening
  pub recorded : IsRecorded r
  pub rows : IsPermutation e.rows r.rows
  pub labelled : length r.opening.labels ≡ length r.opening.net.devices

-- the bytes stand for an emulation with a safe boundary, which opens with this
abbrev pub Opens : List ℕ → RecordedOpening → Type 0
Opens bytes r = (e : Emulation) × StandsFor bytes e × OpensTo e r

-- the bytes stand for an emulation with a safe boundary
abbrev pub IsSafePlan : List ℕ → Type 0
IsSafePlan bytes = (e : Emulation) × StandsFor bytes e × IsSafe e.net (is_outside e) e.rows

-- the bytes stand for an emulation with an unsafe boundary
abbrev pub IsUnsafePlan : List ℕ → Type 0
IsUnsafePlan bytes = (e : Emulation) × StandsFor bytes e × IsUnsafe e.net (is_outside e) e.rows
