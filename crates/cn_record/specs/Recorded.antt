-- A certified opening with records of its outside devices that are sound.
use Rattle.std.specs.Prelude.{List}
use Rattle.cn_net.specs.Islands.{label_of, outside_of}
use Rattle.cn_net.specs.Opening.{IsOpening, Opening}
use Rattle.cn_net.specs.Records.{AreSound}
use Rattle.cn_record.specs.Grouped.{AreIslandPrefixes}
use Rattle.cn_record.specs.Rows.{AscendsByPair}
use Rattle.cn_record.specs.Said.{said_by}
use Rattle.cn_record.specs.declared.islands.IslandPrefix.{IslandPrefix}
use Rattle.cn_record.specs.declared.saved.Row.{Row}

-- an opening, and the rows of what is recorded
pub record RecordedOpening : Type 0 where
  pub opening : Opening
  pub rows : List Row

-- what the rows say of the outside devices is sound
abbrev pub SaysSound : Opening → List Row → Type 0
SaysSound o rows = AreSound o.net (outside_of o.emulated) (label_of o.labels) (said_by o rows)

-- the opening is certified, the rows stand by device and then by prefix, and what they say is sound
pub record IsRecorded (r : RecordedOpening) : Type 0 where
  pub opening : IsOpening r.opening
  pub ascending : AscendsByPair r.rows
  pub sound : SaysSound r.opening r.rows

-- what a `Recorded` keeps beside that: the prefixes that islands originate, which no contract
-- speaks of
pub record IsKept (r : RecordedOpening) (list : List IslandPrefix) : Type 0 where
  pub recorded : IsRecorded r
  pub prefixes : AreIslandPrefixes r.opening.net (label_of r.opening.labels) list
