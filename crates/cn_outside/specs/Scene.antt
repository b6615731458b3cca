-- What is seen of a shelf and an out together.
use Rattle.cn_outside.specs.Shelf.{Files, Printed, SameAtEach, SameReads, SameWrites}

pub record Scene : Type 0 where
  pub files : Files
  pub printed : Printed

-- the scene of a shelf and an out of which this is seen
abbrev pub scene : Files → Printed → Scene
scene files printed = record { files = files; printed = printed }

-- each name holds what it held, and no count of reads or writes changed
pub record SameFiles (before now : Files) : Type 0 where
  pub held : SameAtEach before.held now.held
  pub reads : SameReads before now
  pub writes : SameWrites before now
