-- What a call leaves, and when each status comes.
use Rattle.std.specs.Prelude.{◌≡◌, ◌⊎◌, ℕ, ◌<◌, List, [], length, take}
use Rattle.cn_outside.specs.Shelf.{Files, RisesOnce}
use Rattle.cn_outside.specs.Scene.{Scene}
use Rattle.cn_top.specs.Deed.{Deed}
use Rattle.cn_top.specs.Ending.{Ends, HasFailed, IsWhole, IsWritten, KeepsNames, PutsFirst, PutsPart}
use Rattle.cn_top.specs.Form.{Among, Form, SameOutside, SameOver, read_at, reads_of, usage_form, writes_of}
use Rattle.cn_top.specs.Meaning.{GoesOn, IsRight, IsWrong, TellsAll}
use Rattle.cn_top.specs.Reading.{HasRead, RisesEach}
use Rattle.cn_top.specs.Wrong.{line_of, reads_until, status_of, unread_deed, usage_deed}
use Rattle.cn_top.specs.declared.status.Status.{Status}
use Rattle.cn_top.specs.declared.status.Status.TheVariants as status
use Rattle.cn_top.specs.declared.wrong.Wrong.{Wrong}

-- ---- the reads

-- k files were read, once each, and nothing is wrong with them; and then a read of the next failed
pub record HasUnread (form : Form) (k : ℕ) (before after : Files) : Type 0 where
  pub place : k < length (reads_of form)
  pub reads : RisesEach (take k (reads_of form)) before.reads after.reads
  pub failed : RisesOnce (read_at form k) before.read_faults after.read_faults
  pub good : GoesOn form k before.held

-- What is to be done after the reads. Each file that matters was read once, and no other: all of
-- them where nothing is wrong, and those up to the one that is wrong.
pub data Intends (form : Form) (before after : Files) (deed : Deed) : Type 0 where
  right : IsRight form before.held deed → HasRead (reads_of form) before after
      → Intends form before after deed
  wrong : (w : Wrong) → IsWrong form before.held w → deed ≡ line_of form w
      → HasRead (take (reads_until w) (reads_of form)) before after
      → Intends form before after deed
  misused : form ≡ usage_form → deed ≡ usage_deed → HasRead [] before after
      → Intends form before after deed
  unread : (k : ℕ) → HasUnread form k before after → deed ≡ unread_deed (read_at form k)
      → Intends form before after deed

-- the first files were read, once each; or a read of the next failed behind that
abbrev pub ReadsSoFar : Form → Files → Files → Type 0
ReadsSoFar form before after =
    ((k : ℕ) × HasRead (take k (reads_of form)) before after)
    ⊎ ((k : ℕ) × HasUnread form k before after)

-- ---- all that a call leaves

-- A deed was meant, and so it ends; or memory ran out before it was known what is to be done.
pub data Outcome (form : Form) (before after : Scene) (result : Status) : Type 0 where
  carried : (deed : Deed) → Intends form before.files after.files deed
      → Ends before after deed result → Outcome form before after result
  forgot : result ≡ status.NoMemory → ReadsSoFar form before.files after.files
      → KeepsNames before.files after.files → after.printed ≡ before.printed
      → Outcome form before after result

-- no read of a named file failed, no write and no put
pub record IsCalm (form : Form) (before after : Scene) : Type 0 where
  pub reads : SameOver (reads_of form) before.files.read_faults after.files.read_faults
  pub writes : SameOver (writes_of form) before.files.write_faults after.files.write_faults
  pub puts : after.printed.faults ≡ before.printed.faults

-- something is told of each name that is read
abbrev pub Tells : Form → Scene → Type 0
Tells form before = TellsAll (reads_of form) before.files.held

-- this status, or want of memory
abbrev pub IsUnlessMemory : Status → Status → Type 0
IsUnlessMemory result expected = (result ≡ expected) ⊎ (result ≡ status.NoMemory)

-- ---- the statuses

-- 0: nothing is wrong, and what is meant is done whole
pub record IsDone (form : Form) (before after : Scene) : Type 0 where
  pub deed : Deed
  pub right : IsRight form before.files.held deed
  pub reads : HasRead (reads_of form) before.files after.files
  pub whole : IsWhole before after deed

-- 1, 6, 7, 8 and 9
abbrev pub IsRefusal : Status → Type 0
IsRefusal status.Ok = ⊥
IsRefusal status.Refused = Unit {0}
IsRefusal status.Usage = ⊥
IsRefusal status.ReadFault = ⊥
IsRefusal status.WriteFault = ⊥
IsRefusal status.NoMemory = ⊥
IsRefusal status.BadText = Unit {0}
IsRefusal status.BadNet = Unit {0}
IsRefusal status.BadTrace = Unit {0}
IsRefusal status.Unbuilt = Unit {0}

-- what is first wrong has this status, and its line is put
pub record IsRefused (form : Form) (before after : Scene) (result : Status) : Type 0 where
  pub why : Wrong
  pub wrong : IsWrong form before.files.held why
  pub status : result ≡ status_of why
  pub reads : HasRead (take (reads_until why) (reads_of form)) before.files after.files
  pub whole : IsWhole before after (line_of form why)

-- 2: the words are no listed form, and the line of usage is put
pub record IsMisused (form : Form) (before after : Scene) : Type 0 where
  pub words : form ≡ usage_form
  pub reads : HasRead [] before.files after.files
  pub whole : IsWhole before after usage_deed

-- 3: a read failed, and the line with its name is put
pub record IsUnread (form : Form) (before after : Scene) : Type 0 where
  pub place : ℕ
  pub unread : HasUnread form place before.files after.files
  pub whole : IsWhole before after (unread_deed (read_at form place))

-- 4: a put failed, after the write and the first k texts; or the write failed, and nothing was put
pub data IsWriteFault (form : Form) (before after : Scene) : Type 0 where
  put_failed : (deed : Deed) (k : ℕ) → Intends form before.files after.files deed
      → k < length deed.puts → IsWritten deed.write before.files after.files
      → PutsPart k deed.puts before.printed after.printed → IsWriteFault form before after
  write_failed : (name : List ℕ) → Among (writes_of form) name
      → HasFailed name before.files after.files → after.printed ≡ before.printed
      → IsWriteFault form before after

-- 5: memory ran out before the write was done, and nothing was put; or after it and the first k
-- texts
pub data IsStarved (form : Form) (before after : Scene) : Type 0 where
  nothing_done : KeepsNames before.files after.files → after.printed ≡ before.printed
      → IsStarved form before after
  some_put : (deed : Deed) (k : ℕ) → Intends form before.files after.files deed
      → k < length deed.puts → IsWritten deed.write before.files after.files
      → PutsFirst k deed.puts before.printed after.printed → IsStarved form before after

-- ---- what a call leaves alone

-- no name but those that are written holds anything else, and no count rises but those of the names
-- that are read and written
pub record KeepsOthers (form : Form) (before after : Scene) : Type 0 where
  pub held : SameOutside (writes_of form) before.files.held after.files.held
  pub writes : SameOutside (writes_of form) before.files.writes after.files.writes
  pub write_faults : SameOutside (writes_of form) before.files.write_faults
      after.files.write_faults
  pub reads : SameOutside (reads_of form) before.files.reads after.files.reads
  pub read_faults : SameOutside (reads_of form) before.files.read_faults after.files.read_faults
