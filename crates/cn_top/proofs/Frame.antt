-- What a call leaves alone.
use Rattle.std.proofs.Common.{inl, inr, ℕ, List, Option, Some, None, take}
use Rattle.cn_outside.specs.Shelf.{Files}
use Rattle.cn_outside.specs.Scene.{Scene}
use Rattle.cn_top.specs.Deed.{Deed}
use Rattle.cn_top.specs.Ending.{Ends, IsWritten, IsUnwritten, KeepsNames, whole, unwritten, unput, unbegun, starved}
use Rattle.cn_top.specs.Form.{Form, SameOutside, read_at, reads_of, writes_of}
use Rattle.cn_top.specs.Outcome.{HasUnread, Intends, KeepsOthers, Outcome, ReadsSoFar, carried, forgot, misused, right, unread, wrong}
use Rattle.cn_top.specs.Reading.{HasRead}
use Rattle.cn_top.specs.Wrong.{reads_until}
use Rattle.cn_top.specs.declared.status.Status.{Status}
use Rattle.cn_top.proofs.EndingKinds.{WritesAmong, intends_writes}
use Rattle.cn_top.proofs.Readings.{among_get, each_outside, first_outside, held_outside, once_outside}

-- no name but these holds anything else, and no count of writes rises but theirs
record KeptWrites (names : List (List ℕ)) (before after : Files) : Type 0 where
  held : SameOutside names before.held after.held
  writes : SameOutside names before.writes after.writes
  faults : SameOutside names before.write_faults after.write_faults

-- no count of reads rises but those of these names
record KeptReads (names : List (List ℕ)) (before after : Files) : Type 0 where
  reads : SameOutside names before.reads after.reads
  faults : SameOutside names before.read_faults after.read_faults

module _ (form : Form) (before after : Files) where
  kept_names : KeepsNames before after → KeptWrites (writes_of form) before after
  kept_names k = record {
    held = λ n out. k.held n;
    writes = λ n out. k.writes n;
    faults = λ n out. k.faults n;
  }

  kept_written : (write : Option (List ℕ × List ℕ)) → WritesAmong (writes_of form) write
      → IsWritten write before after → KeptWrites (writes_of form) before after
  kept_written None among w = kept_names w
  kept_written (Some (name, bytes)) among w = record {
    held = held_outside (writes_of form) name before.held after.held among w.others;
    writes = once_outside (writes_of form) name before.writes after.writes among w.writes;
    faults = λ n out. w.faults n;
  }

  kept_unwritten : (write : Option (List ℕ × List ℕ)) → WritesAmong (writes_of form) write
      → IsUnwritten write before after → KeptWrites (writes_of form) before after
  kept_unwritten None among w = absurd w
  kept_unwritten (Some (name, bytes)) among w = record {
    held = held_outside (writes_of form) name before.held after.held among w.others;
    writes = λ n out. w.writes n;
    faults = once_outside (writes_of form) name before.write_faults after.write_faults among
        w.faults;
  }

  kept_read : (k : ℕ) → HasRead (take k (reads_of form)) before after
      → KeptReads (reads_of form) before after
  kept_read k r = record {
    reads = first_outside k (reads_of form) before.reads after.reads r.reads;
    faults = λ n out. r.faults n;
  }

  kept_unread : (k : ℕ) → HasUnread form k before after → KeptReads (reads_of form) before after
  kept_unread k u = record {
    reads = first_outside k (reads_of form) before.reads after.reads u.reads;
    faults = once_outside (reads_of form) (read_at form k) before.read_faults after.read_faults
        (among_get k (reads_of form) u.place) u.failed;
  }

  kept_so_far : ReadsSoFar form before after → KeptReads (reads_of form) before after
  kept_so_far (inl (k, r)) = kept_read k r
  kept_so_far (inr (k, u)) = kept_unread k u

  kept_meant : (deed : Deed) → Intends form before after deed
      → KeptReads (reads_of form) before after
  kept_meant deed (right r read) = record {
    reads = each_outside (reads_of form) before.reads after.reads read.reads;
    faults = λ n out. read.faults n;
  }
  kept_meant deed (wrong w r e read) = kept_read (reads_until w) read
  kept_meant deed (misused r e read) = record {
    reads = λ n out. read.reads n;
    faults = λ n out. read.faults n;
  }
  kept_meant deed (unread k has e) = kept_unread k has

module _ (form : Form) (before after : Scene) (result : Status) where
  kept_ends : (deed : Deed) → WritesAmong (writes_of form) deed.write
      → Ends before after deed result → KeptWrites (writes_of form) before.files after.files
  kept_ends deed among (whole is w) =
      kept_written form before.files after.files deed.write among w.written
  kept_ends deed among (unwritten is w quiet) =
      kept_unwritten form before.files after.files deed.write among w
  kept_ends deed among (unput k lt is w p) =
      kept_written form before.files after.files deed.write among w
  kept_ends deed among (unbegun is k quiet) = kept_names form before.files after.files k
  kept_ends deed among (starved k lt is w p) =
      kept_written form before.files after.files deed.write among w

  both : KeptWrites (writes_of form) before.files after.files
      → KeptReads (reads_of form) before.files after.files → KeepsOthers form before after
  both w r = record {
    held = w.held;
    writes = w.writes;
    write_faults = w.faults;
    reads = r.reads;
    read_faults = r.faults;
  }

  pub keeps_others : Outcome form before after result → KeepsOthers form before after
  keeps_others (carried deed i e) =
      both (kept_ends deed (intends_writes form before after result deed i) e)
      (kept_meant form before.files after.files deed i)
  keeps_others (forgot is r k quiet) =
      both (kept_names form before.files after.files k)
      (kept_so_far form before.files after.files r)
