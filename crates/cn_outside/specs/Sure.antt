-- What a shelf and an out in memory hold whose calls don't fail.
use Rattle.std.specs.Prelude.{ℕ, List, Some}
use Rattle.std.specs.BTreeMap.{get_by_text}
use Rattle.cn_outside.specs.Shelf.{Files, Held, Printed}
use Rattle.cn_outside.specs.Calls.{calls_of}
use Rattle.cn_outside.specs.Memory.{told_of}
use Rattle.cn_outside.specs.declared.calls.CallKind.TheVariants.{Read, FailedRead, Write}
use Rattle.cn_outside.specs.declared.sure.SureShelf.{SureShelf}
use Rattle.cn_outside.specs.declared.sure.SureOut.{SureOut}

abbrev pub sure_held : SureShelf → List ℕ → Held
sure_held shelf name = told_of (get_by_text shelf.files name)

-- its count of failed writes is 0 for ever, so that no write fails
abbrev pub sure_files : SureShelf → Files
sure_files shelf = record {
  held = sure_held shelf;
  reads = calls_of Read shelf.calls;
  read_faults = calls_of FailedRead shelf.calls;
  writes = calls_of Write shelf.calls;
  write_faults = λ n. 0;
}

-- its count of failed puts is 0 for ever, so that no put fails
abbrev pub sure_printed : SureOut → Printed
sure_printed out = record { taken = Some out.taken.items; puts = out.puts; faults = 0 }
