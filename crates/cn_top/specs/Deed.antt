-- What a call means to do once its files are read.
use Rattle.std.specs.Prelude.{ℕ, List, Option, Some, None}
use Rattle.cn_top.specs.declared.deed.Deed as code
use Rattle.cn_top.specs.declared.deed.Written.{Written}
use Rattle.cn_top.specs.declared.status.Status.{Status}

-- a status; the name that is written first and what is written under it, if there is one; and the
-- texts that are put then, one put each
pub record Deed : Type 0 where
  pub status : Status
  pub write : Option (List ℕ × List ℕ)
  pub puts : List (List ℕ)

-- what is written without where it lies
abbrev pub write_view : Option Written → Option (List ℕ × List ℕ)
write_view None = None
write_view (Some written) = Some (written.name.now, written.octets)

-- a deed without where it lies
abbrev pub deed_view : code.Deed → Deed
deed_view deed =
    record { status = deed.status; write = write_view deed.write; puts = deed.puts }
