use Rattle.std.proofs.Common.{None, false, take}
use Rattle.std.specs.Prelude.{All, MatchOption}
use Rattle.cn_record.specs.Rounds.{AreAll}
use Rattle.cn_record.specs.Steps.{AgreesFor, IsFirstAmong}
use Rattle.cn_record.proofs.soundness.first_unsound.Given as goal

abbrev pub invariant-loop-item : goal.invariant-loop-item
invariant-loop-item l = record {
  empty : AreAll None l.table;
  unmarked : AreAll false l.marks;
  found : MatchOption l.first (All (AgreesFor l.certified l.saved) (take l.item-index l.prefixes))
      (IsFirstAmong l.certified l.saved (take l.item-index l.prefixes));
}
