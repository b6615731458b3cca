-- What is to be done, from what the reads answered.
use Rattle.std.proofs.Common.{◌≡◌, ◌<◌, ◌-◌, ℕ, List, [], ◌∷◌, length, Option, Some, None, Result, IfOk, inl, inr, sym, ap, subst, ◌∙◌, take, arith}
use Rattle.std.proofs.lemmas.Result.{IfOk-weaker}
use Rattle.cn_outside.specs.Shelf.{Files, Held, IsTold, MayHold, Printed, RisesOnce, SameReads}
use Rattle.cn_outside.specs.Scene.{Scene}
use Rattle.cn_change.specs.declared.command.Command.{Command}
use Rattle.cn_net.specs.Opening.{Opening}
use Rattle.cn_open.specs.Opens.{Opens}
use Rattle.cn_record.specs.Recorded.{RecordedOpening}
use Rattle.cn_top.specs.Deed.{Deed, deed_view}
use Rattle.cn_top.specs.Ending.{Ends, IsWritten, IsUnwritten, KeepsNames, PutsFirst, PutsPart, whole, unwritten, unput, unbegun, starved}
use Rattle.cn_top.specs.Form.{Form, plan_form, read_at, reads_of, serial_form}
use Rattle.cn_top.specs.Meaning.{GoesOn, HoldsOpening, IsWrong, IsWrongPlan, plan_deed, run_deed}
use Rattle.cn_top.specs.Outcome.{HasUnread, Intends, Outcome, ReadsSoFar, carried, misused, right, unread, wrong}
use Rattle.cn_top.specs.Reading.{HasNotRead, HasRead, IsBadPlan, IsBadScript, MayHaveRead}
use Rattle.cn_top.specs.Serial.{IsRunOf, ReadsScript}
use Rattle.cn_top.specs.Wrong.{reads_until, refusal_of, unread_deed}
use Rattle.cn_top.specs.declared.deed.Deed as code
use Rattle.cn_top.specs.declared.serial.Run.{Run}
use Rattle.cn_top.specs.declared.status.Status.{Status}
use Rattle.cn_top.specs.declared.wrong.Wrong.{Wrong}
use Rattle.cn_top.proofs.Readings.{each_before, read_more, rises_after, rises_before}

-- ---- one answer

pub intends_wrong : {E : Type 0} (form : Form) (before after : Files) (w : Wrong) (file : List ℕ)
    (r : Result code.Deed E) → read_at form (reads_until w - 1) ≡ file → IsWrong form before.held w
    → HasRead (take (reads_until w) (reads_of form)) before after
    → IfOk r (λ d. deed_view d ≡ refusal_of file w)
    → IfOk r (λ d. Intends form before after (deed_view d))
intends_wrong form before after w file r last is read h =
    IfOk-weaker r (λ d. deed_view d ≡ refusal_of file w)
    (λ d. Intends form before after (deed_view d))
    (λ d e. wrong w is (e ∙ ap (λ (name : List ℕ). refusal_of name w) (sym last)) read) h

pub intends_unread : {E : Type 0} (form : Form) (before after : Files) (k : ℕ)
    (r : Result code.Deed E) → HasUnread form k before after
    → IfOk r (λ d. deed_view d ≡ unread_deed (read_at form k))
    → IfOk r (λ d. Intends form before after (deed_view d))
intends_unread form before after k r has h =
    IfOk-weaker r (λ d. deed_view d ≡ unread_deed (read_at form k))
    (λ d. Intends form before after (deed_view d)) (λ d e. unread k has e) h

pub intends_plan : {E : Type 0} (file : List ℕ) (before after : Files) (r : RecordedOpening)
    (o : Opening) (result : Result code.Deed E)
    → (bytes : List ℕ) × MayHold (before.held file) bytes × Opens bytes r
    → HasRead (file ∷ []) before after → o ≡ r.opening
    → IfOk result (λ d. deed_view d ≡ plan_deed o)
    → IfOk result (λ d. Intends (plan_form file) before after (deed_view d))
intends_plan file before after r o result (bytes, may, opens) read same h =
    IfOk-weaker result (λ d. deed_view d ≡ plan_deed o)
    (λ d. Intends (plan_form file) before after (deed_view d))
    (λ d e. right (record {
      recorded = r;
      opening = record { bytes = bytes; holding = may; opens = opens };
      does = e ∙ ap plan_deed same;
    }) read) h

-- what is wrong with the text of a plan
pub bad_plan : (held : Held) (w : Wrong)
    → (bytes : List ℕ) × MayHold held bytes × IsBadPlan bytes w → IsWrongPlan held w
bad_plan held w (bytes, may, (fault, is, e)) =
    (fault, record { bytes = bytes; holding = may; faulty = is }, e)

-- it is known after the first file
pub known_first : (held : Held) (w : Wrong) → IsWrongPlan held w → reads_until w ≡ 1
known_first held w (fault, has, e) = ap reads_until e

-- so the first file is the last that is read
pub last_first : (form : Form) (file : List ℕ) (held : Held) (w : Wrong) → read_at form 0 ≡ file
    → IsWrongPlan held w → read_at form (reads_until w - 1) ≡ file
last_first form file held w first is =
    ap (λ (n : ℕ). read_at form (n - 1)) (known_first held w is) ∙ first

-- and it alone is read for it
pub read_first : (form : Form) (file : List ℕ) (before after : Files) (w : Wrong)
    → take 1 (reads_of form) ≡ file ∷ [] → IsWrongPlan (before.held file) w
    → HasRead (file ∷ []) before after
    → HasRead (take (reads_until w) (reads_of form)) before after
read_first form file before after w first is read =
    subst (λ (names : List (List ℕ)). HasRead names before after)
    (sym first ∙ ap (λ (n : ℕ). take n (reads_of form)) (sym (known_first (before.held file) w is)))
    read

-- memory ran out before the first file was read or behind that
pub so_far_first : (form : Form) (file : List ℕ) (before after : Files)
    → take 1 (reads_of form) ≡ file ∷ [] → MayHaveRead file before after
    → ReadsSoFar form before after
so_far_first form file before after first (inl read) = inl (0, read)
so_far_first form file before after first (inr read) =
    inl (1, subst (λ (names : List (List ℕ)). HasRead names before after) (sym first) read)

-- ---- a plan and a script

module _ (file script trace : List ℕ) (before mid after : Files)
    (r : RecordedOpening) (kept : KeepsNames before mid)
    (plan : (bytes : List ℕ) × MayHold (before.held file) bytes × Opens bytes r)
    (first : HasRead (file ∷ []) before mid) where
  abbrev run_form : Form
  run_form = serial_form file script trace

  opened : HoldsOpening (before.held file) r
  opened = record { bytes = plan.0; holding = plan.1; opens = plan.2 }

  -- what is told of the script when it is read was told when the call began
  holding : (bytes : List ℕ) → MayHold (mid.held script) bytes → MayHold (before.held script) bytes
  holding bytes may = subst (λ (h : Held). MayHold h bytes) (kept.held script) may

  pub both_read : HasRead (script ∷ []) mid after → HasRead (reads_of run_form) before after
  both_read second = read_more (file ∷ []) (script ∷ []) before mid after first second

  -- the script is run
  pub intends_run : (commands : List Command) (run : Run) (d : Deed)
      → (bytes : List ℕ) × MayHold (mid.held script) bytes × ReadsScript bytes commands
      → HasRead (script ∷ []) mid after → IsRunOf r commands run → d ≡ run_deed trace run
      → Intends run_form before after d
  intends_run commands run d (bytes, may, is) second ran e =
      right (record {
        recorded = r;
        opening = opened;
        commands = commands;
        scripted = record { bytes = bytes; holding = holding bytes may; script = is };
        run = run;
        ran = ran;
        does = e;
      }) (both_read second)

  -- it is no script
  pub bad_script : (w : Wrong)
      → (bytes : List ℕ) × MayHold (mid.held script) bytes × IsBadScript bytes w
      → IsWrong run_form before.held w
  bad_script w (bytes, may, (none, e)) =
      inr (r, opened, record { bytes = bytes; holding = holding bytes may; none = none }, e)

  pub last_second : (w : Wrong)
      → (bytes : List ℕ) × MayHold (mid.held script) bytes × IsBadScript bytes w
      → read_at run_form (reads_until w - 1) ≡ script
  last_second w (bytes, may, (none, e)) =
      ap (λ (n : ℕ). read_at run_form (n - 1)) (ap reads_until e)

  pub read_second : (w : Wrong)
      → (bytes : List ℕ) × MayHold (mid.held script) bytes × IsBadScript bytes w
      → HasRead (script ∷ []) mid after
      → HasRead (take (reads_until w) (reads_of run_form)) before after
  read_second w (bytes, may, (none, e)) second =
      subst (λ (n : ℕ). HasRead (take n (reads_of run_form)) before after) (sym (ap reads_until e))
      (both_read second)

  -- memory ran out before the script was read or behind that
  pub so_far_second : MayHaveRead script mid after → ReadsSoFar run_form before after
  so_far_second (inl read) = inl (1, read_more (file ∷ []) [] before mid after first read)
  so_far_second (inr read) = inl (2, both_read read)

  -- it couldn't be read
  pub unread_second : HasNotRead script mid after → HasUnread run_form 1 before after
  unread_second read = record {
    place = omega arith;
    reads = each_before (file ∷ []) before.reads mid.reads after.reads first.reads read.reads;
    failed =
        rises_after script before.read_faults mid.read_faults after.read_faults first.faults
        read.faults;
    good = (r, opened);
  }

-- the first file couldn't be read
pub unread_first : (form : Form) (file : List ℕ) (before after : Files) → 0 < length (reads_of form)
    → read_at form 0 ≡ file → GoesOn form 0 before.held → HasNotRead file before after
    → HasUnread form 0 before after
unread_first form file before after lt first good read = record {
  place = lt;
  reads = read.reads;
  failed =
      subst (λ (name : List ℕ). RisesOnce name before.read_faults after.read_faults) (sym first)
      read.faults;
  good = good;
}

-- ---- an answer behind the reads, and its ending

-- the counts of reads stay behind what was read
read_on : (names : List (List ℕ)) (before mid after : Files) → SameReads mid after
    → HasRead names before mid → HasRead names before after
read_on names before mid after same r = record {
  reads = each_before names before.reads mid.reads after.reads r.reads same.done;
  faults = λ n. same.faults n ∙ r.faults n;
}

unread_on : (form : Form) (k : ℕ) (before mid after : Files) → SameReads mid after
    → HasUnread form k before mid → HasUnread form k before after
unread_on form k before mid after same u = record {
  place = u.place;
  reads = each_before (take k (reads_of form)) before.reads mid.reads after.reads u.reads
      same.done;
  failed = rises_before (read_at form k) before.read_faults mid.read_faults after.read_faults
      u.failed same.faults;
  good = u.good;
}

intends_on : (form : Form) (before mid after : Files) (deed : Deed) → SameReads mid after
    → Intends form before mid deed → Intends form before after deed
intends_on form before mid after deed same (right r read) =
    right r (read_on (reads_of form) before mid after same read)
intends_on form before mid after deed same (wrong w is e read) =
    wrong w is e (read_on (take (reads_until w) (reads_of form)) before mid after same read)
intends_on form before mid after deed same (misused is e read) =
    misused is e (read_on [] before mid after same read)
intends_on form before mid after deed same (unread k has e) =
    unread k (unread_on form k before mid after same has) e

written_from : (write : Option (List ℕ × List ℕ)) (before mid after : Files)
    → KeepsNames before mid → IsWritten write mid after → IsWritten write before after
written_from None before mid after k w = record {
  held = λ n. w.held n ∙ k.held n;
  writes = λ n. w.writes n ∙ k.writes n;
  faults = λ n. w.faults n ∙ k.faults n;
}
written_from (Some (name, bytes)) before mid after k w = record {
  own = λ t. w.own (subst IsTold (sym (k.held name)) t);
  others = λ n ne. w.others n ne ∙ k.held n;
  writes = rises_after name before.writes mid.writes after.writes k.writes w.writes;
  faults = λ n. w.faults n ∙ k.faults n;
}

unwritten_from : (write : Option (List ℕ × List ℕ)) (before mid after : Files)
    → KeepsNames before mid → IsUnwritten write mid after → IsUnwritten write before after
unwritten_from None before mid after k w = absurd w
unwritten_from (Some (name, bytes)) before mid after k w = record {
  others = λ n ne. w.others n ne ∙ k.held n;
  writes = λ n. w.writes n ∙ k.writes n;
  faults = rises_after name before.write_faults mid.write_faults after.write_faults k.faults
      w.faults;
}

module _ (before mid after : Scene) (deed : Deed) (result : Status)
    (k : KeepsNames before.files mid.files) (quiet : mid.printed ≡ before.printed) where
  put_from : (P : Printed → Type 0) → P mid.printed → P before.printed
  put_from P h = subst P quiet h

  ends_from : Ends mid after deed result → Ends before after deed result
  ends_from (whole is w) = whole is (record {
    written = written_from deed.write before.files mid.files after.files k w.written;
    put = put_from (λ (p : Printed). PutsFirst (length deed.puts) deed.puts p after.printed) w.put;
  })
  ends_from (unwritten is w p) =
      unwritten is (unwritten_from deed.write before.files mid.files after.files k w) (p ∙ quiet)
  ends_from (unput n lt is w p) =
      unput n lt is (written_from deed.write before.files mid.files after.files k w)
      (put_from (λ (q : Printed). PutsPart n deed.puts q after.printed) p)
  ends_from (unbegun is w p) = unbegun is (record {
    held = λ n. w.held n ∙ k.held n;
    writes = λ n. w.writes n ∙ k.writes n;
    faults = λ n. w.faults n ∙ k.faults n;
  }) (p ∙ quiet)
  ends_from (starved n lt is w p) =
      starved n lt is (written_from deed.write before.files mid.files after.files k w)
      (put_from (λ (q : Printed). PutsFirst n deed.puts q after.printed) p)

  -- a deed that was meant and carried out
  pub carried_on : (form other : Form) → other ≡ form → SameReads mid.files after.files
      → Intends other before.files mid.files deed → Ends mid after deed result
      → Outcome form before after result
  carried_on form other is same i e =
      carried deed (intends_on form before.files mid.files after.files deed same
      (subst (λ (f : Form). Intends f before.files mid.files deed) is i)) (ends_from e)
