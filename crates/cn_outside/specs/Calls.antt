-- How often the calls of a shelf were made, by kind and name.
use Rattle.std.specs.Prelude.{◌≡◌, ℕ, ◌+◌, ◌<◌, List, length, Bool, true, false, ◌&&◌, Result, IsErrOf}
use Rattle.std.specs.List.{count_by}
use Rattle.std.specs.Str.{bytes_eq}
use Rattle.std.specs.String.{string_bytes}
use Rattle.std.specs.Vec.{vec_len, vec_capacity}
use Rattle.std.specs.Global.{Vec}
use Rattle.cn_outside.specs.Shelf.{Files, Held, IsAnswered, RisesOnce, SameAtEach}
use Rattle.cn_outside.specs.declared.outside.ReadAnswer.{ReadAnswer}
use Rattle.cn_outside.specs.declared.outside.ReadAnswer.TheVariants.{Failed, Memory}
use Rattle.cn_outside.specs.declared.calls.CallKind.{CallKind}
use Rattle.cn_outside.specs.declared.calls.CallKind.TheVariants.{Read, FailedRead, Write, FailedWrite}
use Rattle.cn_outside.specs.declared.calls.Call.{Call}
use Rattle.cn_outside.specs.declared.calls.Calls.{Calls}

abbrev pub same_kind : CallKind → CallKind → Bool
same_kind Read Read = true
same_kind FailedRead FailedRead = true
same_kind Write Write = true
same_kind FailedWrite FailedWrite = true
same_kind _ _ = false

-- a call of that kind on that name
abbrev pub is_call : CallKind → List ℕ → Call → Bool
is_call kind name call = same_kind kind call.kind && bytes_eq name (string_bytes call.name)

-- how many calls of that kind were made on that name
abbrev pub calls_of : CallKind → Calls → List ℕ → ℕ
calls_of kind calls name = count_by (is_call kind name) calls.made.items

-- how many calls were made
abbrev pub call_count : Calls → ℕ
call_count calls = length calls.made.items

-- what is seen of a shelf that tells this of its names, and whose calls are these
abbrev pub counted : (List ℕ → Held) → Calls → Files
counted held calls = record {
  held = held;
  reads = calls_of Read calls;
  read_faults = calls_of FailedRead calls;
  writes = calls_of Write calls;
  write_faults = calls_of FailedWrite calls;
}

-- there is room for one more call
abbrev pub HasRoom : Calls → Type 0
HasRoom calls = vec_len calls.made < vec_capacity calls.made

-- a count rises by one at the name where the call is of its kind, and else it stays
abbrev pub Moves : Bool → List ℕ → (List ℕ → ℕ) → (List ℕ → ℕ) → Type 0
Moves true name before now = RisesOnce name before now
Moves false name before now = SameAtEach before now

-- One more call of that kind and name was made.
pub record NotesCall (kind : CallKind) (name : List ℕ) (before now : Calls) : Type 0 where
  pub reads : Moves (same_kind Read kind) name (calls_of Read before) (calls_of Read now)
  pub read_faults : Moves (same_kind FailedRead kind) name (calls_of FailedRead before)
      (calls_of FailedRead now)
  pub writes : Moves (same_kind Write kind) name (calls_of Write before) (calls_of Write now)
  pub write_faults : Moves (same_kind FailedWrite kind) name (calls_of FailedWrite before)
      (calls_of FailedWrite now)
  pub made : call_count now ≡ call_count before + 1

-- Which counts rise by a read of that name that is answered so.
pub record CountsRead (name : List ℕ) (before now : Calls) (answer : Result (Vec ℕ) ReadAnswer) :
    Type 0 where
  pub failed : IsErrOf answer Failed
      → RisesOnce name (calls_of FailedRead before) (calls_of FailedRead now)
  pub unfailed : ¬ IsErrOf answer Failed
      → SameAtEach (calls_of FailedRead before) (calls_of FailedRead now)
  pub answered : IsAnswered answer → RisesOnce name (calls_of Read before) (calls_of Read now)
  pub unanswered : ¬ IsAnswered answer → SameAtEach (calls_of Read before) (calls_of Read now)
  pub writes : SameAtEach (calls_of Write before) (calls_of Write now)
  pub write_faults : SameAtEach (calls_of FailedWrite before) (calls_of FailedWrite now)
  pub made : ¬ IsErrOf answer Memory → call_count now ≡ call_count before + 1
  pub unmade : IsErrOf answer Memory → call_count now ≡ call_count before
