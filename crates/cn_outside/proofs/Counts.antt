-- One more call counts at its own kind and name alone.
use Rattle.std.proofs.Common.{◌≡◌, ◌≢◌, ℕ, ◌+◌, Bool, true, false, cond, List, [], ◌∷◌, ◌++◌, length, Result, Ok, Err, refl, sym, subst, ap, ◌∙◌, arith}
use Rattle.std.specs.List.{count_by}
use Rattle.std.specs.Str.{bytes_eq}
use Rattle.std.specs.String.{string_bytes}
use Rattle.std.specs.Global.{Vec}
use Rattle.std.proofs.lemmas.Bool.{false_from_ne_true}
use Rattle.std.proofs.lemmas.Slice.Eq.{bytes_eq-Decides}
use Rattle.std.proofs.lemmas.List.{length_push}
use Rattle.std.proofs.lemmas.List.Sums.{sum_by_push}
use Rattle.cn_outside.specs.declared.calls.CallKind.{CallKind}
use Rattle.cn_outside.specs.declared.calls.CallKind.TheVariants.{Read, FailedRead, Write, FailedWrite}
use Rattle.cn_outside.specs.declared.calls.Call.{Call}
use Rattle.cn_outside.specs.declared.calls.Calls.{Calls}
use Rattle.cn_outside.specs.Calls.{call_count, calls_of, is_call, same_kind, CountsRead, Moves}
use Rattle.cn_outside.specs.declared.outside.ReadAnswer.{ReadAnswer}
use Rattle.cn_outside.specs.declared.outside.ReadAnswer.TheVariants as reads
use Rattle.cn_outside.specs.Shelf.{ReadsHeld, RisesOnce, SameAtEach, untold}

one_more : {X : Type 0} (p : X → Bool) (xs : List X) (x : X)
    → count_by p (xs ++ x ∷ []) ≡ count_by p xs + cond (p x) 1 0
one_more p xs x = sum_by_push (λ y. cond (p y) 1 0) xs x

same_self : (kind : CallKind) → same_kind kind kind ≡ true
same_self Read = refl
same_self FailedRead = refl
same_self Write = refl
same_self FailedWrite = refl

bytes_self : (name : List ℕ) → bytes_eq name name ≡ true
bytes_self name = (bytes_eq-Decides name name).1 refl

bytes_differ : (n name : List ℕ) → n ≢ name → bytes_eq n name ≡ false
bytes_differ n name ne =
    false_from_ne_true (bytes_eq n name) (λ t. ne ((bytes_eq-Decides n name).0 t))

counts_own : (call : Call) (calls : List Call)
    → count_by (is_call call.kind (string_bytes call.name)) (calls ++ call ∷ [])
    ≡ count_by (is_call call.kind (string_bytes call.name)) calls + 1
counts_own call calls =
    rw (
      one_more (is_call call.kind (string_bytes call.name)) calls call,
      same_self call.kind,
      bytes_self (string_bytes call.name),
    ) refl

counts_others : (call : Call) (calls : List Call) (n : List ℕ) → n ≢ string_bytes call.name
    → count_by (is_call call.kind n) (calls ++ call ∷ []) ≡ count_by (is_call call.kind n) calls
counts_others call calls n ne =
    rw (
      one_more (is_call call.kind n) calls call,
      same_self call.kind,
      bytes_differ n (string_bytes call.name) ne,
    ) (omega arith)

counts_kind : (other : CallKind) (call : Call) (calls : List Call) (n : List ℕ)
    → same_kind other call.kind ≡ false
    → count_by (is_call other n) (calls ++ call ∷ []) ≡ count_by (is_call other n) calls
counts_kind other call calls n ne =
    rw (one_more (is_call other n) calls call, ne) (omega arith)

-- the clauses of a list that got one more call
pub record Noted (kind : CallKind) (name : List ℕ) (before after : List Call) : Type 0 where
  pub own : RisesOnce name (λ n. count_by (is_call kind n) before)
      (λ n. count_by (is_call kind n) after)
  pub other_kinds : (other : CallKind) → same_kind other kind ≡ false → (n : List ℕ)
      → count_by (is_call other n) after ≡ count_by (is_call other n) before
  pub count : length after ≡ length before + 1

-- a call at the end of the list is noted
pub noted : (call : Call) (before after : List Call) → after ≡ before ++ call ∷ []
    → Noted call.kind (string_bytes call.name) before after
noted call before after e =
    let P : List Call → Type 0 = λ xs. Noted call.kind (string_bytes call.name) before xs in
    subst P (sym e) (record {
      own = record {
        rises = counts_own call before;
        others = λ n ne. counts_others call before n ne;
      };
      other_kinds = λ other ne n. counts_kind other call before n ne;
      count = length_push before call;
    })

-- each kind's count after a call is noted
pub moves_of : (other kind : CallKind) (name : List ℕ) (before after : List Call)
    → Noted kind name before after
    → Moves (same_kind other kind) name (λ n. count_by (is_call other n) before)
    (λ n. count_by (is_call other n) after)
moves_of Read Read name before after h = h.own
moves_of FailedRead FailedRead name before after h = h.own
moves_of Write Write name before after h = h.own
moves_of FailedWrite FailedWrite name before after h = h.own
moves_of other kind name before after h = h.other_kinds other refl

-- the count of a call whose place was taken first
pub rises_from : (f g h : List ℕ → ℕ) (copy name : List ℕ) → SameAtEach f g → RisesOnce copy g h
    → copy ≡ name → RisesOnce name f h
rises_from f g h copy name same rises e =
    let P : List ℕ → Type 0 = λ n. RisesOnce n f h in
    subst P e (record {
      rises = omega (arith, same copy, rises.rises);
      others = λ n ne. rises.others n ne ∙ same n;
    })

-- a count that was the same at two steps
pub same_from : (f g h : List ℕ → ℕ) → SameAtEach f g → SameAtEach g h → SameAtEach f h
same_from f g h first second n = second n ∙ first n

-- what a read counts, whose place was taken first
pub read_counts : (copy name : List ℕ) (before placed now : Calls)
    (answer : Result (Vec ℕ) ReadAnswer)
    → ((kind : CallKind) → SameAtEach (calls_of kind before) (calls_of kind placed))
    → call_count placed ≡ call_count before → CountsRead copy placed now answer → copy ≡ name
    → CountsRead name before now answer
read_counts copy name before placed now answer same count h e = record {
  failed = λ f. rises_from (calls_of FailedRead before) (calls_of FailedRead placed)
      (calls_of FailedRead now) copy name (same FailedRead) (h.failed f) e;
  unfailed = λ f. same_from (calls_of FailedRead before) (calls_of FailedRead placed)
      (calls_of FailedRead now) (same FailedRead) (h.unfailed f);
  answered = λ a. rises_from (calls_of Read before) (calls_of Read placed) (calls_of Read now) copy
      name (same Read) (h.answered a) e;
  unanswered = λ a. same_from (calls_of Read before) (calls_of Read placed) (calls_of Read now)
      (same Read) (h.unanswered a);
  writes = same_from (calls_of Write before) (calls_of Write placed) (calls_of Write now)
      (same Write) h.writes;
  write_faults = same_from (calls_of FailedWrite before) (calls_of FailedWrite placed)
      (calls_of FailedWrite now) (same FailedWrite) h.write_faults;
  made = λ m. h.made m ∙ ap (λ n. n + 1) count;
  unmade = λ m. h.unmade m ∙ count;
}

-- a shelf that tells nothing says nothing of what it read
pub untold_reads : (limit : ℕ) (result : Result (Vec ℕ) ReadAnswer)
    → ReadsHeld untold limit result
untold_reads limit (Ok bytes) = tt
untold_reads limit (Err reads.Failed) = tt
untold_reads limit (Err (reads.TooLong n)) = tt
untold_reads limit (Err reads.Memory) = tt
